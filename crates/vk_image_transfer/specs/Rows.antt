-- Rows of texels in a region of memory, and what is written there.
use Rattle.std.specs.Prelude.{◌≡◌, ℕ, ◌+◌, ◌<◌, ◌≤◌, List, length, slice_index}
use Rattle.vk_model.specs.declared.command.BufferImageCopy.{BufferImageCopy}
use Rattle.vk_model.specs.declared.command.SubresourceRange.{SubresourceRange}
use Rattle.vk_model.specs.declared.resource.ImageInfo.{ImageInfo}
use Rattle.vk_model.specs.Trace.Image.{level_width, level_height}
use Rattle.vk_model.specs.Memory.Addresses.{address}
use Rattle.vk_model.specs.World.Areas.{Box}
use Rattle.vk_model.specs.World.ByteWrites.{buffer_texel}
use Rattle.vk_transfer.specs.Ran.{AreApart}

-- The texels of a row have been written, so many of so many bytes, each at its place: byte p of texel x has its value, and no other byte of the region has changed.
pub record AreWritten (old new : List ℕ) (count texel_bytes : ℕ) (place : ℕ → ℕ) (value : ℕ → ℕ → ℕ) : Type 0 where
  pub size : length new ≡ length old
  pub there : (x p : ℕ) → x < count → p < texel_bytes → slice_index new (place x + p) ≡ value x p
  pub kept : (k : ℕ) → ((x p : ℕ) → x < count → p < texel_bytes → place x + p ≡ k → ⊥) → slice_index new k ≡ slice_index old k

-- Where texel x of a row begins that starts with texel (first, y) of a level and a layer, of an image that lies from a place on.
abbrev pub image_row : ImageInfo → (start level layer first y : ℕ) → ℕ → ℕ
image_row m start level layer first y x = start + address m m.tiling level layer (first + x) y

-- Where texel x of a row of a region begins, of a buffer that lies from a place on, for texels of t bytes (Vulkan, "Buffer and Image Addressing").
abbrev pub buffer_row : BufferImageCopy → (t start z y : ℕ) → ℕ → ℕ
buffer_row g t start z y x = start + buffer_texel g t z y x 0

-- A box of texels lies in an image (Vulkan, "Copying Data Between Images").
pub record BoxFits (m : ImageInfo) (k : Box) : Type 0 where
  pub level : k.level < m.levels
  pub layers : k.first_layer + k.layers ≤ m.layers
  pub columns : k.x + k.width ≤ level_width m k.level
  pub rows : k.y + k.height ≤ level_height m k.level

-- The texels of a region lie in a buffer of some bytes (Vulkan, "Buffer and Image Addressing").
abbrev pub RegionFits : BufferImageCopy → (t size : ℕ) → Type 0
RegionFits g t size = (z y x p : ℕ) → z < g.layers → y < g.height → x < g.width → p < t → buffer_texel g t z y x p < size

-- The texels of a region lie in a buffer of some bytes, which shares none with what lies at another place of the region of memory (Vulkan, "Memory Aliasing").
pub record LiesApart (g : BufferImageCopy) (t start other size : ℕ) : Type 0 where
  pub bytes : ℕ
  pub fits : RegionFits g t bytes
  pub apart : AreApart start bytes other size

-- The texels of the one row and those of the other share no byte.
abbrev pub RowsApart : (count t : ℕ) → (ℕ → ℕ) → (ℕ → ℕ) → Type 0
RowsApart count t one other = (x u p q : ℕ) → x < count → u < count → p < t → q < t → one x + p ≡ other u + q → ⊥

-- All texels of level k of a range's layers (Vulkan, "Images", on `VkImageSubresourceRange`).
abbrev pub level_box : ImageInfo → SubresourceRange → ℕ → Box
level_box m r k = record { level = k; first_layer = r.first_layer; layers = r.layers; x = 0; y = 0; width = level_width m k; height = level_height m k }
