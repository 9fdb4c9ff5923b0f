-- The bytes of buffers and images, by where they lie in memory.
use Rattle.std.specs.Prelude.{ℕ, ◌+◌, List, Bool, ◌&&◌, ◌==◌, nat_lt, slice_index, Option, Some, None, if◌then◌else◌}
use Rattle.vk_model.specs.declared.resource.ImageInfo.{ImageInfo}
use Rattle.vk_model.specs.Trace.Image.{texel, level_width, level_height, image_size}
use Rattle.vk_model.specs.Memory.Addresses.{address}
use Rattle.vk_model.specs.World.Bytes.{Byte, in_buffer, in_image, resource_at}

-- What lies in memory: a buffer of some bytes, or an image.
pub data Form : Type 0 where
  BufferOf : (size : ℕ) → Form
  ImageOf : ImageInfo → Form

-- A resource that lies in a region from a place on (Vulkan, "Resource Memory Association").
pub record Held : Type 0 where
  pub region : List ℕ
  pub start : ℕ
  pub form : Form

-- The bytes that it asks for (Vulkan, "Resource Memory Association").
abbrev pub form_size : Form → ℕ
form_size (BufferOf n) = n
form_size (ImageOf m) = image_size m m.tiling

-- Whether an image has byte p of texel (x, y) of a level and a layer (Vulkan, "Images").
abbrev pub has_byte : ImageInfo → (level layer x y p : ℕ) → Bool
has_byte m level layer x y p = nat_lt level m.levels && nat_lt layer m.layers && nat_lt x (level_width m level) && nat_lt y (level_height m level) && nat_lt p (texel m.format)

-- Where a byte lies, counted from the resource's first; none where the resource has no such byte.
abbrev pub place_of : Form → Byte → Option ℕ
place_of (BufferOf n) (in_buffer b k) = if nat_lt k n then Some k else None
place_of (BufferOf n) (in_image i level layer x y p) = None
place_of (ImageOf m) (in_buffer b k) = None
place_of (ImageOf m) (in_image i level layer x y p) = if has_byte m level layer x y p then Some (address m m.tiling level layer x y + p) else None

-- What a byte of a resource holds; 0 stands for bytes that lie nowhere.
abbrev pub byte_held : Option Held → Byte → ℕ
byte_held None c = 0
byte_held (Some h) c = elim (place_of h.form c) [ None ↦ 0 | Some k ↦ slice_index h.region (h.start + k) ]

-- The bytes of resources, each of which lies somewhere, or nowhere.
abbrev pub bytes_held : (ℕ → Option Held) → Byte → ℕ
bytes_held held c = byte_held (held (resource_at c)) c

-- A buffer of some bytes that lies in a region from a place on.
abbrev pub buffer_at : List ℕ → ℕ → ℕ → Held
buffer_at region start size = record { region = region; start = start; form = BufferOf size }

-- An image that lies in a region from a place on.
abbrev pub image_at : List ℕ → ℕ → ImageInfo → Held
image_at region start m = record { region = region; start = start; form = ImageOf m }

-- One resource lies somewhere, and no other does.
abbrev pub one_held : ℕ → Held → ℕ → Option Held
one_held i h c = if i == c then Some h else None

-- Two resources lie somewhere, and no other does.
abbrev pub two_held : ℕ → Held → ℕ → Held → ℕ → Option Held
two_held s h d k c = if d == c then Some k else if s == c then Some h else None
