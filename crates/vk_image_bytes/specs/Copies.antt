-- Copies with images, as copies of ranges of numbers.
use Rattle.std.specs.Prelude.{◌≡◌, ℕ, ◌+◌, ◌≤◌, List, map, Contains, false}
use Rattle.std.specs.List.{flat_map}
use Rattle.vk_model.specs.declared.command.BufferCopy.{BufferCopy}
use Rattle.vk_model.specs.declared.command.BufferImageCopy.{BufferImageCopy}
use Rattle.vk_model.specs.declared.command.ImageCopy.{ImageCopy}
use Rattle.vk_model.specs.declared.resource.ImageInfo.{ImageInfo}
use Rattle.vk_model.specs.Basics.{below}
use Rattle.vk_model.specs.Trace.Image.{texel}
use Rattle.vk_model.specs.Rules.Ranges.{bad_box, region_past}
use Rattle.vk_model.specs.World.Areas.{region_box, source_box, destination_box}
use Rattle.vk_model.specs.World.Bytes.{Byte}
use Rattle.vk_model.specs.World.ByteWrites.{ByteWrite, byte_write, From}

-- The byte writes of a copy of numbers, where the bytes of the source and of the destination are these by their numbers.
abbrev pub numbered_writes : (ℕ → Byte) → (ℕ → Byte) → BufferCopy → List ByteWrite
numbered_writes from to g = map (λ k. byte_write (to (g.destination_offset + k)) (From (from (g.source_offset + k)))) (below g.size)

-- Copies of numbers make the same byte writes as a command, in the same order, and lie in a source and a destination of so many bytes.
pub record AreCopies (from to : ℕ → Byte) (source_size destination_size : ℕ) (ws : List ByteWrite) (gs : List BufferCopy) : Type 0 where
  pub writes : flat_map (numbered_writes from to) gs ≡ ws
  pub reads_within : (g : BufferCopy) → Contains gs g → g.source_offset + g.size ≤ source_size
  pub writes_within : (g : BufferCopy) → Contains gs g → g.destination_offset + g.size ≤ destination_size

-- A region of a copy with a buffer of some bytes lies in an image and in the buffer (Vulkan, "Copying Data Between Buffers and Images").
pub record IsInside (m : ImageInfo) (buffer_size : ℕ) (g : BufferImageCopy) : Type 0 where
  pub box : bad_box m (region_box g) ≡ false
  pub rows : region_past buffer_size (texel m.format) g ≡ false

-- All regions do.
abbrev pub AreInside : ImageInfo → ℕ → List BufferImageCopy → Type 0
AreInside m buffer_size gs = (g : BufferImageCopy) → Contains gs g → IsInside m buffer_size g

-- The regions of a copy between images lie in them (Vulkan, "Copying Data Between Images").
pub record AreBetween (s d : ImageInfo) (gs : List ImageCopy) : Type 0 where
  pub texels : texel s.format ≡ texel d.format
  pub sources : (g : ImageCopy) → Contains gs g → bad_box s (source_box g) ≡ false
  pub destinations : (g : ImageCopy) → Contains gs g → bad_box d (destination_box g) ≡ false
