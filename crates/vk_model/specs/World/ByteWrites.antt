-- What a command writes, byte by byte, and where each value comes from.
use Rattle.std.specs.Prelude.{ℕ, ◌+◌, ◌-◌, ◌*◌, ◌/◌, ◌%◌, List, [], map, ◌==◌, if◌then◌else◌, Option, Some, None, slice_index}
use Rattle.std.specs.List.{flat_map, enumerate_from}
use Rattle.vk_model.specs.declared.command.Cmd.{Cmd}
use Rattle.vk_model.specs.declared.command.Cmd.TheVariants as cmd
use Rattle.vk_model.specs.declared.command.Length.{Length}
use Rattle.vk_model.specs.declared.command.Length.TheVariants as length_of
use Rattle.vk_model.specs.declared.command.BufferCopy.{BufferCopy}
use Rattle.vk_model.specs.declared.command.BufferImageCopy.{BufferImageCopy}
use Rattle.vk_model.specs.declared.command.ImageCopy.{ImageCopy}
use Rattle.vk_model.specs.declared.command.SubresourceRange.{SubresourceRange}
use Rattle.vk_model.specs.declared.resource.ImageInfo.{ImageInfo}
use Rattle.vk_model.specs.Basics.{below, grid, byte_of}
use Rattle.vk_model.specs.Trace.Image.{texel, component, level_width, level_height}
use Rattle.vk_model.specs.Trace.Point.{Past}
use Rattle.vk_model.specs.Trace.Objects.{buffer, image}
use Rattle.vk_model.specs.World.Bytes.{Byte, in_buffer, in_image}

-- Where a written byte comes from: a value of the command, or another byte as it was before the command.
pub data Source : Type 0 where
  Value : ℕ → Source
  From : Byte → Source

-- One byte that a command writes.
pub record ByteWrite : Type 0 where
  pub to : Byte
  pub source : Source

-- The write of a byte from a source.
abbrev pub byte_write : Byte → Source → ByteWrite
byte_write b s = record { to = b; source = s }

-- ---- lengths and addresses

-- The bytes of a buffer; what is no buffer has none.
abbrev pub buffer_size : Past → ℕ → ℕ
buffer_size past i = elim (buffer past i) [ None ↦ 0 | Some b ↦ b.size ]

-- The bytes that a fill writes: one to the end leaves a rest that isn't a whole word (Vulkan, "Filling Buffers").
abbrev pub fill_size : ℕ → ℕ → Length → ℕ
fill_size size offset (length_of.Bytes n) = n
fill_size size offset length_of.Whole = (size - offset) / 4 * 4

-- The texels from one row to the next in the buffer: 0 means the region's width (Vulkan, "Buffer and Image Addressing").
abbrev pub row_texels : BufferImageCopy → ℕ
row_texels g = if g.row_length == 0 then g.width else g.row_length

-- The rows from one layer to the next in the buffer: 0 means the region's height (Vulkan, "Buffer and Image Addressing").
abbrev pub layer_rows : BufferImageCopy → ℕ
layer_rows g = if g.image_height == 0 then g.height else g.image_height

-- Where a region has byte b of texel (x, y) of its layer z in the buffer, for texels of t bytes (Vulkan, "Buffer and Image Addressing").
abbrev pub buffer_texel : BufferImageCopy → ℕ → ℕ → ℕ → ℕ → ℕ → ℕ
buffer_texel g t z y x b = g.buffer_offset + ((z * layer_rows g + y) * row_texels g + x) * t + b

-- And where it has it in the image (Vulkan, "Copying Data Between Buffers and Images").
abbrev pub image_texel : ℕ → BufferImageCopy → ℕ → ℕ → ℕ → ℕ → Byte
image_texel i g z y x b = in_image i g.level (g.first_layer + z) (g.x + x) (g.y + y) b

-- Byte b of a texel of a color: the components follow each other, little-endian, and one that is too large keeps its low bits (Vulkan, "Clear Values"; the low bits: profile).
abbrev pub color_byte : ImageInfo → List ℕ → ℕ → ℕ
color_byte m color b = byte_of (slice_index color (b / component m.format)) (b % component m.format)

-- The bytes of one level of a range's layers, each with its place in its texel (Vulkan, "Images").
abbrev pub level_bytes : ℕ → ImageInfo → SubresourceRange → ℕ → List (Byte × ℕ)
level_bytes i m r level = grid r.layers (level_height m level) (level_width m level) (texel m.format) (λ z y x b. (in_image i level (r.first_layer + z) x y b, b))

-- The bytes of a range of levels and layers (Vulkan, "Images", on `VkImageSubresourceRange`).
abbrev pub subresource_bytes : ℕ → ImageInfo → SubresourceRange → List (Byte × ℕ)
subresource_bytes i m r = flat_map (λ k. level_bytes i m r (r.first_level + k)) (below r.levels)

-- ---- the byte writes of each command

-- Of one region of a buffer copy (Vulkan, "Copying Data Between Buffers").
abbrev pub copy_writes : ℕ → ℕ → BufferCopy → List ByteWrite
copy_writes s d g = map (λ k. byte_write (in_buffer d (g.destination_offset + k)) (From (in_buffer s (g.source_offset + k)))) (below g.size)

-- Of one byte of a clear.
abbrev pub clear_write : ImageInfo → List ℕ → Byte × ℕ → ByteWrite
clear_write m color p = byte_write p.0 (Value (color_byte m color p.1))

-- Of one range of a clear (Vulkan, "Clearing Images Outside a Render Pass Instance").
abbrev pub clear_writes : ℕ → List ℕ → Option ImageInfo → SubresourceRange → List ByteWrite
clear_writes i color None r = []
clear_writes i color (Some m) r = map (clear_write m color) (subresource_bytes i m r)

-- Of one region of a copy from a buffer to an image (Vulkan, "Copying Data Between Buffers and Images").
abbrev pub copy_in_writes : ℕ → ℕ → Option ImageInfo → BufferImageCopy → List ByteWrite
copy_in_writes b i None g = []
copy_in_writes b i (Some m) g = grid g.layers g.height g.width (texel m.format)
    (λ z y x k. byte_write (image_texel i g z y x k) (From (in_buffer b (buffer_texel g (texel m.format) z y x k))))

-- Of one region of a copy from an image to a buffer (Vulkan, "Copying Data Between Buffers and Images").
abbrev pub copy_out_writes : ℕ → ℕ → Option ImageInfo → BufferImageCopy → List ByteWrite
copy_out_writes i b None g = []
copy_out_writes i b (Some m) g = grid g.layers g.height g.width (texel m.format)
    (λ z y x k. byte_write (in_buffer b (buffer_texel g (texel m.format) z y x k)) (From (image_texel i g z y x k)))

-- Of one region of an image copy, with the destination's texels (Vulkan, "Copying Data Between Images").
abbrev pub copy_image_writes : ℕ → ℕ → Option ImageInfo → ImageCopy → List ByteWrite
copy_image_writes s d None g = []
copy_image_writes s d (Some m) g = grid g.layers g.height g.width (texel m.format)
    (λ z y x k. byte_write (in_image d g.destination_level (g.destination_first_layer + z) (g.destination_x + x) (g.destination_y + y) k)
    (From (in_image s g.source_level (g.source_first_layer + z) (g.source_x + x) (g.source_y + y) k)))

-- The bytes that a command writes, in order, each with the source of its value; a synchronization command writes none (Vulkan, "Clear Commands" and "Copy Commands").
abbrev pub byte_writes : Past → Cmd → List ByteWrite
byte_writes past (cmd.Fill b o n w) = map (λ k. byte_write (in_buffer b (o + k)) (Value (byte_of w (k % 4)))) (below (fill_size (buffer_size past b) o n))
byte_writes past (cmd.Update b o bytes) = map (λ p. byte_write (in_buffer b (o + p.0)) (Value p.1)) (enumerate_from 0 bytes)
byte_writes past (cmd.Copy s d gs) = flat_map (copy_writes s d) gs
byte_writes past (cmd.Clear i l color rs) = flat_map (clear_writes i color (image past i)) rs
byte_writes past (cmd.CopyIn b i l gs) = flat_map (copy_in_writes b i (image past i)) gs
byte_writes past (cmd.CopyOut i l b gs) = flat_map (copy_out_writes i b (image past i)) gs
byte_writes past (cmd.CopyImage s l d m gs) = flat_map (copy_image_writes s d (image past d)) gs
byte_writes past _ = []
