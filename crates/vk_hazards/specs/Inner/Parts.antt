-- The bytes that regions of copies and ranges of levels access.
use Rattle.std.specs.Prelude.{ℕ, ◌+◌, List, map}
use Rattle.std.specs.List.{flat_map}
use Rattle.vk_model.specs.declared.command.BufferImageCopy.{BufferImageCopy}
use Rattle.vk_model.specs.declared.command.ImageCopy.{ImageCopy}
use Rattle.vk_model.specs.declared.command.SubresourceRange.{SubresourceRange}
use Rattle.vk_model.specs.declared.resource.ImageInfo.{ImageInfo}
use Rattle.vk_model.specs.Basics.{below, grid}
use Rattle.vk_model.specs.World.Bytes.{Byte, in_buffer, in_image}
use Rattle.vk_model.specs.World.ByteWrites.{buffer_texel, level_bytes}

-- A row of a layer of a region, in its buffer.
abbrev pub row_bytes : (b t : ℕ) → BufferImageCopy → (z y : ℕ) → List Byte
row_bytes b t g z y = flat_map (λ x. map (λ k. in_buffer b (buffer_texel g t z y x k)) (below t)) (below g.width)

-- A layer of a region, in its buffer.
abbrev pub layer_bytes : (b t : ℕ) → BufferImageCopy → ℕ → List Byte
layer_bytes b t g z = flat_map (λ y. row_bytes b t g z y) (below g.height)

-- A region, in its buffer.
abbrev pub region_bytes : (b t : ℕ) → BufferImageCopy → List Byte
region_bytes b t g = flat_map (λ z. layer_bytes b t g z) (below g.layers)

-- Texels from a layer, a column and a row on.
abbrev pub texel_bytes : (i t level l x0 y0 layers height width : ℕ) → List Byte
texel_bytes i t level l x0 y0 layers height width = grid layers height width t (λ z y x k. in_image i level (l + z) (x0 + x) (y0 + y) k)

-- The texels of a region, in its image.
abbrev pub box_bytes : (i t : ℕ) → BufferImageCopy → List Byte
box_bytes i t g = texel_bytes i t g.level g.first_layer g.x g.y g.layers g.height g.width

-- The texels that a region of a copy between images reads.
abbrev pub source_bytes : (i t : ℕ) → ImageCopy → List Byte
source_bytes i t g = texel_bytes i t g.source_level g.source_first_layer g.source_x g.source_y g.layers g.height g.width

-- The texels that it writes.
abbrev pub destination_bytes : (i t : ℕ) → ImageCopy → List Byte
destination_bytes i t g = texel_bytes i t g.destination_level g.destination_first_layer g.destination_x g.destination_y g.layers g.height g.width

-- One level of a range of levels and layers.
abbrev pub level_part : ℕ → ImageInfo → SubresourceRange → ℕ → List Byte
level_part i m r k = map (λ p. p.0) (level_bytes i m r (r.first_level + k))

-- The levels of a range.
abbrev pub range_part : ℕ → ImageInfo → SubresourceRange → List Byte
range_part i m r = flat_map (level_part i m r) (below r.levels)
