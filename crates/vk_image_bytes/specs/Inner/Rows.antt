-- Rows of texels, by where they begin, and copies of them.
use Rattle.std.specs.Prelude.{◌≡◌, ℕ, ◌+◌, ◌-◌, ◌*◌, ◌^◌, ◌<◌, ◌≤◌, min, List, ◌++◌, map, All}
use Rattle.std.specs.List.{flat_map}
use Rattle.vk_model.specs.declared.command.BufferCopy.{BufferCopy}
use Rattle.vk_model.specs.declared.command.BufferImageCopy.{BufferImageCopy}
use Rattle.vk_model.specs.declared.command.ImageCopy.{ImageCopy}
use Rattle.vk_model.specs.declared.resource.ImageInfo.{ImageInfo}
use Rattle.vk_model.specs.Basics.{below}
use Rattle.vk_model.specs.Trace.Image.{texel, level_width}
use Rattle.vk_model.specs.World.Bytes.{Byte}
use Rattle.vk_model.specs.World.ByteWrites.{ByteWrite, row_texels, layer_rows}
use Rattle.vk_image_bytes.specs.declared.rows.Places.{Places}
use Rattle.vk_image_bytes.specs.declared.rows.Rows.{Rows}
use Rattle.vk_image_bytes.specs.declared.joining.Copies.{Copies}
use Rattle.vk_image_bytes.specs.Copies.{numbered_writes}
use Rattle.vk_image_bytes.specs.Numbers.{number_of, layer_byte_count}

-- ---- where rows begin

-- Where row y of layer z begins.
abbrev pub place_at : Places → (z y : ℕ) → ℕ
place_at p z y = p.first + (z * p.layer + y * p.row)

-- The rows of a region in a buffer, for texels of t bytes; where there is a single layer it doesn't matter how far it is to the next.
abbrev pub buffer_places : ℕ → BufferImageCopy → Places
buffer_places t g = record { first = g.buffer_offset; row = row_texels g * t; layer = min (layer_rows g * (row_texels g * t)) (2 ^ 64 - 1) }

-- The rows of an image from texel (x, y) of a level and a layer on.
abbrev pub image_places : ImageInfo → (level layer x y : ℕ) → Places
image_places m level layer x y = record { first = number_of m level layer x y 0; row = level_width m level * texel m.format; layer = layer_byte_count m }

-- The rows of a region of a copy to an image.
abbrev pub rows_in : ImageInfo → BufferImageCopy → Rows
rows_in m g = record { source = buffer_places (texel m.format) g; destination = image_places m g.level g.first_layer g.x g.y; size = g.width * texel m.format; height = g.height; layers = g.layers }

-- The same rows the other way.
abbrev pub turned : Rows → Rows
turned r = record { source = r.destination; destination = r.source; size = r.size; height = r.height; layers = r.layers }

-- The rows of a region of a copy between images.
abbrev pub rows_between : ImageInfo → ImageInfo → ImageCopy → Rows
rows_between s d g = record {
  source = image_places s g.source_level g.source_first_layer g.source_x g.source_y;
  destination = image_places d g.destination_level g.destination_first_layer g.destination_x g.destination_y;
  size = g.width * texel d.format;
  height = g.height;
  layers = g.layers;
}

-- Rows that end at numbers of 64 bits, some in each layer.
pub record RowsFit (r : Rows) : Type 0 where
  pub some : 0 < r.height
  pub source : (z y : ℕ) → z < r.layers → y < r.height → place_at r.source z y + r.size < 2 ^ 64
  pub destination : (z y : ℕ) → z < r.layers → y < r.height → place_at r.destination z y + r.size < 2 ^ 64

-- ---- copies of rows

-- The copy of row y of layer z.
abbrev pub row_copy : Rows → (z y : ℕ) → BufferCopy
row_copy r z y = record { source_offset = place_at r.source z y; destination_offset = place_at r.destination z y; size = r.size }

-- Of all rows of a layer.
abbrev pub layer_copies : Rows → ℕ → List BufferCopy
layer_copies r z = map (row_copy r z) (below r.height)

-- Of all rows.
abbrev pub row_copies : Rows → List BufferCopy
row_copies r = flat_map (layer_copies r) (below r.layers)

-- ---- what has been gathered

-- A copy lies in a source and a destination of so many bytes.
pub record LiesWithin (source_size destination_size : ℕ) (g : BufferCopy) : Type 0 where
  pub reads : g.source_offset + g.size ≤ source_size
  pub writes : g.destination_offset + g.size ≤ destination_size

-- The byte writes of the copies that were gathered.
abbrev pub gathered : Copies → (from to : ℕ → Byte) → List ByteWrite
gathered c from to = flat_map (numbered_writes from to) c.done.items ++ numbered_writes from to c.last

-- They lie in a source and a destination of so many bytes.
pub record AllLieWithin (source_size destination_size : ℕ) (c : Copies) : Type 0 where
  pub done : All (LiesWithin source_size destination_size) c.done.items
  pub last : LiesWithin source_size destination_size c.last

-- After more copies were added.
pub record AreAdded (old new : Copies) (gs : List BufferCopy) : Type 0 where
  pub writes : (from to : ℕ → Byte) → gathered new from to ≡ gathered old from to ++ flat_map (numbered_writes from to) gs
  pub within : (s d : ℕ) → All (LiesWithin s d) gs → AllLieWithin s d old → AllLieWithin s d new

-- After copies that make some byte writes were added.
pub record AreGathered (old new : Copies) (from to : ℕ → Byte) (source_size destination_size : ℕ) (ws : List ByteWrite) : Type 0 where
  pub writes : gathered new from to ≡ gathered old from to ++ ws
  pub within : AllLieWithin source_size destination_size old → AllLieWithin source_size destination_size new
