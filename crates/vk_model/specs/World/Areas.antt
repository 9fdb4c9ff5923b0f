-- The areas of resources that a command reads and writes, as ranges, rows and boxes: arithmetic, and no lists of bytes.
use Rattle.std.specs.Prelude.{ℕ, ◌*◌, ◌/◌, ◌%◌, List, [], ◌∷◌, map, length, Bool, false, ◌&&◌, ◌==◌, if◌then◌else◌, Some, None}
use Rattle.std.specs.List.{list_any}
use Rattle.vk_model.specs.declared.command.Cmd.{Cmd}
use Rattle.vk_model.specs.declared.command.Cmd.TheVariants as cmd
use Rattle.vk_model.specs.declared.command.BufferImageCopy.{BufferImageCopy}
use Rattle.vk_model.specs.declared.command.ImageCopy.{ImageCopy}
use Rattle.vk_model.specs.declared.command.SubresourceRange.{SubresourceRange}
use Rattle.vk_model.specs.Memory.Suballocation.{ranges_meet}
use Rattle.vk_model.specs.Basics.{below}
use Rattle.vk_model.specs.Trace.Image.{texel}
use Rattle.vk_model.specs.Trace.Point.{Past}
use Rattle.vk_model.specs.Trace.Objects.{image}
use Rattle.vk_model.specs.World.ByteWrites.{buffer_size, fill_size, buffer_texel}

-- Texels of one level and some layers of an image (Vulkan, "Copying Data Between Images").
pub record Box : Type 0 where
  pub level : ℕ
  pub first_layer : ℕ
  pub layers : ℕ
  pub x : ℕ
  pub y : ℕ
  pub width : ℕ
  pub height : ℕ

-- An area of a resource: a range of a buffer, the rows of a region in a buffer with texels of some bytes, a box of texels of an image, or whole subresources of an image.
pub data Area : Type 0 where
  Bytes : (buffer offset size : ℕ) → Area
  Rows : (buffer texel_size : ℕ) → BufferImageCopy → Area
  Texels : (image : ℕ) → Box → Area
  Subresources : (image : ℕ) → SubresourceRange → Area

-- ---- where areas meet

-- The number of rows that a region has in the buffer; none where it has no texel.
abbrev pub row_count : BufferImageCopy → ℕ
row_count g = if g.width == 0 then 0 else g.layers * g.height

-- Where row r of a region begins in the buffer.
abbrev pub row_start : ℕ → BufferImageCopy → ℕ → ℕ
row_start t g r = buffer_texel g t (r / g.height) (r % g.height) 0 0

-- Whether a row of the one region has a byte in common with a row of the other; the gaps between rows belong to none (Vulkan, "Buffer and Image Addressing"; that rows may interleave: profile).
abbrev pub rows_meet : ℕ → BufferImageCopy → ℕ → BufferImageCopy → Bool
rows_meet t g u h = list_any (λ r. list_any (λ s. ranges_meet (row_start t g r) (g.width * t) (row_start u h s) (h.width * u)) (below (row_count h))) (below (row_count g))

-- Whether two boxes of one image have a texel in common.
abbrev pub boxes_meet : Box → Box → Bool
boxes_meet k l = k.level == l.level && ranges_meet k.first_layer k.layers l.first_layer l.layers
    && ranges_meet k.x k.width l.x l.width && ranges_meet k.y k.height l.y l.height

-- Whether two ranges of one image have a subresource in common.
abbrev pub subresources_meet : SubresourceRange → SubresourceRange → Bool
subresources_meet r s = ranges_meet r.first_level r.levels s.first_level s.levels && ranges_meet r.first_layer r.layers s.first_layer s.layers

-- Whether two areas of one command, of the same form, have a byte in common.
abbrev pub areas_meet : Area → Area → Bool
areas_meet (Bytes b o n) (Bytes c p m) = b == c && ranges_meet o n p m
areas_meet (Rows b t g) (Rows c u h) = b == c && rows_meet t g u h
areas_meet (Texels i k) (Texels j l) = i == j && boxes_meet k l
areas_meet (Subresources i r) (Subresources j s) = i == j && subresources_meet r s
areas_meet _ _ = false

-- ---- the areas of each command

-- The texels that a region names in its image (Vulkan, "Copying Data Between Buffers and Images").
abbrev pub region_box : BufferImageCopy → Box
region_box g = record { level = g.level; first_layer = g.first_layer; layers = g.layers; x = g.x; y = g.y; width = g.width; height = g.height }

-- The texels that a region of an image copy reads (Vulkan, "Copying Data Between Images").
abbrev pub source_box : ImageCopy → Box
source_box g = record { level = g.source_level; first_layer = g.source_first_layer; layers = g.layers; x = g.source_x; y = g.source_y; width = g.width; height = g.height }

-- The texels that a region of an image copy writes (Vulkan, "Copying Data Between Images").
abbrev pub destination_box : ImageCopy → Box
destination_box g = record { level = g.destination_level; first_layer = g.destination_first_layer; layers = g.layers; x = g.destination_x; y = g.destination_y; width = g.width; height = g.height }

-- The rows of regions in a buffer, by the texels of an image; none where there is no such image.
abbrev pub region_rows : Past → ℕ → ℕ → List BufferImageCopy → List Area
region_rows past b i gs = elim (image past i) [ None ↦ [] | Some m ↦ map (Rows b (texel m.format)) gs ]

-- The areas that a command reads (Vulkan, "Copy Commands").
abbrev pub areas_read : Past → Cmd → List Area
areas_read past (cmd.Copy s d gs) = map (λ g. Bytes s g.source_offset g.size) gs
areas_read past (cmd.CopyIn b i l gs) = region_rows past b i gs
areas_read past (cmd.CopyOut i l b gs) = map (λ g. Texels i (region_box g)) gs
areas_read past (cmd.CopyImage s l d m gs) = map (λ g. Texels s (source_box g)) gs
areas_read past _ = []

-- The areas that a command writes (Vulkan, "Clear Commands" and "Copy Commands").
abbrev pub areas_written : Past → Cmd → List Area
areas_written past (cmd.Fill b o n w) = Bytes b o (fill_size (buffer_size past b) o n) ∷ []
areas_written past (cmd.Update b o bytes) = Bytes b o (length bytes) ∷ []
areas_written past (cmd.Copy s d gs) = map (λ g. Bytes d g.destination_offset g.size) gs
areas_written past (cmd.Clear i l color rs) = map (Subresources i) rs
areas_written past (cmd.CopyIn b i l gs) = map (λ g. Texels i (region_box g)) gs
areas_written past (cmd.CopyOut i l b gs) = region_rows past b i gs
areas_written past (cmd.CopyImage s l d m gs) = map (λ g. Texels d (destination_box g)) gs
areas_written past _ = []
