-- Where regions and ranges lie along the axes.
use Rattle.std.specs.Prelude.{ℕ, ◌-◌, ◌*◌, ◌||◌, ◌==◌, List, map, Option, Some, None, if◌then◌else◌}
use Rattle.vk_model.specs.declared.command.BufferCopy.{BufferCopy}
use Rattle.vk_model.specs.declared.command.BufferImageCopy.{BufferImageCopy}
use Rattle.vk_model.specs.declared.command.ImageCopy.{ImageCopy}
use Rattle.vk_model.specs.declared.command.SubresourceRange.{SubresourceRange}
use Rattle.vk_model.specs.declared.command.Element.{Element}
use Rattle.vk_model.specs.declared.command.Element.TheVariants as element
use Rattle.vk_model.specs.World.Ownership.{is_transition}
use Rattle.vk_model.specs.Basics.{below}
use Rattle.vk_model.specs.World.Areas.{Box, region_box, source_box, destination_box, row_count, row_start}
use Rattle.vk_model.specs.World.ByteWrites.{buffer_texel}
use Rattle.vk_overlaps.specs.declared.extents.Span.{Span}
use Rattle.vk_overlaps.specs.declared.extents.Extent.{Extent}

abbrev pub span_of : ℕ → ℕ → Span
span_of start size = record { start = start; size = size }

-- Bytes of a buffer.
abbrev pub bytes_at : ℕ → ℕ → Extent
bytes_at start size = record { resources = span_of 0 1; levels = span_of 0 1; layers = span_of 0 1; columns = span_of start size; rows = span_of 0 1 }

-- Texels of an image.
abbrev pub box_at : Box → Extent
box_at k = record { resources = span_of 0 1; levels = span_of k.level 1; layers = span_of k.first_layer k.layers; columns = span_of k.x k.width; rows = span_of k.y k.height }

-- Levels and layers of a resource.
abbrev pub range_at : ℕ → SubresourceRange → Extent
range_at i r = record { resources = span_of i 1; levels = span_of r.first_level r.levels; layers = span_of r.first_layer r.layers; columns = span_of 0 1; rows = span_of 0 1 }

-- What regions write and read.
abbrev pub copy_written : BufferCopy → Extent
copy_written g = bytes_at g.destination_offset g.size

abbrev pub copy_read : BufferCopy → Extent
copy_read g = bytes_at g.source_offset g.size

abbrev pub region_texels : BufferImageCopy → Extent
region_texels g = box_at (region_box g)

abbrev pub image_copy_written : ImageCopy → Extent
image_copy_written g = box_at (destination_box g)

abbrev pub image_copy_read : ImageCopy → Extent
image_copy_read g = box_at (source_box g)

-- The levels and layers of an element that is a layout transition.
abbrev pub transition_part : Element → Option Extent
transition_part (element.Image e) = if is_transition e then Some (range_at e.image e.range) else None
transition_part _ = None

-- Where the last texel of a region ends in the buffer, with texels of t bytes.
abbrev pub end_of : ℕ → BufferImageCopy → ℕ
end_of t g = buffer_texel g t (g.layers - 1) (g.height - 1) (g.width - 1) t

-- The bytes from the first to the last of a region; none where it has no texel.
abbrev pub hull : ℕ → BufferImageCopy → Extent
hull t g = bytes_at g.buffer_offset (if g.layers == 0 || g.height == 0 || g.width == 0 then 0 else end_of t g - g.buffer_offset)

-- Row r of a region in the buffer, with texels of t bytes, and all rows of it.
abbrev pub row_at : ℕ → BufferImageCopy → ℕ → Extent
row_at t g r = bytes_at (row_start t g r) (g.width * t)

abbrev pub rows_at : ℕ → BufferImageCopy → List Extent
rows_at t g = map (row_at t g) (below (row_count g))
