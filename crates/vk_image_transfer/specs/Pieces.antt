-- The pieces of clears and copies of images: a row of texels each.
use Rattle.std.specs.Prelude.{ℕ, ◌+◌, ◌*◌, ◌≤◌, ◌==◌, if◌then◌else◌, List, [], slice_get, Some, None}
use Rattle.std.specs.List.{flat_map, sum_by}
use Rattle.vk_model.specs.declared.command.BufferImageCopy.{BufferImageCopy}
use Rattle.vk_model.specs.declared.command.ImageCopy.{ImageCopy}
use Rattle.vk_model.specs.declared.command.SubresourceRange.{SubresourceRange}
use Rattle.vk_model.specs.declared.resource.ImageInfo.{ImageInfo}
use Rattle.vk_model.specs.Basics.{below}
use Rattle.vk_model.specs.Trace.Image.{level_height}
use Rattle.vk_model.specs.World.ByteWrites.{ByteWrite, copy_in_writes, copy_out_writes, copy_image_writes}
use Rattle.vk_model.specs.Run.Pieces.{cut, row_bytes, clear_pieces}

-- The piece of a number; one that isn't there writes nothing.
abbrev pub piece_in : List (List ByteWrite) → ℕ → List ByteWrite
piece_in pieces number = elim (slice_get pieces number) [ None ↦ [] | Some ms ↦ ms ]

-- The pieces of a region of a copy from buffer b to image i (profile).
abbrev pub copy_in_pieces : (b i : ℕ) → ImageInfo → BufferImageCopy → List (List ByteWrite)
copy_in_pieces b i m g = cut (row_bytes (Some m) g.width) (copy_in_writes b i (Some m) g)

-- The pieces of a region of a copy from image i to buffer b (profile).
abbrev pub copy_out_pieces : (i b : ℕ) → ImageInfo → BufferImageCopy → List (List ByteWrite)
copy_out_pieces i b m g = cut (row_bytes (Some m) g.width) (copy_out_writes i b (Some m) g)

-- The pieces of a region of a copy from image s to image d, with the destination's texels (profile).
abbrev pub copy_image_pieces : (s d : ℕ) → ImageInfo → ImageCopy → List (List ByteWrite)
copy_image_pieces s d m g = cut (row_bytes (Some m) g.width) (copy_image_writes s d (Some m) g)

-- ---- of all regions and ranges

-- The pieces of a copy from buffer b to image i, region by region (Vulkan, "Copying Data Between Buffers and Images").
abbrev pub all_copied_in : (b i : ℕ) → ImageInfo → List BufferImageCopy → List (List ByteWrite)
all_copied_in b i m gs = flat_map (copy_in_pieces b i m) gs

-- The pieces of a copy from image i to buffer b, region by region (Vulkan, "Copying Data Between Buffers and Images").
abbrev pub all_copied_out : (i b : ℕ) → ImageInfo → List BufferImageCopy → List (List ByteWrite)
all_copied_out i b m gs = flat_map (copy_out_pieces i b m) gs

-- The pieces of a copy from image s to image d, region by region (Vulkan, "Copying Data Between Images").
abbrev pub all_copied : (s d : ℕ) → ImageInfo → List ImageCopy → List (List ByteWrite)
all_copied s d m gs = flat_map (copy_image_pieces s d m) gs

-- The pieces of a clear of image i, range by range (Vulkan, "Clearing Images Outside a Render Pass Instance").
abbrev pub all_cleared : (i : ℕ) → List ℕ → ImageInfo → List SubresourceRange → List (List ByteWrite)
all_cleared i color m rs = flat_map (clear_pieces i color (Some m)) rs

-- How many rows a region of a copy between images has; none where it has no texel.
abbrev pub copy_rows : ImageCopy → ℕ
copy_rows g = if g.width == 0 then 0 else g.layers * g.height

-- How many rows a range has in its level of a number.
abbrev pub level_rows : ImageInfo → SubresourceRange → ℕ → ℕ
level_rows m r k = r.layers * level_height m (r.first_level + k)

-- How many rows it has in all its levels.
abbrev pub range_rows : ImageInfo → SubresourceRange → ℕ
range_rows m r = sum_by (level_rows m r) (below r.levels)

-- A range lies in an image (Vulkan, "Images", on `VkImageSubresourceRange`).
abbrev pub RangeFits : ImageInfo → SubresourceRange → Type 0
RangeFits m r = (r.first_level + r.levels ≤ m.levels) × (r.first_layer + r.layers ≤ m.layers)
