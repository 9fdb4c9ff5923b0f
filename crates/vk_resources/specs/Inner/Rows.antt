-- Rows of copies with images, between memory objects or within one.
use Rattle.std.specs.Prelude.{◌≡◌, ℕ, ◌+◌, ◌-◌, ◌*◌, ◌/◌, ◌%◌, ◌<◌, ◌≤◌, List, length, slice_index}
use Rattle.vk_model.specs.declared.command.BufferImageCopy.{BufferImageCopy}
use Rattle.vk_model.specs.declared.command.ImageCopy.{ImageCopy}
use Rattle.vk_model.specs.declared.resource.ImageInfo.{ImageInfo}
use Rattle.vk_model.specs.Trace.Image.{texel, image_size}
use Rattle.vk_model.specs.World.Areas.{region_box, source_box, destination_box}
use Rattle.vk_image_transfer.specs.Rows.{AreWritten, BoxFits, RegionFits, LiesApart, image_row, buffer_row}
use Rattle.vk_transfer.specs.Ran.{AreApart}

-- ---- between a buffer and an image

-- There is such a row of a region, which lies in an image (Vulkan, "Copying Data Between Buffers and Images").
pub record IsRow (g : BufferImageCopy) (number : ℕ) (m : ImageInfo) : Type 0 where
  pub region : BoxFits m (region_box g)
  pub piece : number < g.layers * g.height
  pub columns : 0 < g.width

-- The region lies in what a buffer has of some memory from a place on (Vulkan, "Buffer and Image Addressing").
abbrev pub ReachesBuffer : BufferImageCopy → ImageInfo → ℕ → List ℕ → Type 0
ReachesBuffer g m start region = RegionFits g (texel m.format) (length region - start)

-- An image lies in some memory from a place on (Vulkan, "Resource Memory Association").
abbrev pub HoldsImage : ImageInfo → ℕ → List ℕ → Type 0
HoldsImage m start region = start + image_size m m.tiling ≤ length region

-- A buffer and an image lie in one memory object, and share no byte there that the region reaches (Vulkan, "Memory Aliasing").
pub record SharesMemory (g : BufferImageCopy) (number : ℕ) (m : ImageInfo) (buffer_start image_start : ℕ) (region : List ℕ) : Type 0 where
  pub row : IsRow g number m
  pub buffer : ReachesBuffer g m buffer_start region
  pub image : HoldsImage m image_start region
  pub apart : LiesApart g (texel m.format) buffer_start image_start (image_size m m.tiling)

-- A buffer and an image lie in two memory objects.
pub record LiesInTwo (g : BufferImageCopy) (number : ℕ) (m : ImageInfo) (buffer_start image_start : ℕ) (buffers images : List ℕ) : Type 0 where
  pub row : IsRow g number m
  pub buffer : ReachesBuffer g m buffer_start buffers
  pub image : HoldsImage m image_start images

-- Where texel x of a row of a region begins in its image, which lies from a place on.
abbrev pub row_in_image : BufferImageCopy → ℕ → ImageInfo → ℕ → ℕ → ℕ
row_in_image g number m start x = image_row m start g.level (g.first_layer + number / g.height) g.x (g.y + number % g.height) x

-- And where it begins in its buffer (Vulkan, "Buffer and Image Addressing").
abbrev pub row_in_buffer : BufferImageCopy → ℕ → ImageInfo → ℕ → ℕ → ℕ
row_in_buffer g number m start x = buffer_row g (texel m.format) start (number / g.height) (number % g.height) x

-- A row of a copy from a buffer to an image has been written (Vulkan, "Copying Data Between Buffers and Images").
abbrev pub IsCopiedIn : BufferImageCopy → (number : ℕ) → ImageInfo → (buffer_start image_start : ℕ) → (source old new : List ℕ) → Type 0
IsCopiedIn g number m buffer_start image_start source old new =
    AreWritten old new g.width (texel m.format) (row_in_image g number m image_start) (λ x p. slice_index source (row_in_buffer g number m buffer_start x + p))

-- A row of a copy from an image to a buffer has been written (Vulkan, "Copying Data Between Buffers and Images").
abbrev pub IsCopiedOut : BufferImageCopy → (number : ℕ) → ImageInfo → (image_start buffer_start : ℕ) → (source old new : List ℕ) → Type 0
IsCopiedOut g number m image_start buffer_start source old new =
    AreWritten old new g.width (texel m.format) (row_in_buffer g number m buffer_start) (λ x p. slice_index source (row_in_image g number m image_start x + p))

-- ---- between images

-- There is such a row of a region, which lies in two images that have texels of one size (Vulkan, "Copying Data Between Images").
pub record IsImageRow (g : ImageCopy) (number : ℕ) (from to : ImageInfo) : Type 0 where
  pub source : BoxFits from (source_box g)
  pub destination : BoxFits to (destination_box g)
  pub texels : texel from.format ≡ texel to.format
  pub piece : number < g.layers * g.height

-- Two images lie in one memory object, and share no byte there (Vulkan, "Memory Aliasing").
pub record SharesMemoryOfImages (g : ImageCopy) (number : ℕ) (from to : ImageInfo) (from_start to_start : ℕ) (region : List ℕ) : Type 0 where
  pub row : IsImageRow g number from to
  pub source : HoldsImage from from_start region
  pub destination : HoldsImage to to_start region
  pub apart : AreApart from_start (image_size from from.tiling) to_start (image_size to to.tiling)

-- Two images lie in two memory objects.
pub record ImagesInTwo (g : ImageCopy) (number : ℕ) (from to : ImageInfo) (from_start to_start : ℕ) (sources destinations : List ℕ) : Type 0 where
  pub row : IsImageRow g number from to
  pub source : HoldsImage from from_start sources
  pub destination : HoldsImage to to_start destinations

-- Where texel x of a row of a region begins in the image that it reads, which lies from a place on.
abbrev pub row_read : ImageCopy → ℕ → ImageInfo → ℕ → ℕ → ℕ
row_read g number m start x = image_row m start g.source_level (g.source_first_layer + number / g.height) g.source_x (g.source_y + number % g.height) x

-- And where it begins in the image that it writes.
abbrev pub row_written : ImageCopy → ℕ → ImageInfo → ℕ → ℕ → ℕ
row_written g number m start x = image_row m start g.destination_level (g.destination_first_layer + number / g.height) g.destination_x (g.destination_y + number % g.height) x

-- A row of a copy between images has been written (Vulkan, "Copying Data Between Images").
abbrev pub IsImageCopied : ImageCopy → (number : ℕ) → (from to : ImageInfo) → (from_start to_start : ℕ) → (source old new : List ℕ) → Type 0
IsImageCopied g number from to from_start to_start source old new =
    AreWritten old new g.width (texel to.format) (row_written g number to to_start) (λ x p. slice_index source (row_read g number from from_start x + p))
