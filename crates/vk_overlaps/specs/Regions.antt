-- Which regions and ranges of one command overlap.
use Rattle.std.specs.Prelude.{ℕ, List, Bool, ◌&&◌, ◌||◌, ◌==◌}
use Rattle.std.specs.List.{list_any}
use Rattle.vk_model.specs.declared.command.BufferCopy.{BufferCopy}
use Rattle.vk_model.specs.declared.command.BufferImageCopy.{BufferImageCopy}
use Rattle.vk_model.specs.declared.command.ImageCopy.{ImageCopy}
use Rattle.vk_model.specs.Basics.{some_pair}
use Rattle.vk_model.specs.Memory.Suballocation.{ranges_meet}
use Rattle.vk_model.specs.World.Areas.{boxes_meet, region_box, source_box, destination_box}

-- Whether two regions of a buffer copy write a common byte, and whether one writes what the other reads, within one buffer (Vulkan, "Copying Data Between Buffers").
abbrev pub copies_meet : BufferCopy → BufferCopy → Bool
copies_meet g h = ranges_meet g.destination_offset g.size h.destination_offset h.size

abbrev pub copy_meets_source : BufferCopy → BufferCopy → Bool
copy_meets_source g h = ranges_meet g.destination_offset g.size h.source_offset h.size

-- Whether the regions of a buffer copy overlap.
abbrev pub copies_overlap : ℕ → ℕ → List BufferCopy → Bool
copies_overlap s d gs = some_pair copies_meet gs || d == s && list_any (λ g. list_any (copy_meets_source g) gs) gs

-- Whether two regions of a copy between a buffer and an image have a common texel (Vulkan, "Copying Data Between Buffers and Images").
abbrev pub regions_meet : BufferImageCopy → BufferImageCopy → Bool
regions_meet g h = boxes_meet (region_box g) (region_box h)

-- Whether two regions of an image copy write a common texel, and whether one writes what the other reads, within one image (Vulkan, "Copying Data Between Images").
abbrev pub image_copies_meet : ImageCopy → ImageCopy → Bool
image_copies_meet g h = boxes_meet (destination_box g) (destination_box h)

abbrev pub image_copy_meets_source : ImageCopy → ImageCopy → Bool
image_copy_meets_source g h = boxes_meet (destination_box g) (source_box h)

-- Whether the regions of an image copy overlap.
abbrev pub image_copies_overlap : ℕ → ℕ → List ImageCopy → Bool
image_copies_overlap s d gs = some_pair image_copies_meet gs || d == s && list_any (λ g. list_any (image_copy_meets_source g) gs) gs
