-- The rules on what commands and host entries reach: RANGE, ALIGN, OVERLAP, FORMAT, SUBRESOURCE.
use Rattle.std.specs.Prelude.{ℕ, ◌+◌, ◌-◌, ◌%◌, List, [], ◌++◌, length, Bool, false, not, ◌&&◌, ◌||◌, ◌==◌, nat_lt, nat_le, nat_eq}
use Rattle.std.specs.List.{list_any}
use Rattle.vk_model.specs.declared.command.Cmd.{Cmd}
use Rattle.vk_model.specs.declared.command.Cmd.TheVariants as cmd
use Rattle.vk_model.specs.declared.command.Element.{Element}
use Rattle.vk_model.specs.declared.command.Element.TheVariants as element
use Rattle.vk_model.specs.declared.command.BufferImageCopy.{BufferImageCopy}
use Rattle.vk_model.specs.declared.command.SubresourceRange.{SubresourceRange}
use Rattle.vk_model.specs.declared.command.Length.{Length}
use Rattle.vk_model.specs.declared.command.Length.TheVariants as length_of
use Rattle.vk_model.specs.declared.entry.Entry.{Entry}
use Rattle.vk_model.specs.declared.entry.Entry.TheVariants as entry
use Rattle.vk_model.specs.declared.resource.ImageInfo.{ImageInfo}
use Rattle.vk_model.specs.Basics.{holds, some_pair}
use Rattle.vk_model.specs.Trace.Image.{texel, level_width, level_height}
use Rattle.vk_model.specs.Trace.Point.{Past, Point, on_host, on_command}
use Rattle.vk_model.specs.Trace.Objects.{image}
use Rattle.vk_model.specs.World.ByteWrites.{buffer_size, buffer_texel}
use Rattle.vk_model.specs.World.Ownership.{elements_of, is_transition}
use Rattle.vk_model.specs.World.Areas.{Area, Bytes, Rows, Texels, Subresources, Box, areas_read, areas_written, areas_meet, subresources_meet}

-- ---- RANGE

-- Whether a range of a buffer of this size ends past it; one to the end must begin before the end (Vulkan, "Buffer Memory Barriers" and "Host Access to Device Memory Objects").
abbrev pub ends_past : ℕ → ℕ → Length → Bool
ends_past size o (length_of.Bytes n) = nat_lt size (o + n)
ends_past size o length_of.Whole = nat_le size o

-- Whether a host entry reaches past its buffer (Vulkan, "Host Access to Device Memory Objects").
abbrev pub host_past : Past → Entry → Bool
host_past past (entry.Write b o bytes) = nat_lt (buffer_size past b) (o + length bytes)
host_past past (entry.Read b o n) = nat_lt (buffer_size past b) (o + n)
host_past past (entry.Flush b o n) = ends_past (buffer_size past b) o n
host_past past (entry.Invalidate b o n) = ends_past (buffer_size past b) o n
host_past past _ = false

-- Whether a buffer element reaches past its buffer (Vulkan, "Buffer Memory Barriers").
abbrev pub element_past : Past → Element → Bool
element_past past (element.Buffer e) = ends_past (buffer_size past e.buffer) e.offset e.size
element_past past _ = false

-- Whether the last texel of a region ends past a buffer of this size; the gap after its last row counts for nothing (Vulkan, "Buffer and Image Addressing").
abbrev pub region_past : ℕ → ℕ → BufferImageCopy → Bool
region_past size t g = nat_lt 0 g.layers && nat_lt 0 g.height && nat_lt 0 g.width && nat_lt size (buffer_texel g t (g.layers - 1) (g.height - 1) (g.width - 1) t)

-- Whether an area of a buffer ends past it (Vulkan, "Copy Commands" and "Clear Commands"). Areas of images are the matter of SUBRESOURCE.
abbrev pub area_past : Past → Area → Bool
area_past past (Bytes b o n) = nat_lt (buffer_size past b) (o + n)
area_past past (Rows b t g) = region_past (buffer_size past b) t g
area_past past _ = false

-- Whether a fill to the end begins at the end or past it (Vulkan, "Filling Buffers").
abbrev pub fills_from_end : Past → Cmd → Bool
fills_from_end past (cmd.Fill b o length_of.Whole w) = nat_le (buffer_size past b) o
fills_from_end past _ = false

-- Whether a row length or image height that isn't 0 is under the region's width or height (Vulkan, "Buffer and Image Addressing").
abbrev pub is_short : BufferImageCopy → Bool
is_short g = not (g.row_length == 0) && nat_lt g.row_length g.width || not (g.image_height == 0) && nat_lt g.image_height g.height

-- The regions of a copy between a buffer and an image.
abbrev pub regions_of : Cmd → List BufferImageCopy
regions_of (cmd.CopyIn b i l gs) = gs
regions_of (cmd.CopyOut i l b gs) = gs
regions_of _ = []

-- Whether a command names bytes past a buffer, or rows that are too short.
abbrev pub command_past : Past → Cmd → Bool
command_past past c = list_any (area_past past) (areas_read past c ++ areas_written past c) || fills_from_end past c
    || list_any (element_past past) (elements_of c) || list_any is_short (regions_of c)

-- RANGE: bytes outside a buffer, or a row length or image height under the region's (Vulkan, valid usage of each call).
abbrev pub breaks_range : Past → Point → Bool
breaks_range past p = on_host (host_past past) p || on_command (command_past past) p

-- ---- ALIGN

-- Whether a number isn't a multiple of 4.
abbrev pub off_4 : ℕ → Bool
off_4 n = not (n % 4 == 0)

-- Whether a length isn't a multiple of 4; one to the end is as good as one.
abbrev pub off_4_length : Length → Bool
off_4_length (length_of.Bytes n) = off_4 n
off_4_length length_of.Whole = false

-- Whether a region's buffer offset isn't a multiple of the texel size, on queues 2 and 3 also of 4 (Vulkan, "Copying Data Between Buffers and Images").
abbrev pub off_texel : Past → ℕ → ℕ → BufferImageCopy → Bool
off_texel past q i g = holds (image past i) (λ m. not (g.buffer_offset % texel m.format == 0)) || nat_le 2 q && off_4 g.buffer_offset

-- Whether a command on a queue has an offset or a size that isn't a multiple of its unit (Vulkan, "Filling Buffers", "Updating Buffers" and "Copying Data Between Buffers and Images").
abbrev pub misaligned : Past → ℕ → Cmd → Bool
misaligned past q (cmd.Fill b o n w) = off_4 o || off_4_length n
misaligned past q (cmd.Update b o bytes) = off_4 o || off_4 (length bytes)
misaligned past q (cmd.CopyIn b i l gs) = list_any (off_texel past q i) gs
misaligned past q (cmd.CopyOut i l b gs) = list_any (off_texel past q i) gs
misaligned past q _ = false

-- ALIGN: a fill or update that isn't of whole words, or a region's buffer offset that isn't of whole texels (Vulkan, valid usage of these commands).
abbrev pub breaks_align : Past → Point → Bool
breaks_align past p = on_command (misaligned past p.queue) p

-- ---- OVERLAP

-- Whether two elements are transitions of a common subresource.
abbrev pub transitions_meet : Element → Element → Bool
transitions_meet (element.Image e) (element.Image f) = e.image == f.image && is_transition e && is_transition f && subresources_meet e.range f.range
transitions_meet _ _ = false

-- Whether an area that a command writes meets another one that it writes, or one that it reads.
abbrev pub writes_overlap : List Area → List Area → Bool
writes_overlap written read = some_pair areas_meet written || list_any (λ w. list_any (areas_meet w) read) written

-- Whether a command's areas or transitions overlap.
abbrev pub command_overlaps : Past → Cmd → Bool
command_overlaps past c = writes_overlap (areas_written past c) (areas_read past c) || some_pair transitions_meet (elements_of c)

-- Whether an end of a pass lists an id twice, in one list or in both (VMA, "Defragmentation").
abbrev pub lists_twice : Entry → Bool
lists_twice (entry.EndPass d kept lost) = some_pair nat_eq (kept ++ lost)
lists_twice _ = false

-- OVERLAP: in one command a destination meets a source (Vulkan, "Copy Commands") or another destination, or two transitions meet (profile); an id twice in the lists of an end of a pass (profile).
abbrev pub breaks_overlap : Past → Point → Bool
breaks_overlap past p = on_host lists_twice p || on_command (command_overlaps past) p

-- ---- FORMAT

-- Whether the texel sizes of an image copy differ.
abbrev pub texels_differ : Past → Cmd → Bool
texels_differ past (cmd.CopyImage s l d m gs) = holds (image past s) (λ a. holds (image past d) (λ b. not (texel a.format == texel b.format)))
texels_differ past _ = false

-- FORMAT: the texel sizes of an image copy differ (Vulkan, "Copying Data Between Images", on size-compatible formats).
abbrev pub breaks_format : Past → Point → Bool
breaks_format past p = on_command (texels_differ past) p

-- ---- SUBRESOURCE

-- Whether a count of numbers from one on is 0 or ends past the limit.
abbrev pub is_beyond : ℕ → ℕ → ℕ → Bool
is_beyond limit from count = count == 0 || nat_lt limit (from + count)

-- Whether a range isn't one of the image's levels and layers (Vulkan, "Images", on `VkImageSubresourceRange`).
abbrev pub bad_range : ImageInfo → SubresourceRange → Bool
bad_range m r = is_beyond m.levels r.first_level r.levels || is_beyond m.layers r.first_layer r.layers

-- Whether a box isn't of the image's levels, layers and texels (Vulkan, "Copy Commands").
abbrev pub bad_box : ImageInfo → Box → Bool
bad_box m k = is_beyond m.levels k.level 1 || is_beyond m.layers k.first_layer k.layers
    || is_beyond (level_width m k.level) k.x k.width || is_beyond (level_height m k.level) k.y k.height

-- Whether an area isn't of its image.
abbrev pub bad_area : Past → Area → Bool
bad_area past (Texels i k) = holds (image past i) (λ m. bad_box m k)
bad_area past (Subresources i r) = holds (image past i) (λ m. bad_range m r)
bad_area past _ = false

-- Whether an image element's range isn't of its image, also where it's no transition (Vulkan, "Image Memory Barriers").
abbrev pub bad_element : Past → Element → Bool
bad_element past (element.Image e) = bad_area past (Subresources e.image e.range)
bad_element past _ = false

-- Whether a command or one of its elements names what isn't of an image.
abbrev pub bad_subresource : Past → Cmd → Bool
bad_subresource past c = list_any (bad_area past) (areas_read past c ++ areas_written past c) || list_any (bad_element past) (elements_of c)

-- SUBRESOURCE: levels, layers or texels outside the image, or a count or extent of 0 (Vulkan, valid usage of each call).
abbrev pub breaks_subresource : Past → Point → Bool
breaks_subresource past p = on_command (bad_subresource past) p
