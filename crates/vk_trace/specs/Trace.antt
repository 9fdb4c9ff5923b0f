-- Which bytes are a trace, and of which entries: tables with a row for each form. The format is our own (profile).
-- A value of any other form is no trace.
use Rattle.std.specs.Prelude.{◌≡◌, ℕ, List, [], ◌∷◌, ◌++◌, map, codes, Option, Some, None, option_map, IsUtf8}
use Rattle.serde_json.specs.Data.{Data}
use Rattle.serde_json.specs.Read.{read}
use Rattle.serde_json.specs.Find.{as_str}
use Rattle.vk_model.specs.declared.resource.Sharing.{Sharing}
use Rattle.vk_model.specs.declared.resource.Sharing.TheVariants.{Exclusive, Concurrent}
use Rattle.vk_model.specs.declared.layout.Format.{Format}
use Rattle.vk_model.specs.declared.layout.Format.TheVariants.{R8Uint, R8G8Uint, R8G8B8A8Uint, R16Uint, R32Uint, R32G32Uint, R32G32B32A32Uint}
use Rattle.vk_model.specs.declared.resource.Kind.{Kind}
use Rattle.vk_model.specs.declared.resource.Kind.TheVariants.{Linear, Optimal}
use Rattle.vk_model.specs.declared.resource.Place.{Place}
use Rattle.vk_model.specs.declared.resource.Place.TheVariants.{Dedicated, Pool as InPool, PoolUpper, Memory as InMemory}
use Rattle.vk_model.specs.declared.resource.PoolKind.{PoolKind}
use Rattle.vk_model.specs.declared.resource.PoolKind.TheVariants.{Tlsf, Linear as LinearPool}
use Rattle.vk_model.specs.declared.command.BufferCopy.{BufferCopy}
use Rattle.vk_model.specs.declared.command.Length.{Length}
use Rattle.vk_model.specs.declared.command.Length.TheVariants.{Bytes, Whole}
use Rattle.vk_model.specs.declared.command.Dependency.{Dependency}
use Rattle.vk_model.specs.declared.command.BufferElement.{BufferElement}
use Rattle.vk_model.specs.declared.command.BufferImageCopy.{BufferImageCopy}
use Rattle.vk_model.specs.declared.command.ImageCopy.{ImageCopy}
use Rattle.vk_model.specs.declared.command.ImageElement.{ImageElement}
use Rattle.vk_model.specs.declared.command.SubresourceRange.{SubresourceRange}
use Rattle.vk_model.specs.declared.command.Element.TheVariants.{Memory, Buffer as OnBuffer, Image as OnImage}
use Rattle.vk_model.specs.declared.command.Cmd.{Cmd}
use Rattle.vk_model.specs.declared.command.Cmd.TheVariants.{Fill, Update, Copy, Clear, CopyIn, CopyOut, CopyImage, Barrier, Set, Await}
use Rattle.vk_model.specs.declared.entry.SemaphoreValue.{SemaphoreValue}
use Rattle.vk_model.specs.declared.entry.SemaphoreSubmit.{SemaphoreSubmit}
use Rattle.vk_model.specs.declared.entry.Batch.{Batch}
use Rattle.vk_model.specs.declared.entry.Entry.{Entry}
use Rattle.vk_model.specs.declared.entry.Entry.TheVariants.{Buffer, Image, Memory as MemoryObject, Free, Destroy, Pool, DropPool, Map, Unmap, Write, Read, Flush, Invalidate, Semaphore, Event, Signal, Wait, Submit, Defrag, Pass, EndPass, EndDefrag}
use Rattle.vk_trace.specs.Members.{Reader, Row, ◌>>=◌, from, ◌<*>◌, members, at_word, one_word, tagged, list_of, bytes_value, u64_value, u32_value}

-- A number of bytes, or the word that means all to the end (`VK_WHOLE_SIZE`) (profile).
unfoldable pub length_or_whole : Reader Length
length_or_whole d = by_word (as_str d)
  where
    by_word : Option (List ℕ) → Option Length
    by_word (Some word) = at_word ((codes "whole", Whole) ∷ []) word
    by_word None = option_map Bytes (u64_value d)

-- The scopes of a dependency, as in `VkMemoryBarrier2` (profile).
abbrev pub dependency : ℕ → ℕ → ℕ → ℕ → Dependency
dependency a b c d = record { source_stages = record { 0 = a }; source_accesses = record { 0 = b }; destination_stages = record { 0 = c }; destination_accesses = record { 0 = d } }

-- Source stages, source accesses, destination stages, destination accesses (profile).
unfoldable pub dependency_value : Reader Dependency
dependency_value = members (from dependency <*> u32_value <*> u32_value <*> u32_value <*> u32_value)

-- The same, source family, destination family, buffer, offset, size, as in `VkBufferMemoryBarrier2` (profile).
unfoldable pub buffer_element : Reader BufferElement
buffer_element = members (from element <*> u32_value <*> u32_value <*> u32_value <*> u32_value <*> u32_value <*> u32_value <*> u32_value <*> u64_value <*> length_or_whole)
  where
    element : ℕ → ℕ → ℕ → ℕ → ℕ → ℕ → ℕ → ℕ → Length → BufferElement
    element a b c d source destination buffer offset size = record { dependency = dependency a b c d; families = record { source = source; destination = destination }; buffer = buffer; offset = offset; size = size }

-- Source offset, destination offset, size, as in `VkBufferCopy2` (profile).
unfoldable pub copy_region : Reader BufferCopy
copy_region = members (from (λ source destination size. record { source_offset = source; destination_offset = destination; size = size }) <*> u64_value <*> u64_value <*> u64_value)

-- First level, levels, first layer, layers, as in `VkImageSubresourceRange` (profile).
unfoldable pub subresource_range : Reader SubresourceRange
subresource_range = members (from range <*> u32_value <*> u32_value <*> u32_value <*> u32_value)
  where
    range : ℕ → ℕ → ℕ → ℕ → SubresourceRange
    range first_level levels first_layer layers = record { first_level = first_level; levels = levels; first_layer = first_layer; layers = layers }

-- The same as of a dependency, source family, destination family, image, old layout, new layout, levels and layers, as in `VkImageMemoryBarrier2` (profile).
unfoldable pub image_element : Reader ImageElement
image_element = members (from element <*> u32_value <*> u32_value <*> u32_value <*> u32_value <*> u32_value <*> u32_value <*> u32_value <*> u32_value <*> u32_value <*> subresource_range)
  where
    element : ℕ → ℕ → ℕ → ℕ → ℕ → ℕ → ℕ → ℕ → ℕ → SubresourceRange → ImageElement
    element a b c d source destination image old new range = record { dependency = dependency a b c d; families = record { source = source; destination = destination }; image = image; old_layout = old; new_layout = new; range = range }

-- Buffer offset, row length, image height, level, first layer, layers, x, y, width, height, as in `VkBufferImageCopy2` (profile).
unfoldable pub buffer_image_region : Reader BufferImageCopy
buffer_image_region = members (from region <*> u64_value <*> u32_value <*> u32_value <*> u32_value <*> u32_value <*> u32_value <*> u32_value <*> u32_value <*> u32_value <*> u32_value)
  where
    region : ℕ → ℕ → ℕ → ℕ → ℕ → ℕ → ℕ → ℕ → ℕ → ℕ → BufferImageCopy
    region offset row_length image_height level first_layer layers x y width height = record {
      buffer_offset = offset;
      row_length = row_length;
      image_height = image_height;
      level = level;
      first_layer = first_layer;
      layers = layers;
      x = x;
      y = y;
      width = width;
      height = height;
    }

-- Source level, source first layer, destination level, destination first layer, layers, source x, source y, destination x, destination y, width, height, as in `VkImageCopy2` (profile).
unfoldable pub image_region : Reader ImageCopy
image_region = members (from region <*> u32_value <*> u32_value <*> u32_value <*> u32_value <*> u32_value <*> u32_value <*> u32_value <*> u32_value <*> u32_value <*> u32_value <*> u32_value)
  where
    region : ℕ → ℕ → ℕ → ℕ → ℕ → ℕ → ℕ → ℕ → ℕ → ℕ → ℕ → ImageCopy
    region source_level source_first_layer destination_level destination_first_layer layers source_x source_y destination_x destination_y width height = record {
      source_level = source_level;
      source_first_layer = source_first_layer;
      destination_level = destination_level;
      destination_first_layer = destination_first_layer;
      layers = layers;
      source_x = source_x;
      source_y = source_y;
      destination_x = destination_x;
      destination_y = destination_y;
      width = width;
      height = height;
    }

-- The four components of a color, as in `VkClearColorValue` (profile).
unfoldable pub color_value : Reader (List ℕ)
color_value = members (from (λ r g b a. r ∷ g ∷ b ∷ a ∷ []) <*> u32_value <*> u32_value <*> u32_value <*> u32_value)

-- The names of commands and the members after each (profile).
unfoldable pub command_rows : List (List ℕ × Row Cmd)
command_rows
    -- buffer, offset, size, word
    = (codes "fill", from Fill <*> u32_value <*> u64_value <*> length_or_whole <*> u32_value)
    -- buffer, offset, bytes
    ∷ (codes "update", from Update <*> u32_value <*> u64_value <*> bytes_value)
    -- source, destination, regions
    ∷ (codes "copy", from Copy <*> u32_value <*> u32_value <*> list_of copy_region)
    -- image, layout, components, ranges
    ∷ (codes "clear", from Clear <*> u32_value <*> u32_value <*> color_value <*> list_of subresource_range)
    -- buffer, image, layout, regions
    ∷ (codes "copy_in", from CopyIn <*> u32_value <*> u32_value <*> u32_value <*> list_of buffer_image_region)
    -- image, layout, buffer, regions
    ∷ (codes "copy_out", from CopyOut <*> u32_value <*> u32_value <*> u32_value <*> list_of buffer_image_region)
    -- source, layout, destination, layout, regions
    ∷ (codes "copy_image", from CopyImage <*> u32_value <*> u32_value <*> u32_value <*> u32_value <*> list_of image_region)
    -- elements of memory, of buffers, of images
    ∷ (codes "barrier", from (λ memory buffers images. Barrier (map Memory memory ++ map OnBuffer buffers ++ map OnImage images)) <*> list_of dependency_value <*> list_of buffer_element <*> list_of image_element)
    -- event, elements
    ∷ (codes "set", from Set <*> u32_value <*> list_of dependency_value)
    -- event, elements
    ∷ (codes "await", from Await <*> u32_value <*> list_of dependency_value)
    ∷ []

-- A command is a word and its members (profile).
unfoldable pub command_value : Reader Cmd
command_value = tagged command_rows

-- Semaphore, value, stages, as in `VkSemaphoreSubmitInfo` (profile).
unfoldable pub semaphore_submit : Reader SemaphoreSubmit
semaphore_submit = members (from submit <*> u32_value <*> u64_value <*> u32_value)
  where
    submit : ℕ → ℕ → ℕ → SemaphoreSubmit
    submit semaphore value stages = record { semaphore = semaphore; value = value; stages = record { 0 = stages } }

-- Waits, commands, signals, as in `VkSubmitInfo2` (profile).
unfoldable pub batch_value : Reader Batch
batch_value = members (from (λ waits commands signals. record { waits = waits; commands = commands; signals = signals })
    <*> list_of semaphore_submit <*> list_of command_value <*> list_of semaphore_submit)

-- Semaphore, value (profile).
unfoldable pub semaphore_value : Reader SemaphoreValue
semaphore_value = members (from (λ semaphore value. record { semaphore = semaphore; value = value }) <*> u32_value <*> u64_value)

-- The names of places and the members after each (profile).
unfoldable pub place_rows : List (List ℕ × Row Place)
place_rows
    -- memory type
    = (codes "dedicated", from Dedicated <*> u32_value)
    -- memory object, offset
    ∷ (codes "memory", from InMemory <*> u32_value <*> u64_value)
    -- pool
    ∷ (codes "pool", from InPool <*> u32_value)
    -- pool
    ∷ (codes "pool_upper", from PoolUpper <*> u32_value)
    ∷ []

-- A place is a word and its members (profile).
unfoldable pub place_value : Reader Place
place_value = tagged place_rows

-- The names of `VkSharingMode` (profile).
unfoldable pub sharing_value : Reader Sharing
sharing_value = one_word ((codes "exclusive", Exclusive) ∷ (codes "concurrent", Concurrent) ∷ [])

-- The names of formats, as of `VkFormat` (profile).
unfoldable pub format_value : Reader Format
format_value = one_word ((codes "R8_UINT", R8Uint) ∷ (codes "R8G8_UINT", R8G8Uint) ∷ (codes "R8G8B8A8_UINT", R8G8B8A8Uint) ∷ (codes "R16_UINT", R16Uint) ∷ (codes "R32_UINT", R32Uint) ∷ (codes "R32G32_UINT", R32G32Uint) ∷ (codes "R32G32B32A32_UINT", R32G32B32A32Uint) ∷ [])

-- The names of `VkImageTiling` (profile).
unfoldable pub tiling_value : Reader Kind
tiling_value = one_word ((codes "optimal", Optimal) ∷ (codes "linear", Linear) ∷ [])

-- An image of an id, a format, a width, a height, levels, layers, a tiling, a usage, a sharing and a place (profile).
abbrev pub image : ℕ → Format → ℕ → ℕ → ℕ → ℕ → Kind → ℕ → Sharing → Place → Entry
image id format width height levels layers tiling usage sharing place =
    Image id (record { format = format; width = width; height = height; levels = levels; layers = layers; tiling = tiling; usage = record { 0 = usage }; sharing = sharing; place = place })

-- A buffer of an id, a size, a usage, a sharing and a place (profile).
abbrev pub buffer : ℕ → ℕ → ℕ → Sharing → Place → Entry
buffer id size usage sharing place = Buffer id (record { size = size; usage = record { 0 = usage }; sharing = sharing; place = place })

-- A memory object of an id, a memory type and a size (profile).
abbrev pub memory : ℕ → ℕ → ℕ → Entry
memory id memory_type size = MemoryObject id (record { memory_type = memory_type; size = size })

-- The names of the algorithms of pools, as of `VmaPoolCreateFlags` (profile).
unfoldable pub algorithm_value : Reader PoolKind
algorithm_value = one_word ((codes "tlsf", Tlsf) ∷ (codes "linear", LinearPool) ∷ [])

-- A pool of an id, an algorithm, a memory type, a block size and a block limit (profile).
abbrev pub pool : ℕ → PoolKind → ℕ → ℕ → ℕ → Entry
pool id kind memory_type block_size block_limit = Pool id (record { kind = kind; memory_type = memory_type; block_size = block_size; block_limit = block_limit })

-- The names of entries and the members after each (profile).
unfoldable pub entry_rows : List (List ℕ × Row Entry)
entry_rows
    -- id, size, usage, sharing, place
    = (codes "buffer", from buffer <*> u32_value <*> u64_value <*> u32_value <*> sharing_value <*> place_value)
    -- id, format, width, height, levels, layers, tiling, usage, sharing, place
    ∷ (codes "image", from image <*> u32_value <*> format_value <*> u32_value <*> u32_value <*> u32_value <*> u32_value <*> tiling_value <*> u32_value <*> sharing_value <*> place_value)
    -- id, memory type, size
    ∷ (codes "memory", from memory <*> u32_value <*> u32_value <*> u64_value)
    -- memory object
    ∷ (codes "free", from Free <*> u32_value)
    -- buffer or image
    ∷ (codes "destroy", from Destroy <*> u32_value)
    -- id, algorithm, memory type, block size, block limit
    ∷ (codes "pool", from pool <*> u32_value <*> algorithm_value <*> u32_value <*> u64_value <*> u32_value)
    -- pool
    ∷ (codes "drop_pool", from DropPool <*> u32_value)
    -- buffer
    ∷ (codes "map", from Map <*> u32_value)
    -- buffer
    ∷ (codes "unmap", from Unmap <*> u32_value)
    -- buffer, offset, bytes
    ∷ (codes "write", from Write <*> u32_value <*> u64_value <*> bytes_value)
    -- buffer, offset, size
    ∷ (codes "read", from Read <*> u32_value <*> u64_value <*> u64_value)
    -- buffer, offset, size
    ∷ (codes "flush", from Flush <*> u32_value <*> u64_value <*> length_or_whole)
    -- buffer, offset, size
    ∷ (codes "invalidate", from Invalidate <*> u32_value <*> u64_value <*> length_or_whole)
    -- id, initial value
    ∷ (codes "semaphore", from Semaphore <*> u32_value <*> u64_value)
    -- id
    ∷ (codes "event", from Event <*> u32_value)
    -- semaphore, value
    ∷ (codes "signal", from Signal <*> u32_value <*> u64_value)
    -- the values that the host waits for
    ∷ (codes "wait", from Wait <*> list_of semaphore_value)
    -- queue, batches
    ∷ (codes "submit", from Submit <*> u32_value <*> list_of batch_value)
    -- id, pool, most bytes and most moves of a pass
    ∷ (codes "defrag", from Defrag <*> u32_value <*> u32_value <*> u64_value <*> u32_value)
    -- defragmentation
    ∷ (codes "pass", from Pass <*> u32_value)
    -- defragmentation, the resources that stay, those that end
    ∷ (codes "end_pass", from EndPass <*> u32_value <*> list_of u32_value <*> list_of u32_value)
    -- defragmentation
    ∷ (codes "end_defrag", from EndDefrag <*> u32_value)
    ∷ []

-- An entry is a word and its members (profile).
unfoldable pub entry_value : Reader Entry
entry_value = tagged entry_rows

-- A trace is an array of entries (profile).
abbrev pub trace_value : Reader (List Entry)
trace_value = list_of entry_value

-- The bytes are UTF-8, and spell a value of JSON that means these entries.
pub record IsTrace (bytes : List ℕ) (entries : List Entry) : Type 0 where
  pub text : IsUtf8 bytes
  pub value : Data
  pub json : read bytes ≡ Some value
  pub means : trace_value value ≡ Some entries
