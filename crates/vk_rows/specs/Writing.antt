-- Words to write traces with.
use Rattle.std.specs.Prelude.{ℕ, List}
use Rattle.vk_model.specs.declared.entry.Entry.{Entry}
use Rattle.vk_model.specs.declared.entry.Entry.TheVariants as entry
use Rattle.vk_model.specs.declared.entry.Batch.{Batch}
use Rattle.vk_model.specs.declared.entry.SemaphoreSubmit.{SemaphoreSubmit}
use Rattle.vk_model.specs.declared.entry.SemaphoreValue.{SemaphoreValue}
use Rattle.vk_model.specs.declared.resource.Sharing.{Sharing}
use Rattle.vk_model.specs.declared.resource.Place.{Place}
use Rattle.vk_model.specs.declared.resource.Kind.{Kind}
use Rattle.vk_model.specs.declared.resource.PoolKind.{PoolKind}
use Rattle.vk_model.specs.declared.layout.Format.{Format}
use Rattle.vk_model.specs.declared.command.Length.{Length}
use Rattle.vk_model.specs.declared.command.Length.TheVariants as length_of
use Rattle.vk_model.specs.declared.command.Element.{Element}
use Rattle.vk_model.specs.declared.command.Element.TheVariants as element
use Rattle.vk_model.specs.declared.command.Dependency.{Dependency}
use Rattle.vk_model.specs.declared.command.BufferCopy.{BufferCopy}
use Rattle.vk_model.specs.declared.command.BufferImageCopy.{BufferImageCopy}
use Rattle.vk_model.specs.declared.command.ImageCopy.{ImageCopy}
use Rattle.vk_model.specs.declared.command.SubresourceRange.{SubresourceRange}
use Rattle.vk_model.specs.declared.command.Cmd.{Cmd}

-- The stage TRANSFER.
abbrev pub transfer : ℕ
transfer = 4096

-- The stage HOST.
abbrev pub host : ℕ
host = 16384

-- The stage ALL_COMMANDS.
abbrev pub all_commands : ℕ
all_commands = 65536

-- The access TRANSFER_READ.
abbrev pub transfer_read : ℕ
transfer_read = 2048

-- The access TRANSFER_WRITE.
abbrev pub transfer_write : ℕ
transfer_write = 4096

-- The access HOST_READ.
abbrev pub host_read : ℕ
host_read = 8192

-- The access HOST_WRITE.
abbrev pub host_write : ℕ
host_write = 16384

-- The access MEMORY_READ.
abbrev pub memory_read : ℕ
memory_read = 32768

-- The access MEMORY_WRITE.
abbrev pub memory_write : ℕ
memory_write = 65536

-- The usage TRANSFER_SRC.
abbrev pub source : ℕ
source = 1

-- The usage TRANSFER_DST.
abbrev pub destination : ℕ
destination = 2

-- The usage TRANSFER_SRC and TRANSFER_DST.
abbrev pub both : ℕ
both = 3

-- The layout UNDEFINED.
abbrev pub undefined : ℕ
undefined = 0

-- The layout GENERAL.
abbrev pub general : ℕ
general = 1

-- The layout TRANSFER_SRC_OPTIMAL.
abbrev pub source_optimal : ℕ
source_optimal = 6

-- The layout TRANSFER_DST_OPTIMAL.
abbrev pub destination_optimal : ℕ
destination_optimal = 7

-- No queue family, VK_QUEUE_FAMILY_IGNORED.
abbrev pub ignored : ℕ
ignored = 4294967295

-- A length in bytes.
abbrev pub bytes : ℕ → Length
bytes n = length_of.Bytes n

-- A length to the end.
abbrev pub to_end : Length
to_end = length_of.Whole

-- The scopes of a dependency: source stages and accesses, destination stages and accesses.
abbrev pub dependency : ℕ → ℕ → ℕ → ℕ → Dependency
dependency a b c d = record { source_stages = record { 0 = a }; source_accesses = record { 0 = b }; destination_stages = record { 0 = c }; destination_accesses = record { 0 = d } }

-- First level, levels, first layer, layers.
abbrev pub levels : ℕ → ℕ → ℕ → ℕ → SubresourceRange
levels a b c d = record { first_level = a; levels = b; first_layer = c; layers = d }

-- An element on a buffer: its scopes, the two families, the buffer, offset and size.
abbrev pub buffer_element : Dependency → ℕ → ℕ → ℕ → ℕ → Length → Element
buffer_element d f g b o n = element.Buffer (record { dependency = d; families = record { source = f; destination = g }; buffer = b; offset = o; size = n })

-- An element on an image: its scopes, the two families, the image, the two layouts and the range.
abbrev pub image_element : Dependency → ℕ → ℕ → ℕ → ℕ → ℕ → SubresourceRange → Element
image_element d f g i old new r = element.Image (record { dependency = d; families = record { source = f; destination = g }; image = i; old_layout = old; new_layout = new; range = r })

-- A region of a buffer copy: source offset, destination offset, size.
abbrev pub buffer_region : ℕ → ℕ → ℕ → BufferCopy
buffer_region s d n = record { source_offset = s; destination_offset = d; size = n }

-- A region of a copy between a buffer and an image: buffer offset, row length, image height, level, first layer, layers, x, y, width, height.
abbrev pub region : ℕ → ℕ → ℕ → ℕ → ℕ → ℕ → ℕ → ℕ → ℕ → ℕ → BufferImageCopy
region o r i l f n x y w h = record { buffer_offset = o; row_length = r; image_height = i; level = l; first_layer = f; layers = n; x = x; y = y; width = w; height = h }

-- A region of an image copy: source level and first layer, destination level and first layer, layers, source x, y, destination x, y, width, height.
abbrev pub image_region : ℕ → ℕ → ℕ → ℕ → ℕ → ℕ → ℕ → ℕ → ℕ → ℕ → ℕ → ImageCopy
image_region a b c d n x y u v w h = record { source_level = a; source_first_layer = b; destination_level = c; destination_first_layer = d; layers = n; source_x = x; source_y = y; destination_x = u; destination_y = v; width = w; height = h }

-- A wait or a signal of a batch: semaphore, value, stages.
abbrev pub submit_info : ℕ → ℕ → ℕ → SemaphoreSubmit
submit_info s v m = record { semaphore = s; value = v; stages = record { 0 = m } }

-- What the host waits for: semaphore, value.
abbrev pub semaphore_value : ℕ → ℕ → SemaphoreValue
semaphore_value s v = record { semaphore = s; value = v }

-- A batch: its waits, commands and signals.
abbrev pub batch : List SemaphoreSubmit → List Cmd → List SemaphoreSubmit → Batch
batch ws cs ss = record { waits = ws; commands = cs; signals = ss }

-- A buffer: id, size, usage, sharing, place.
abbrev pub buffer_entry : ℕ → ℕ → ℕ → Sharing → Place → Entry
buffer_entry i n u s p = entry.Buffer i (record { size = n; usage = record { 0 = u }; sharing = s; place = p })

-- An image: id, format, width, height, levels, layers, tiling, usage, sharing, place.
abbrev pub image_entry : ℕ → Format → ℕ → ℕ → ℕ → ℕ → Kind → ℕ → Sharing → Place → Entry
image_entry i f w h l n t u s p = entry.Image i (record { format = f; width = w; height = h; levels = l; layers = n; tiling = t; usage = record { 0 = u }; sharing = s; place = p })

-- A pool: id, algorithm, memory type, block size, block limit.
abbrev pub pool_entry : ℕ → PoolKind → ℕ → ℕ → ℕ → Entry
pool_entry i k t n m = entry.Pool i (record { kind = k; memory_type = t; block_size = n; block_limit = m })

-- A memory object: id, type, size.
abbrev pub memory_entry : ℕ → ℕ → ℕ → Entry
memory_entry i t n = entry.Memory i (record { memory_type = t; size = n })
