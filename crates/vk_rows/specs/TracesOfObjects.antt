-- The broken and the corrected traces for each rule from NEW_ID to ALIASED.
use Rattle.std.specs.Prelude.{List, [], ◌∷◌}
use Rattle.vk_model.specs.declared.entry.Entry.{Entry}
use Rattle.vk_model.specs.declared.entry.Entry.TheVariants as entry
use Rattle.vk_model.specs.declared.resource.Sharing.TheVariants as sharing
use Rattle.vk_model.specs.declared.resource.Place.TheVariants as place
use Rattle.vk_model.specs.declared.resource.Kind.TheVariants as kind
use Rattle.vk_model.specs.declared.resource.PoolKind.TheVariants as algorithm
use Rattle.vk_model.specs.declared.layout.Format.TheVariants as texel_format
use Rattle.vk_model.specs.declared.command.Cmd.TheVariants as cmd
use Rattle.vk_rows.specs.Writing.{semaphore_value, batch, buffer_entry, image_entry, pool_entry, memory_entry, source, both}

-- An id is made twice.
abbrev pub new_id : List Entry
new_id =
    entry.Semaphore 1 0
    ∷ entry.Event 1
    ∷ []

-- Two ids.
abbrev pub new_id_corrected : List Entry
new_id_corrected =
    entry.Semaphore 1 0
    ∷ entry.Event 2
    ∷ []

-- A wait for what isn't there.
abbrev pub live_id : List Entry
live_id =
    entry.Wait (semaphore_value 1 1 ∷ [])
    ∷ []

-- A semaphore that begins at the value.
abbrev pub live_id_corrected : List Entry
live_id_corrected =
    entry.Semaphore 1 1
    ∷ entry.Wait (semaphore_value 1 1 ∷ [])
    ∷ []

-- Queue 4.
abbrev pub queue : List Entry
queue =
    entry.Submit 4 []
    ∷ []

-- Queue 3.
abbrev pub queue_corrected : List Entry
queue_corrected =
    entry.Submit 3 []
    ∷ []

-- An event is set on a queue of transfer alone.
abbrev pub queue_kind : List Entry
queue_kind =
    entry.Event 1
    ∷ entry.Submit 2 (batch [] (cmd.Set 1 [] ∷ []) [] ∷ [])
    ∷ []

-- On queue 1.
abbrev pub queue_kind_corrected : List Entry
queue_kind_corrected =
    entry.Event 1
    ∷ entry.Submit 1 (batch [] (cmd.Set 1 [] ∷ []) [] ∷ [])
    ∷ []

-- A buffer of no bytes.
abbrev pub size : List Entry
size =
    buffer_entry 1 0 both sharing.Exclusive (place.Dedicated 1)
    ∷ []

-- One of a byte.
abbrev pub size_corrected : List Entry
size_corrected =
    buffer_entry 1 1 both sharing.Exclusive (place.Dedicated 1)
    ∷ []

-- A buffer for nothing.
abbrev pub usage : List Entry
usage =
    buffer_entry 1 16 0 sharing.Exclusive (place.Dedicated 1)
    ∷ []

-- One to copy from.
abbrev pub usage_corrected : List Entry
usage_corrected =
    buffer_entry 1 16 source sharing.Exclusive (place.Dedicated 1)
    ∷ []

-- An optimal image in memory that is visible to the host.
abbrev pub memory_type : List Entry
memory_type =
    image_entry 1 texel_format.R8Uint 8 8 1 1 kind.Optimal both sharing.Exclusive (place.Dedicated 1)
    ∷ []

-- In memory of the device.
abbrev pub memory_type_corrected : List Entry
memory_type_corrected =
    image_entry 1 texel_format.R8Uint 8 8 1 1 kind.Optimal both sharing.Exclusive (place.Dedicated 0)
    ∷ []

-- A memory object of no bytes.
abbrev pub memory_size : List Entry
memory_size =
    memory_entry 1 0 0
    ∷ []

-- Of a byte.
abbrev pub memory_size_corrected : List Entry
memory_size_corrected =
    memory_entry 1 0 1
    ∷ []

-- A buffer of 2,064 bytes in blocks of 4,096.
abbrev pub pool_size : List Entry
pool_size =
    pool_entry 1 algorithm.Tlsf 1 4096 2
    ∷ buffer_entry 2 2064 both sharing.Exclusive (place.Pool 1)
    ∷ []

-- Of 2,048.
abbrev pub pool_size_corrected : List Entry
pool_size_corrected =
    pool_entry 1 algorithm.Tlsf 1 4096 2
    ∷ buffer_entry 2 2048 both sharing.Exclusive (place.Pool 1)
    ∷ []

-- 16 bytes at 64 of 64.
abbrev pub bind_range : List Entry
bind_range =
    memory_entry 1 1 64
    ∷ buffer_entry 2 16 both sharing.Exclusive (place.Memory 1 64)
    ∷ []

-- At 48.
abbrev pub bind_range_corrected : List Entry
bind_range_corrected =
    memory_entry 1 1 64
    ∷ buffer_entry 2 16 both sharing.Exclusive (place.Memory 1 48)
    ∷ []

-- A buffer at 8.
abbrev pub bind_align : List Entry
bind_align =
    memory_entry 1 1 64
    ∷ buffer_entry 2 16 both sharing.Exclusive (place.Memory 1 8)
    ∷ []

-- At 16.
abbrev pub bind_align_corrected : List Entry
bind_align_corrected =
    memory_entry 1 1 64
    ∷ buffer_entry 2 16 both sharing.Exclusive (place.Memory 1 16)
    ∷ []

-- Two buffers at one place.
abbrev pub aliased : List Entry
aliased =
    memory_entry 1 1 64
    ∷ buffer_entry 2 16 both sharing.Exclusive (place.Memory 1 0)
    ∷ buffer_entry 3 16 both sharing.Exclusive (place.Memory 1 0)
    ∷ []

-- One after the other.
abbrev pub aliased_corrected : List Entry
aliased_corrected =
    memory_entry 1 1 64
    ∷ buffer_entry 2 16 both sharing.Exclusive (place.Memory 1 0)
    ∷ buffer_entry 3 16 both sharing.Exclusive (place.Memory 1 16)
    ∷ []
