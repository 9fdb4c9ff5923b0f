-- Traces that a wrong reading of a definition judges otherwise, each with its corrected trace: for the rules from LIVE_ID to PASS_WRITE.
use Rattle.std.specs.Prelude.{List, [], ◌∷◌}
use Rattle.vk_model.specs.declared.entry.Entry.{Entry}
use Rattle.vk_model.specs.declared.entry.Entry.TheVariants as entry
use Rattle.vk_model.specs.declared.resource.Sharing.TheVariants as sharing
use Rattle.vk_model.specs.declared.resource.Place.TheVariants as place
use Rattle.vk_model.specs.declared.resource.Kind.TheVariants as kind
use Rattle.vk_model.specs.declared.resource.PoolKind.TheVariants as algorithm
use Rattle.vk_model.specs.declared.layout.Format.TheVariants as texel_format
use Rattle.vk_model.specs.declared.command.Cmd.TheVariants as cmd
use Rattle.vk_rows.specs.Writing.{to_end, dependency, levels, buffer_element, image_element, region, submit_info, semaphore_value, batch, buffer_entry, image_entry, pool_entry, memory_entry, transfer, host, all_commands, transfer_read, transfer_write, source, both, undefined, general, destination_optimal, ignored}

-- A buffer of another pool is kept.
abbrev pub kept_of_another_pool : List Entry
kept_of_another_pool =
    pool_entry 1 algorithm.Tlsf 1 4096 2
    ∷ pool_entry 2 algorithm.Tlsf 1 4096 2
    ∷ buffer_entry 3 16 both sharing.Exclusive (place.Pool 2)
    ∷ entry.Defrag 4 1 0 0
    ∷ entry.Pass 4
    ∷ entry.EndPass 4 (3 ∷ []) []
    ∷ []

-- One of its pool.
abbrev pub kept_of_another_pool_corrected : List Entry
kept_of_another_pool_corrected =
    pool_entry 1 algorithm.Tlsf 1 4096 2
    ∷ pool_entry 2 algorithm.Tlsf 1 4096 2
    ∷ buffer_entry 3 16 both sharing.Exclusive (place.Pool 1)
    ∷ entry.Defrag 4 1 0 0
    ∷ entry.Pass 4
    ∷ entry.EndPass 4 (3 ∷ []) []
    ∷ []

-- A fill to the end from two bytes before it.
abbrev pub fill_of_less_than_a_word : List Entry
fill_of_less_than_a_word =
    buffer_entry 1 18 both sharing.Exclusive (place.Dedicated 1)
    ∷ entry.Submit 0 (batch [] (cmd.Fill 1 16 to_end 7 ∷ []) [] ∷ [])
    ∷ []

-- From six bytes before it.
abbrev pub fill_of_less_than_a_word_corrected : List Entry
fill_of_less_than_a_word_corrected =
    buffer_entry 1 18 both sharing.Exclusive (place.Dedicated 1)
    ∷ entry.Submit 0 (batch [] (cmd.Fill 1 12 to_end 7 ∷ []) [] ∷ [])
    ∷ []

-- 14 levels of a side of 4,096 texels.
abbrev pub levels_of_the_longest_side : List Entry
levels_of_the_longest_side =
    image_entry 1 texel_format.R8Uint 4096 1 14 1 kind.Optimal both sharing.Exclusive (place.Dedicated 0)
    ∷ []

-- 13.
abbrev pub levels_of_the_longest_side_corrected : List Entry
levels_of_the_longest_side_corrected =
    image_entry 1 texel_format.R8Uint 4096 1 13 1 kind.Optimal both sharing.Exclusive (place.Dedicated 0)
    ∷ []

-- Texels of a byte from byte 1 on, on queue 2.
abbrev pub offset_on_a_transfer_queue : List Entry
offset_on_a_transfer_queue =
    buffer_entry 1 16 source sharing.Exclusive (place.Dedicated 1)
    ∷ image_entry 2 texel_format.R8Uint 2 2 1 1 kind.Optimal both sharing.Exclusive (place.Dedicated 0)
    ∷ entry.Submit 2 (batch []
    (cmd.Barrier (image_element (dependency transfer 0 transfer transfer_write) ignored ignored 2 undefined general (levels 0 1 0 1) ∷ [])
    ∷ cmd.CopyIn 1 2 general (region 1 0 0 0 0 1 0 0 2 2 ∷ []) ∷ [])
    [] ∷ [])
    ∷ []

-- From byte 4 on.
abbrev pub offset_on_a_transfer_queue_corrected : List Entry
offset_on_a_transfer_queue_corrected =
    buffer_entry 1 16 source sharing.Exclusive (place.Dedicated 1)
    ∷ image_entry 2 texel_format.R8Uint 2 2 1 1 kind.Optimal both sharing.Exclusive (place.Dedicated 0)
    ∷ entry.Submit 2 (batch []
    (cmd.Barrier (image_element (dependency transfer 0 transfer transfer_write) ignored ignored 2 undefined general (levels 0 1 0 1) ∷ [])
    ∷ cmd.CopyIn 1 2 general (region 4 0 0 0 0 1 0 0 2 2 ∷ []) ∷ [])
    [] ∷ [])
    ∷ []

-- A wait in HOST.
abbrev pub host_in_a_wait : List Entry
host_in_a_wait =
    entry.Semaphore 1 1
    ∷ entry.Submit 0 (batch (submit_info 1 1 host ∷ []) [] [] ∷ [])
    ∷ []

-- In TRANSFER.
abbrev pub host_in_a_wait_corrected : List Entry
host_in_a_wait_corrected =
    entry.Semaphore 1 1
    ∷ entry.Submit 0 (batch (submit_info 1 1 transfer ∷ []) [] [] ∷ [])
    ∷ []

-- A signal of HOST.
abbrev pub host_in_a_signal : List Entry
host_in_a_signal =
    entry.Semaphore 1 0
    ∷ entry.Submit 0 (batch [] [] (submit_info 1 1 host ∷ []) ∷ [])
    ∷ []

-- Of TRANSFER.
abbrev pub host_in_a_signal_corrected : List Entry
host_in_a_signal_corrected =
    entry.Semaphore 1 0
    ∷ entry.Submit 0 (batch [] [] (submit_info 1 1 transfer ∷ []) ∷ [])
    ∷ []

-- What was released to GENERAL is acquired to TRANSFER_DST_OPTIMAL.
abbrev pub acquired_in_another_layout : List Entry
acquired_in_another_layout =
    image_entry 1 texel_format.R8Uint 2 2 1 1 kind.Optimal both sharing.Exclusive (place.Dedicated 0)
    ∷ entry.Semaphore 2 0
    ∷ entry.Submit 0 (batch [] (cmd.Barrier (image_element (dependency transfer 0 0 0) 0 1 1 undefined general (levels 0 1 0 1) ∷ []) ∷ []) (submit_info 2 1 all_commands ∷ []) ∷ [])
    ∷ entry.Submit 2 (batch (submit_info 2 1 all_commands ∷ []) (cmd.Barrier (image_element (dependency 0 0 transfer transfer_read) 0 1 1 undefined destination_optimal (levels 0 1 0 1) ∷ []) ∷ []) [] ∷ [])
    ∷ []

-- To GENERAL.
abbrev pub acquired_in_another_layout_corrected : List Entry
acquired_in_another_layout_corrected =
    image_entry 1 texel_format.R8Uint 2 2 1 1 kind.Optimal both sharing.Exclusive (place.Dedicated 0)
    ∷ entry.Semaphore 2 0
    ∷ entry.Submit 0 (batch [] (cmd.Barrier (image_element (dependency transfer 0 0 0) 0 1 1 undefined general (levels 0 1 0 1) ∷ []) ∷ []) (submit_info 2 1 all_commands ∷ []) ∷ [])
    ∷ entry.Submit 2 (batch (submit_info 2 1 all_commands ∷ []) (cmd.Barrier (image_element (dependency 0 0 transfer transfer_read) 0 1 1 undefined general (levels 0 1 0 1) ∷ []) ∷ []) [] ∷ [])
    ∷ []

-- A release of a concurrent buffer.
abbrev pub release_of_a_concurrent_resource : List Entry
release_of_a_concurrent_resource =
    buffer_entry 1 16 both sharing.Concurrent (place.Dedicated 1)
    ∷ entry.Submit 0 (batch [] (cmd.Barrier (buffer_element (dependency transfer transfer_write 0 0) 0 1 1 0 to_end ∷ []) ∷ []) [] ∷ [])
    ∷ []

-- Of an exclusive one.
abbrev pub release_of_a_concurrent_resource_corrected : List Entry
release_of_a_concurrent_resource_corrected =
    buffer_entry 1 16 both sharing.Exclusive (place.Dedicated 1)
    ∷ entry.Submit 0 (batch [] (cmd.Barrier (buffer_element (dependency transfer transfer_write 0 0) 0 1 1 0 to_end ∷ []) ∷ []) [] ∷ [])
    ∷ []

-- An await on queue 1 of what queue 0 has set.
abbrev pub set_on_another_queue : List Entry
set_on_another_queue =
    entry.Event 1
    ∷ entry.Submit 0 (batch [] (cmd.Set 1 [] ∷ []) [] ∷ [])
    ∷ entry.Submit 1 (batch [] (cmd.Await 1 [] ∷ []) [] ∷ [])
    ∷ []

-- On queue 0.
abbrev pub set_on_another_queue_corrected : List Entry
set_on_another_queue_corrected =
    entry.Event 1
    ∷ entry.Submit 0 (batch [] (cmd.Set 1 [] ∷ []) [] ∷ [])
    ∷ entry.Submit 0 (batch [] (cmd.Await 1 [] ∷ []) [] ∷ [])
    ∷ []

-- A buffer with an allocation of its own is destroyed while that is mapped.
abbrev pub destroyed_while_its_memory_is_mapped : List Entry
destroyed_while_its_memory_is_mapped =
    buffer_entry 1 16 both sharing.Exclusive (place.Dedicated 1)
    ∷ entry.Map 1
    ∷ entry.Destroy 1
    ∷ []

-- A buffer of a memory object.
abbrev pub destroyed_while_its_memory_is_mapped_corrected : List Entry
destroyed_while_its_memory_is_mapped_corrected =
    memory_entry 2 1 64
    ∷ buffer_entry 1 16 both sharing.Exclusive (place.Memory 2 0)
    ∷ entry.Map 1
    ∷ entry.Destroy 1
    ∷ []

-- A pass of one pool begins inside that of another.
abbrev pub passes_of_two_pools : List Entry
passes_of_two_pools =
    pool_entry 1 algorithm.Tlsf 1 4096 2
    ∷ pool_entry 2 algorithm.Tlsf 1 4096 2
    ∷ entry.Defrag 3 1 0 0
    ∷ entry.Defrag 4 2 0 0
    ∷ entry.Pass 3
    ∷ entry.Pass 4
    ∷ []

-- After it.
abbrev pub passes_of_two_pools_corrected : List Entry
passes_of_two_pools_corrected =
    pool_entry 1 algorithm.Tlsf 1 4096 2
    ∷ pool_entry 2 algorithm.Tlsf 1 4096 2
    ∷ entry.Defrag 3 1 0 0
    ∷ entry.Defrag 4 2 0 0
    ∷ entry.Pass 3
    ∷ entry.EndPass 3 [] []
    ∷ entry.Pass 4
    ∷ []

-- One that ends inside its pass.
abbrev pub ended_inside_its_pass : List Entry
ended_inside_its_pass =
    pool_entry 1 algorithm.Tlsf 1 4096 2
    ∷ entry.Defrag 2 1 0 0
    ∷ entry.Pass 2
    ∷ entry.EndDefrag 2
    ∷ []

-- After it.
abbrev pub ended_inside_its_pass_corrected : List Entry
ended_inside_its_pass_corrected =
    pool_entry 1 algorithm.Tlsf 1 4096 2
    ∷ entry.Defrag 2 1 0 0
    ∷ entry.Pass 2
    ∷ entry.EndPass 2 [] []
    ∷ entry.EndDefrag 2
    ∷ []

-- A pool is dropped that has one.
abbrev pub dropped_while_defragmented : List Entry
dropped_while_defragmented =
    pool_entry 1 algorithm.Tlsf 1 4096 2
    ∷ entry.Defrag 2 1 0 0
    ∷ entry.DropPool 1
    ∷ []

-- That had one.
abbrev pub dropped_while_defragmented_corrected : List Entry
dropped_while_defragmented_corrected =
    pool_entry 1 algorithm.Tlsf 1 4096 2
    ∷ entry.Defrag 2 1 0 0
    ∷ entry.EndDefrag 2
    ∷ entry.DropPool 1
    ∷ []

-- An acquire with a transition inside a pass.
abbrev pub acquired_inside_a_pass : List Entry
acquired_inside_a_pass =
    pool_entry 1 algorithm.Tlsf 0 4096 2
    ∷ image_entry 2 texel_format.R8Uint 2 2 1 1 kind.Optimal both sharing.Exclusive (place.Pool 1)
    ∷ entry.Semaphore 3 0
    ∷ entry.Defrag 4 1 0 0
    ∷ entry.Submit 0 (batch [] (cmd.Barrier (image_element (dependency transfer 0 0 0) 0 1 2 undefined general (levels 0 1 0 1) ∷ []) ∷ []) (submit_info 3 1 all_commands ∷ []) ∷ [])
    ∷ entry.Wait (semaphore_value 3 1 ∷ [])
    ∷ entry.Pass 4
    ∷ entry.Submit 2 (batch (submit_info 3 1 all_commands ∷ []) (cmd.Barrier (image_element (dependency 0 0 transfer transfer_read) 0 1 2 undefined general (levels 0 1 0 1) ∷ []) ∷ []) [] ∷ [])
    ∷ []

-- After it.
abbrev pub acquired_inside_a_pass_corrected : List Entry
acquired_inside_a_pass_corrected =
    pool_entry 1 algorithm.Tlsf 0 4096 2
    ∷ image_entry 2 texel_format.R8Uint 2 2 1 1 kind.Optimal both sharing.Exclusive (place.Pool 1)
    ∷ entry.Semaphore 3 0
    ∷ entry.Defrag 4 1 0 0
    ∷ entry.Submit 0 (batch [] (cmd.Barrier (image_element (dependency transfer 0 0 0) 0 1 2 undefined general (levels 0 1 0 1) ∷ []) ∷ []) (submit_info 3 1 all_commands ∷ []) ∷ [])
    ∷ entry.Wait (semaphore_value 3 1 ∷ [])
    ∷ entry.Pass 4
    ∷ entry.EndPass 4 [] []
    ∷ entry.Submit 2 (batch (submit_info 3 1 all_commands ∷ []) (cmd.Barrier (image_element (dependency 0 0 transfer transfer_read) 0 1 2 undefined general (levels 0 1 0 1) ∷ []) ∷ []) [] ∷ [])
    ∷ []
