-- Traces that a wrong reading of a definition judges otherwise, each with its corrected trace: for HAZARD_RAW, HAZARD_WAW and READ_UNDEFINED.
use Rattle.std.specs.Prelude.{List, [], ◌∷◌}
use Rattle.vk_model.specs.declared.entry.Entry.{Entry}
use Rattle.vk_model.specs.declared.entry.Entry.TheVariants as entry
use Rattle.vk_model.specs.declared.resource.Sharing.TheVariants as sharing
use Rattle.vk_model.specs.declared.resource.Place.TheVariants as place
use Rattle.vk_model.specs.declared.resource.Kind.TheVariants as kind
use Rattle.vk_model.specs.declared.layout.Format.TheVariants as texel_format
use Rattle.vk_model.specs.declared.command.Element.TheVariants as element
use Rattle.vk_model.specs.declared.command.Cmd.TheVariants as cmd
use Rattle.vk_rows.specs.Writing.{bytes, dependency, levels, image_element, submit_info, semaphore_value, batch, buffer_entry, image_entry, transfer, host, all_commands, transfer_write, host_read, host_write, memory_read, memory_write, both, undefined, general, source_optimal, ignored}

-- The host waits for the initial value, and reads what a fill wrote before a signal of 2.
abbrev pub wait_that_the_initial_value_meets : List Entry
wait_that_the_initial_value_meets =
    buffer_entry 1 16 both sharing.Exclusive (place.Dedicated 1)
    ∷ entry.Semaphore 2 1
    ∷ entry.Map 1
    ∷ entry.Submit 0 (batch []
    (cmd.Fill 1 0 (bytes 4) 7
    ∷ cmd.Barrier (element.Memory (dependency transfer transfer_write host host_read) ∷ []) ∷ [])
    (submit_info 2 2 all_commands ∷ []) ∷ [])
    ∷ entry.Wait (semaphore_value 2 1 ∷ [])
    ∷ entry.Read 1 0 4
    ∷ []

-- It waits for 2.
abbrev pub wait_that_the_initial_value_meets_corrected : List Entry
wait_that_the_initial_value_meets_corrected =
    buffer_entry 1 16 both sharing.Exclusive (place.Dedicated 1)
    ∷ entry.Semaphore 2 1
    ∷ entry.Map 1
    ∷ entry.Submit 0 (batch []
    (cmd.Fill 1 0 (bytes 4) 7
    ∷ cmd.Barrier (element.Memory (dependency transfer transfer_write host host_read) ∷ []) ∷ [])
    (submit_info 2 2 all_commands ∷ []) ∷ [])
    ∷ entry.Wait (semaphore_value 2 2 ∷ [])
    ∷ entry.Read 1 0 4
    ∷ []

-- It comes after the signal that the host waits for.
abbrev pub dependency_to_the_host_after_the_signal : List Entry
dependency_to_the_host_after_the_signal =
    buffer_entry 1 16 both sharing.Exclusive (place.Dedicated 1)
    ∷ entry.Semaphore 2 0
    ∷ entry.Map 1
    ∷ entry.Submit 0 (batch [] (cmd.Fill 1 0 (bytes 4) 7 ∷ []) (submit_info 2 1 transfer ∷ [])
    ∷ batch [] (cmd.Barrier (element.Memory (dependency transfer transfer_write host host_read) ∷ []) ∷ []) [] ∷ [])
    ∷ entry.Wait (semaphore_value 2 1 ∷ [])
    ∷ entry.Read 1 0 4
    ∷ []

-- Before it.
abbrev pub dependency_to_the_host_after_the_signal_corrected : List Entry
dependency_to_the_host_after_the_signal_corrected =
    buffer_entry 1 16 both sharing.Exclusive (place.Dedicated 1)
    ∷ entry.Semaphore 2 0
    ∷ entry.Map 1
    ∷ entry.Submit 0 (batch []
    (cmd.Fill 1 0 (bytes 4) 7
    ∷ cmd.Barrier (element.Memory (dependency transfer transfer_write host host_read) ∷ []) ∷ [])
    (submit_info 2 1 transfer ∷ []) ∷ [])
    ∷ entry.Wait (semaphore_value 2 1 ∷ [])
    ∷ entry.Read 1 0 4
    ∷ []

-- The host reads after a set of a dependency to it.
abbrev pub set_and_not_awaited : List Entry
set_and_not_awaited =
    buffer_entry 1 16 both sharing.Exclusive (place.Dedicated 1)
    ∷ entry.Semaphore 2 0
    ∷ entry.Event 3
    ∷ entry.Map 1
    ∷ entry.Submit 0 (batch []
    (cmd.Fill 1 0 (bytes 4) 7
    ∷ cmd.Set 3 (dependency transfer transfer_write host host_read ∷ []) ∷ [])
    (submit_info 2 1 all_commands ∷ []) ∷ [])
    ∷ entry.Wait (semaphore_value 2 1 ∷ [])
    ∷ entry.Read 1 0 4
    ∷ []

-- After the await too.
abbrev pub set_and_not_awaited_corrected : List Entry
set_and_not_awaited_corrected =
    buffer_entry 1 16 both sharing.Exclusive (place.Dedicated 1)
    ∷ entry.Semaphore 2 0
    ∷ entry.Event 3
    ∷ entry.Map 1
    ∷ entry.Submit 0 (batch []
    (cmd.Fill 1 0 (bytes 4) 7
    ∷ cmd.Set 3 (dependency transfer transfer_write host host_read ∷ [])
    ∷ cmd.Await 3 (dependency transfer transfer_write host host_read ∷ []) ∷ [])
    (submit_info 2 1 all_commands ∷ []) ∷ [])
    ∷ entry.Wait (semaphore_value 2 1 ∷ [])
    ∷ entry.Read 1 0 4
    ∷ []

-- A read without an invalidation.
abbrev pub read_without_an_invalidation : List Entry
read_without_an_invalidation =
    buffer_entry 1 16 both sharing.Exclusive (place.Dedicated 2)
    ∷ entry.Semaphore 2 0
    ∷ entry.Map 1
    ∷ entry.Submit 0 (batch []
    (cmd.Fill 1 0 (bytes 4) 7
    ∷ cmd.Barrier (element.Memory (dependency transfer transfer_write host host_read) ∷ []) ∷ [])
    (submit_info 2 1 all_commands ∷ []) ∷ [])
    ∷ entry.Wait (semaphore_value 2 1 ∷ [])
    ∷ entry.Read 1 0 1
    ∷ []

-- A write.
abbrev pub read_without_an_invalidation_corrected : List Entry
read_without_an_invalidation_corrected =
    buffer_entry 1 16 both sharing.Exclusive (place.Dedicated 2)
    ∷ entry.Semaphore 2 0
    ∷ entry.Map 1
    ∷ entry.Submit 0 (batch []
    (cmd.Fill 1 0 (bytes 4) 7
    ∷ cmd.Barrier (element.Memory (dependency transfer transfer_write host host_write) ∷ []) ∷ [])
    (submit_info 2 1 all_commands ∷ []) ∷ [])
    ∷ entry.Wait (semaphore_value 2 1 ∷ [])
    ∷ entry.Write 1 0 (7 ∷ [])
    ∷ []

-- Two fills with a dependency from MEMORY_READ to MEMORY_READ between them.
abbrev pub memory_read_between_fills : List Entry
memory_read_between_fills =
    buffer_entry 1 16 both sharing.Exclusive (place.Dedicated 1)
    ∷ entry.Submit 0 (batch []
    (cmd.Fill 1 0 (bytes 4) 7
    ∷ cmd.Barrier (element.Memory (dependency transfer memory_read transfer memory_read) ∷ [])
    ∷ cmd.Fill 1 0 (bytes 4) 8 ∷ [])
    [] ∷ [])
    ∷ []

-- From MEMORY_WRITE to MEMORY_WRITE.
abbrev pub memory_read_between_fills_corrected : List Entry
memory_read_between_fills_corrected =
    buffer_entry 1 16 both sharing.Exclusive (place.Dedicated 1)
    ∷ entry.Submit 0 (batch []
    (cmd.Fill 1 0 (bytes 4) 7
    ∷ cmd.Barrier (element.Memory (dependency transfer memory_write transfer memory_write) ∷ [])
    ∷ cmd.Fill 1 0 (bytes 4) 8 ∷ [])
    [] ∷ [])
    ∷ []

-- The host writes after a dependency to its MEMORY_READ.
abbrev pub memory_read_before_a_write_of_the_host : List Entry
memory_read_before_a_write_of_the_host =
    buffer_entry 1 16 both sharing.Exclusive (place.Dedicated 1)
    ∷ entry.Semaphore 2 0
    ∷ entry.Map 1
    ∷ entry.Submit 0 (batch []
    (cmd.Fill 1 0 (bytes 4) 7
    ∷ cmd.Barrier (element.Memory (dependency transfer transfer_write host memory_read) ∷ []) ∷ [])
    (submit_info 2 1 all_commands ∷ []) ∷ [])
    ∷ entry.Wait (semaphore_value 2 1 ∷ [])
    ∷ entry.Write 1 0 (7 ∷ [])
    ∷ []

-- To its MEMORY_WRITE.
abbrev pub memory_read_before_a_write_of_the_host_corrected : List Entry
memory_read_before_a_write_of_the_host_corrected =
    buffer_entry 1 16 both sharing.Exclusive (place.Dedicated 1)
    ∷ entry.Semaphore 2 0
    ∷ entry.Map 1
    ∷ entry.Submit 0 (batch []
    (cmd.Fill 1 0 (bytes 4) 7
    ∷ cmd.Barrier (element.Memory (dependency transfer transfer_write host memory_write) ∷ []) ∷ [])
    (submit_info 2 1 all_commands ∷ []) ∷ [])
    ∷ entry.Wait (semaphore_value 2 1 ∷ [])
    ∷ entry.Write 1 0 (7 ∷ [])
    ∷ []

-- A transition of what a clear wrote, without a dependency on that.
abbrev pub transition_of_a_release : List Entry
transition_of_a_release =
    image_entry 1 texel_format.R8Uint 2 2 1 1 kind.Optimal both sharing.Exclusive (place.Dedicated 0)
    ∷ entry.Submit 0 (batch []
    (cmd.Barrier (image_element (dependency transfer 0 transfer transfer_write) ignored ignored 1 undefined general (levels 0 1 0 1) ∷ [])
    ∷ cmd.Clear 1 general (0 ∷ 0 ∷ 0 ∷ 0 ∷ []) (levels 0 1 0 1 ∷ [])
    ∷ cmd.Barrier (image_element (dependency transfer 0 0 0) ignored ignored 1 general source_optimal (levels 0 1 0 1) ∷ []) ∷ [])
    [] ∷ [])
    ∷ []

-- The same in a release.
abbrev pub transition_of_a_release_corrected : List Entry
transition_of_a_release_corrected =
    image_entry 1 texel_format.R8Uint 2 2 1 1 kind.Optimal both sharing.Exclusive (place.Dedicated 0)
    ∷ entry.Submit 0 (batch []
    (cmd.Barrier (image_element (dependency transfer 0 transfer transfer_write) ignored ignored 1 undefined general (levels 0 1 0 1) ∷ [])
    ∷ cmd.Clear 1 general (0 ∷ 0 ∷ 0 ∷ 0 ∷ []) (levels 0 1 0 1 ∷ [])
    ∷ cmd.Barrier (image_element (dependency transfer 0 0 0) 0 1 1 general source_optimal (levels 0 1 0 1) ∷ []) ∷ [])
    [] ∷ [])
    ∷ []

-- An invalidation of 65 bytes loses the host's write of byte 64.
abbrev pub range_that_ends_with_an_atom : List Entry
range_that_ends_with_an_atom =
    buffer_entry 1 128 both sharing.Exclusive (place.Dedicated 2)
    ∷ entry.Map 1
    ∷ entry.Write 1 64 (7 ∷ [])
    ∷ entry.Invalidate 1 0 (bytes 65)
    ∷ entry.Read 1 64 1
    ∷ []

-- Of 64 bytes.
abbrev pub range_that_ends_with_an_atom_corrected : List Entry
range_that_ends_with_an_atom_corrected =
    buffer_entry 1 128 both sharing.Exclusive (place.Dedicated 2)
    ∷ entry.Map 1
    ∷ entry.Write 1 64 (7 ∷ [])
    ∷ entry.Invalidate 1 0 (bytes 64)
    ∷ entry.Read 1 64 1
    ∷ []
