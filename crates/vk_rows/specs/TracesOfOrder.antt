-- The broken and the corrected traces for each rule from EVENT_STATE to WAIT_NEVER.
use Rattle.std.specs.Prelude.{List, ◌+◌, [], ◌∷◌}
use Rattle.vk_model.specs.declared.entry.Entry.{Entry}
use Rattle.vk_model.specs.declared.entry.Entry.TheVariants as entry
use Rattle.vk_model.specs.declared.command.Cmd.TheVariants as cmd
use Rattle.vk_rows.specs.Writing.{dependency, submit_info, semaphore_value, batch, transfer, all_commands, transfer_read, transfer_write}

-- An event is set twice.
abbrev pub event_state : List Entry
event_state =
    entry.Event 1
    ∷ entry.Submit 0 (batch [] (cmd.Set 1 [] ∷ cmd.Set 1 [] ∷ []) [] ∷ [])
    ∷ []

-- It is set and awaited.
abbrev pub event_state_corrected : List Entry
event_state_corrected =
    entry.Event 1
    ∷ entry.Submit 0 (batch [] (cmd.Set 1 [] ∷ cmd.Await 1 [] ∷ []) [] ∷ [])
    ∷ []

-- An await of an element that the set hasn't.
abbrev pub event_dependency : List Entry
event_dependency =
    entry.Event 1
    ∷ entry.Submit 0 (batch []
    (cmd.Set 1 []
    ∷ cmd.Await 1 ((dependency transfer transfer_write transfer (transfer_read + transfer_write)) ∷ []) ∷ [])
    [] ∷ [])
    ∷ []

-- That it has.
abbrev pub event_dependency_corrected : List Entry
event_dependency_corrected =
    entry.Event 1
    ∷ entry.Submit 0 (batch []
    (cmd.Set 1 ((dependency transfer transfer_write transfer (transfer_read + transfer_write)) ∷ [])
    ∷ cmd.Await 1 ((dependency transfer transfer_write transfer (transfer_read + transfer_write)) ∷ []) ∷ [])
    [] ∷ [])
    ∷ []

-- A signal of the initial value.
abbrev pub signal_value : List Entry
signal_value =
    entry.Semaphore 1 5
    ∷ entry.Signal 1 5
    ∷ []

-- Of a greater one.
abbrev pub signal_value_corrected : List Entry
signal_value_corrected =
    entry.Semaphore 1 5
    ∷ entry.Signal 1 6
    ∷ []

-- The host signals above a queue, and hasn't waited for it.
abbrev pub signal_order : List Entry
signal_order =
    entry.Semaphore 1 0
    ∷ entry.Submit 0 (batch [] [] (submit_info 1 1 all_commands ∷ []) ∷ [])
    ∷ entry.Signal 1 2
    ∷ []

-- It has.
abbrev pub signal_order_corrected : List Entry
signal_order_corrected =
    entry.Semaphore 1 0
    ∷ entry.Submit 0 (batch [] [] (submit_info 1 1 all_commands ∷ []) ∷ [])
    ∷ entry.Wait (semaphore_value 1 1 ∷ [])
    ∷ entry.Signal 1 2
    ∷ []

-- A batch that waits for a value that nobody has signaled.
abbrev pub wait_before_signal_waits : List Entry
wait_before_signal_waits =
    entry.Semaphore 1 0
    ∷ entry.Submit 0 (batch (submit_info 1 1 all_commands ∷ []) [] [] ∷ [])
    ∷ []

-- The host waits for a value that nobody has signaled.
abbrev pub wait_never : List Entry
wait_never =
    entry.Semaphore 1 0
    ∷ entry.Wait (semaphore_value 1 1 ∷ [])
    ∷ []

-- That the host has.
abbrev pub wait_never_corrected : List Entry
wait_never_corrected =
    entry.Semaphore 1 0
    ∷ entry.Signal 1 1
    ∷ entry.Wait (semaphore_value 1 1 ∷ [])
    ∷ []
