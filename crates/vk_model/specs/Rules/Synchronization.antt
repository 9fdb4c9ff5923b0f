-- The rules on masks, events and semaphores: STAGE, EVENT_STATE, EVENT_DEPENDENCY, SIGNAL_VALUE, SIGNAL_ORDER, WAIT_BEFORE_SIGNAL, WAIT_NEVER.
use Rattle.std.specs.Prelude.{ℕ, ◌+◌, List, [], ◌∷◌, length, Bool, true, false, not, ◌&&◌, ◌||◌, ◌==◌, nat_lt, nat_le, if◌then◌else◌, Option, Some, None, option_and_then}
use Rattle.std.specs.List.{list_any, filter, filter_map}
use Rattle.vk_model.specs.declared.command.Cmd.{Cmd}
use Rattle.vk_model.specs.declared.command.Cmd.TheVariants as cmd
use Rattle.vk_model.specs.declared.command.Dependency.{Dependency}
use Rattle.vk_model.specs.declared.entry.Entry.{Entry}
use Rattle.vk_model.specs.declared.entry.Entry.TheVariants as entry
use Rattle.vk_model.specs.declared.entry.SemaphoreSubmit.{SemaphoreSubmit}
use Rattle.vk_model.specs.Basics.{holds, has_bits, has_some}
use Rattle.vk_model.specs.Trace.Point.{Past, Point, Action, Host, Wait, Run, Signal, command_of, on_host, on_command}
use Rattle.vk_model.specs.Trace.Order.{counter, signal_of}
use Rattle.vk_model.specs.Sync.Node.{Node, nodes, next_nodes}
use Rattle.vk_model.specs.World.Ownership.{dependency_of}
use Rattle.vk_model.specs.Sync.Edge.{transfer_stage, host_stage, all_commands, signaled_by}
use Rattle.vk_model.specs.Sync.Before.{before}

-- ---- STAGE

-- The stages of the profile (Vulkan, "Pipeline Stages").
abbrev pub known_stages : ℕ
known_stages = transfer_stage + host_stage + all_commands

-- The accesses of the profile: of TRANSFER, HOST and MEMORY, reads and writes (Vulkan, "Access Types").
abbrev pub known_accesses : ℕ
known_accesses = 2048 + 4096 + 8192 + 16384 + 32768 + 65536

-- Whether a side of a dependency has an unknown bit, or an access that none of its stages makes (Vulkan, "Access Types", on supported access types).
abbrev pub bad_masks : ℕ → ℕ → Bool
bad_masks stages accesses = not (has_bits known_stages stages) || not (has_bits known_accesses accesses)
    || has_some accesses (2048 + 4096) && not (has_some stages (transfer_stage + all_commands))
    || has_some accesses (8192 + 16384) && not (has_some stages host_stage)

-- Each side of a dependency is judged by itself, an ignored one too (Vulkan, "Memory Barriers"; the ignored ones: profile).
abbrev pub bad_dependency : Dependency → Bool
bad_dependency d = bad_masks d.source_stages.0 d.source_accesses.0 || bad_masks d.destination_stages.0 d.destination_accesses.0

-- An event's element hasn't HOST in its source stages (Vulkan, "Events", without host events).
abbrev pub bad_event_element : Dependency → Bool
bad_event_element d = bad_dependency d || has_some d.source_stages.0 host_stage

-- Whether an element of a command has bad masks.
abbrev pub bad_stages : Cmd → Bool
bad_stages (cmd.Barrier es) = list_any (λ e. bad_dependency (dependency_of e)) es
bad_stages (cmd.Set v ms) = list_any bad_event_element ms
bad_stages (cmd.Await v ms) = list_any bad_event_element ms
bad_stages _ = false

-- A batch's wait or signal hasn't an unknown stage, nor HOST (Vulkan, "Queue Submission", on `VkSemaphoreSubmitInfo`; HOST: profile).
abbrev pub bad_submit_stages : SemaphoreSubmit → Bool
bad_submit_stages s = not (has_bits known_stages s.stages.0) || has_some s.stages.0 host_stage

-- Whether an action has bad stages.
abbrev pub action_stages : Action → Bool
action_stages (Host x) = false
action_stages (Wait s) = bad_submit_stages s
action_stages (Run c) = bad_stages c
action_stages (Signal s) = bad_submit_stages s

-- STAGE: a stage or access that isn't known or doesn't fit (Vulkan, "Pipeline Stages" and "Access Types").
abbrev pub breaks_stage : Past → Point → Bool
breaks_stage past p = action_stages p.action

-- ---- EVENT_STATE and EVENT_DEPENDENCY

-- The elements that a command sets event v with (Vulkan, "Events").
abbrev pub set_by : ℕ → Cmd → Option (List Dependency)
set_by v (cmd.Set u ms) = if v == u then Some ms else None
set_by v _ = None

-- The lists of elements that an event was set with, one for each set (Vulkan, "Events").
abbrev pub sets : Past → ℕ → List (List Dependency)
sets past v = filter_map (λ p. option_and_then (set_by v) (command_of p.action)) past

-- The points on a queue.
abbrev pub on_queue : ℕ → Past → Past
on_queue q past = filter (λ p. p.queue == q) past

-- Whether a command on a queue sets an event that was set, or awaits one that wasn't set on this queue.
abbrev pub bad_event : Past → ℕ → Cmd → Bool
bad_event past q (cmd.Set v ms) = nat_lt 0 (length (sets past v))
bad_event past q (cmd.Await v ms) = length (sets (on_queue q past) v) == 0
bad_event past q _ = false

-- EVENT_STATE: a set of an event that was set before (profile), or an await of one that wasn't set earlier on this queue (Vulkan, "Events").
abbrev pub breaks_event_state : Past → Point → Bool
breaks_event_state past p = on_command (bad_event past p.queue) p

-- Whether two dependencies are equal.
abbrev pub same_dependency : Dependency → Dependency → Bool
same_dependency d e = d.source_stages.0 == e.source_stages.0 && d.source_accesses.0 == e.source_accesses.0 && d.destination_stages.0 == e.destination_stages.0 && d.destination_accesses.0 == e.destination_accesses.0

-- Whether two lists of dependencies are equal, in order.
abbrev pub same_dependencies : List Dependency → List Dependency → Bool
same_dependencies [] [] = true
same_dependencies (d ∷ ds) (e ∷ es) = same_dependency d e && same_dependencies ds es
same_dependencies _ _ = false

-- Whether a command awaits an event with other elements than it was set with.
abbrev pub awaits_others : Past → Cmd → Bool
awaits_others past (cmd.Await v ms) = not (list_any (same_dependencies ms) (sets past v))
awaits_others past _ = false

-- EVENT_DEPENDENCY: the await's elements differ from the set's (Vulkan, "Events", on `vkCmdWaitEvents2`).
abbrev pub breaks_event_dependency : Past → Point → Bool
breaks_event_dependency past p = on_command (awaits_others past) p

-- ---- SIGNAL_VALUE and SIGNAL_ORDER

-- SIGNAL_VALUE: the value isn't above the initial one and all earlier signals (Vulkan, "Semaphore Signaling", on `VkTimelineSemaphoreSubmitInfo`).
abbrev pub breaks_signal_value : Past → Point → Bool
breaks_signal_value past p = holds (signal_of p.action) (λ x. holds (counter past x.0) (nat_le x.1))

-- Whether two nodes signal the same semaphore.
abbrev pub same_semaphore : Node → Node → Bool
same_semaphore m n = holds (signaled_by m.act) (λ x. holds (signaled_by n.act) (λ y. x.0 == y.0))

-- SIGNAL_ORDER: an earlier signal of the semaphore doesn't come before this one (Vulkan, "Semaphore Signaling", on values that must rise).
abbrev pub breaks_signal_order : Past → Point → Bool
breaks_signal_order past p = list_any (λ n. list_any (λ m. same_semaphore m n && not (before (nodes (p ∷ past)) m n)) (nodes past)) (next_nodes past p)

-- ---- WAIT_BEFORE_SIGNAL and WAIT_NEVER

-- WAIT_BEFORE_SIGNAL: no point breaks it, since a batch waits for a signal that comes later (Vulkan, "Semaphore Waiting"); the rule keeps its name and its place in the table (profile).
abbrev pub breaks_wait_before_signal : Past → Point → Bool
breaks_wait_before_signal past p = false

-- Whether the host waits for a value above a counter.
abbrev pub waits_for_more : Past → Entry → Bool
waits_for_more past (entry.Wait ws) = list_any (λ w. holds (counter past w.semaphore) (λ c. nat_lt c w.value)) ws
waits_for_more past _ = false

-- WAIT_NEVER: the host waits for a value above the counter, when all batches that can be started are (Vulkan, "Semaphores", on `vkWaitSemaphores`; here such a wait has no end: profile).
abbrev pub breaks_wait_never : Past → Point → Bool
breaks_wait_never past p = on_host (waits_for_more past) p
