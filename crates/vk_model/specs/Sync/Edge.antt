-- Which node is ordered directly before which later one.
use Rattle.std.specs.Prelude.{ℕ, ◌+◌, List, [], ◌∷◌, map, Bool, true, false, not, ◌&&◌, ◌||◌, ◌==◌, nat_lt, nat_le, Option, Some, None, option_and_then}
use Rattle.std.specs.List.{list_any, filter, filter_map}
use Rattle.vk_model.specs.declared.entry.Entry.{Entry}
use Rattle.vk_model.specs.declared.entry.Entry.TheVariants as entry
use Rattle.vk_model.specs.Basics.{has_some, has_bits, holds}
use Rattle.vk_model.specs.Trace.Order.{signal_in, value_for}
use Rattle.vk_model.specs.World.Ownership.{dependency_of}
use Rattle.vk_model.specs.Sync.Node.{Node, Act, Hosts, Waits, Signals, Runs, Depends, Barrier, SetOf, AwaitOf, same_place}

-- ---- stages and scopes

-- The stage in which clears and copies run (Vulkan, "Pipeline Stages", on `VK_PIPELINE_STAGE_2_ALL_TRANSFER_BIT`).
abbrev pub transfer_stage : ℕ
transfer_stage = 4096

-- The stage of the host's accesses (Vulkan, "Pipeline Stages", on `VK_PIPELINE_STAGE_2_HOST_BIT`).
abbrev pub host_stage : ℕ
host_stage = 16384

-- All stages of a queue's commands (Vulkan, "Pipeline Stages", on `VK_PIPELINE_STAGE_2_ALL_COMMANDS_BIT`).
abbrev pub all_commands : ℕ
all_commands = 65536

-- Whether two sets of stages have one in common: ALL_COMMANDS has TRANSFER, and not HOST (Vulkan, "Pipeline Stages").
unfoldable pub meet : ℕ → ℕ → Bool
meet a b = has_some a (transfer_stage + all_commands) && has_some b (transfer_stage + all_commands)
    || has_some a host_stage && has_some b host_stage

-- The stages of what comes before: those in which a dependency begins, or in which a command runs (Vulkan, "Execution and Memory Dependencies"; a set's at the set: "Events").
abbrev pub first_scope : Act → Option ℕ
first_scope (Runs c) = Some transfer_stage
first_scope (Signals s) = Some s.stages.0
first_scope (Depends Barrier e) = Some (dependency_of e).source_stages.0
first_scope (Depends (SetOf v k) e) = Some (dependency_of e).source_stages.0
first_scope _ = None

-- The stages of what comes after: those in which a dependency ends, or in which a command runs (Vulkan, "Execution and Memory Dependencies"; an await's at the await: "Events").
abbrev pub second_scope : Act → Option ℕ
second_scope (Runs c) = Some transfer_stage
second_scope (Waits s) = Some s.stages.0
second_scope (Depends Barrier e) = Some (dependency_of e).destination_stages.0
second_scope (Depends (AwaitOf v k) e) = Some (dependency_of e).destination_stages.0
second_scope _ = None

-- Whether there are two scopes, and they meet.
abbrev pub scopes_meet : Option ℕ → Option ℕ → Bool
scopes_meet a b = holds a (λ s. holds b (meet s))

-- ---- kinds of nodes

-- A host entry.
abbrev pub is_host : Act → Bool
is_host (Hosts x) = true
is_host _ = false

-- A submit.
abbrev pub is_submit : Act → Bool
is_submit (Hosts (entry.Submit q bs)) = true
is_submit _ = false

-- A clear or copy command.
abbrev pub is_command : Act → Bool
is_command (Runs c) = true
is_command _ = false

-- An element of a barrier, a set or an await.
abbrev pub is_element : Act → Bool
is_element (Depends r e) = true
is_element _ = false

-- A batch's signal.
abbrev pub is_signal : Act → Bool
is_signal (Signals s) = true
is_signal _ = false

-- A batch's wait with ALL_COMMANDS (Vulkan, "Semaphore Waiting").
abbrev pub waits_for_all : Act → Bool
waits_for_all (Waits s) = has_bits s.stages.0 all_commands
waits_for_all _ = false

-- A batch's signal with ALL_COMMANDS (Vulkan, "Semaphore Signaling").
abbrev pub signals_all : Act → Bool
signals_all (Signals s) = has_bits s.stages.0 all_commands
signals_all _ = false

-- Whether both nodes are of batches of one queue.
abbrev pub same_queue : Node → Node → Bool
same_queue m n = not (is_host m.act) && not (is_host n.act) && m.point.queue == n.point.queue

-- Whether both are elements of one command.
abbrev pub siblings : Node → Node → Bool
siblings m n = is_element m.act && is_element n.act && same_place m.point n.point

-- ---- the kinds of edge

-- The host's entries come one after another, and a submit before all of its batches (Vulkan, "Host Write Ordering Guarantees" and "Queue Submission").
abbrev pub by_host : Node → Node → Bool
by_host m n = is_host m.act && is_host n.act || is_submit m.act && m.point.entry == n.point.entry

-- The second scope of the one meets the first scope of the other. Two commands have no order of their own, nor have the elements of one command (Vulkan, "Execution and Memory Dependencies" and "Implicit Synchronization Guarantees").
abbrev pub by_stages : Node → Node → Bool
by_stages m n = same_queue m n && not (siblings m n) && not (is_command m.act && is_command n.act)
    && scopes_meet (second_scope m.act) (first_scope n.act)

-- A signal comes after every earlier signal of its queue (Vulkan, "Implicit Synchronization Guarantees"), and after every dependency to the host (profile).
abbrev pub by_signal : Node → Node → Bool
by_signal m n = same_queue m n && is_signal n.act
    && (is_signal m.act || is_element m.act && holds (second_scope m.act) (λ s. has_some s host_stage))

-- With ALL_COMMANDS a signal comes after every earlier element of its queue, and a wait before every later one (Vulkan, "Semaphore Signaling" and "Semaphore Waiting").
abbrev pub by_all_commands : Node → Node → Bool
by_all_commands m n = same_queue m n && (is_element m.act && signals_all n.act || waits_for_all m.act && is_element n.act)

-- Element k of a set comes before element k of its await (Vulkan, "Events").
abbrev pub pairs : Act → Act → Bool
pairs (Depends (SetOf v k) e) (Depends (AwaitOf u l) f) = v == u && k == l
pairs _ _ = false

-- ---- signals and what waits for them

-- The semaphore and the value that a node signals (Vulkan, "Semaphore Signaling").
abbrev pub signaled_by : Act → Option (ℕ × ℕ)
signaled_by (Signals s) = Some (s.semaphore, s.value)
signaled_by (Hosts x) = signal_in x
signaled_by _ = None

-- The semaphores and values that an entry of the host waits for (Vulkan, "Semaphores", on `vkWaitSemaphores`).
abbrev pub host_waits : Entry → List (ℕ × ℕ)
host_waits (entry.Wait ws) = map (λ w. (w.semaphore, w.value)) ws
host_waits _ = []

-- The semaphores and values that a node waits for (Vulkan, "Semaphore Waiting").
abbrev pub waited_by : Act → List (ℕ × ℕ)
waited_by (Waits s) = (s.semaphore, s.value) ∷ []
waited_by (Hosts x) = host_waits x
waited_by _ = []

-- The nodes that come earlier than one.
abbrev pub earlier : Node → List Node → List Node
earlier n ns = filter (λ m. nat_lt m.number n.number) ns

-- The values that nodes signal to a semaphore.
abbrev pub values_to : List Node → ℕ → List ℕ
values_to ns s = filter_map (λ n. option_and_then (value_for s) (signaled_by n.act)) ns

-- The initial value that a node gives to semaphore s.
abbrev pub initial_by : ℕ → Act → Option ℕ
initial_by s (Hosts (entry.Semaphore i v)) = value_for s (i, v)
initial_by s _ = None

-- Whether the initial value of a semaphore is enough for v: such a wait orders nothing (profile).
abbrev pub is_enough : List Node → ℕ → ℕ → Bool
is_enough ns s v = list_any (λ n. holds (initial_by s n.act) (nat_le v)) ns

-- Whether u is the least value at or above v that is signaled to s (Vulkan, "Semaphore Waiting"; the least: profile).
abbrev pub is_least : List Node → ℕ → ℕ → ℕ → Bool
is_least ns s v u = nat_le v u && not (list_any (λ x. nat_le v x && nat_lt x u) (values_to ns s))

-- A wait comes after the signal that it hangs on, of those among the nodes ns (Vulkan, "Semaphore Waiting").
abbrev pub by_semaphore : List Node → Node → Node → Bool
by_semaphore ns m n = holds (signaled_by m.act) (λ x. list_any (λ y. x.0 == y.0 && is_least ns y.0 y.1 x.1 && not (is_enough ns y.0 y.1)) (waited_by n.act))

-- Whether node m is ordered directly before node n, a later one of the nodes ns (Vulkan, "Execution and Memory Dependencies").
unfoldable pub edge : List Node → Node → Node → Bool
edge ns m n = nat_lt m.number n.number
    && (by_host m n || by_stages m n || by_signal m n || by_all_commands m n || pairs m.act n.act || by_semaphore (earlier n ns) m n)
