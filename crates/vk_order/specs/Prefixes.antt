-- Laws of order: what is before a node of each kind, and that of a line it is the first nodes.
use Rattle.std.specs.Prelude.{◌≡◌, ◌⊎◌, ◌↔◌, ℕ, ◌<◌, List, ◌∷◌, Bool, not, ◌&&◌, ◌||◌, ◌==◌, IsTrue, Contains, Some}
use Rattle.vk_model.specs.declared.command.Cmd.{Cmd}
use Rattle.vk_model.specs.declared.command.Element.{Element}
use Rattle.vk_model.specs.declared.entry.Entry.{Entry}
use Rattle.vk_model.specs.declared.entry.SemaphoreSubmit.{SemaphoreSubmit}
use Rattle.vk_model.specs.Basics.{holds}
use Rattle.vk_model.specs.Sync.Node.{Node, Act, Hosts, Waits, Signals, Runs, Depends, Barrier, SetOf, AwaitOf}
use Rattle.vk_model.specs.Sync.Edge.{is_host, is_submit, is_command, is_element, is_signal, waits_for_all, signals_all, siblings, pairs, by_semaphore, first_scope, second_scope}
use Rattle.vk_model.specs.Sync.Before.{before, IsNumbered}
use Rattle.vk_order.specs.declared.lines.Line.{Line}
use Rattle.vk_order.specs.Lines.{line_of, has_transfer, has_host, IsPlaced}

-- ---- which nodes lead to others

-- Whether a node is the submit of entry e.
abbrev pub submits : ℕ → Node → Bool
submits e k = is_submit k.act && k.point.entry == e

-- Whether a node is of a batch of a queue.
abbrev pub on_queue : ℕ → Node → Bool
on_queue q k = not (is_host k.act) && k.point.queue == q

-- Whether a node of a queue has clears and copies in its second scope: a command, a dependency or a wait.
abbrev pub to_transfer : ℕ → Node → Bool
to_transfer q k = on_queue q k && holds (second_scope k.act) has_transfer

-- The same of dependencies and waits alone.
abbrev pub to_commands : ℕ → Node → Bool
to_commands q k = on_queue q k && not (is_command k.act) && holds (second_scope k.act) has_transfer

-- Whether a node of a queue has the host in its second scope: a dependency or a wait.
abbrev pub to_hosts : ℕ → Node → Bool
to_hosts q k = on_queue q k && holds (second_scope k.act) has_host

-- The same of dependencies alone.
abbrev pub elements_to_host : ℕ → Node → Bool
elements_to_host q k = on_queue q k && is_element k.act && holds (second_scope k.act) has_host

-- Whether a node is a signal of a queue.
abbrev pub signals_on : ℕ → Node → Bool
signals_on q k = on_queue q k && is_signal k.act

-- Whether a node is an element of a queue, also one of a set.
abbrev pub elements_on : ℕ → Node → Bool
elements_on q k = on_queue q k && is_element k.act

-- Whether a node is a wait of a queue with ALL_COMMANDS.
abbrev pub waits_all_on : ℕ → Node → Bool
waits_all_on q k = on_queue q k && waits_for_all k.act

-- Whether the first scope of an act has clears and copies.
abbrev pub from_transfer : Act → Bool
from_transfer a = holds (first_scope a) has_transfer

-- Whether it has the host.
abbrev pub from_host : Act → Bool
from_host a = holds (first_scope a) has_host

-- A test, but for the siblings of a node.
abbrev pub but_siblings : Node → (Node → Bool) → Node → Bool
but_siblings n test k = test k && not (siblings k n)

-- A test where a condition holds.
abbrev pub only : Bool → (Node → Bool) → Node → Bool
only on test k = on && test k

-- Whether the scopes of what comes before and of an element of a barrier or a set meet.
abbrev pub by_scopes : Node → Node → Bool
by_scopes n k = only (from_transfer n.act) (but_siblings n (to_transfer n.point.queue)) k || only (from_host n.act) (but_siblings n (to_hosts n.point.queue)) k

-- ---- what is before a new node

-- Node m passes the test, or is before one that does.
abbrev pub Leads : List Node → (Node → Bool) → Node → Type 0
Leads ns test m = (k : Node) × Contains ns k × IsTrue (test k) × ((m ≡ k) ⊎ IsTrue (before ns m k))

-- What is before a new node: the nodes that pass the test, and what is before these.
abbrev pub IsAfter : List Node → Node → (Node → Bool) → Type 0
IsAfter ns n test = (m : Node) → Contains ns m → IsTrue (before (n ∷ ns) m n) ↔ Leads ns test m

-- A host entry is after the entries before it, and after the signals that it waits for (Vulkan, "Host Write Ordering Guarantees" and "Semaphores").
abbrev pub HostPrefix : Type 0
HostPrefix = (ns : List Node) (n : Node) (x : Entry) → IsNumbered (n ∷ ns) → n.act ≡ Hosts x → IsAfter ns n (λ k. is_host k.act || by_semaphore ns k n)

-- A batch's wait is after its submit, and after the signal that it waits for (Vulkan, "Semaphore Waiting").
abbrev pub WaitPrefix : Type 0
WaitPrefix = (ns : List Node) (n : Node) (s : SemaphoreSubmit) → IsNumbered (n ∷ ns) → n.act ≡ Waits s → IsAfter ns n (λ k. submits n.point.entry k || by_semaphore ns k n)

-- A batch's signal is after its submit, the signals of its queue, the dependencies to the host, what its stages cover, and with ALL_COMMANDS all elements (Vulkan, "Semaphore Signaling").
abbrev pub SignalPrefix : Type 0
SignalPrefix = (ns : List Node) (n : Node) (s : SemaphoreSubmit) → IsNumbered (n ∷ ns) → n.act ≡ Signals s
    → IsAfter ns n (λ k. submits n.point.entry k || (signals_on n.point.queue k || (elements_to_host n.point.queue k || (only (from_transfer n.act) (to_transfer n.point.queue) k
    || (only (from_host n.act) (to_hosts n.point.queue) k || only (signals_all n.act) (elements_on n.point.queue) k)))))

-- A clear or copy command is after its submit, and the dependencies and waits of its queue that end in clears and copies (Vulkan, "Execution and Memory Dependencies").
abbrev pub CommandPrefix : Type 0
CommandPrefix = (ns : List Node) (n : Node) (x : Cmd) → IsNumbered (n ∷ ns) → n.act ≡ Runs x → IsAfter ns n (λ k. submits n.point.entry k || to_commands n.point.queue k)

-- An element of a barrier is after its submit, the waits of its queue with ALL_COMMANDS, and what its source stages cover, but for its siblings (Vulkan, "Execution and Memory Dependencies").
abbrev pub BarrierPrefix : Type 0
BarrierPrefix = (ns : List Node) (n : Node) (e : Element) → IsNumbered (n ∷ ns) → n.act ≡ Depends Barrier e
    → IsAfter ns n (λ k. submits n.point.entry k || (waits_all_on n.point.queue k || by_scopes n k))

-- So is an element of a set (Vulkan, "Events").
abbrev pub SetPrefix : Type 0
SetPrefix = (ns : List Node) (n : Node) (v i : ℕ) (e : Element) → IsNumbered (n ∷ ns) → n.act ≡ Depends (SetOf v i) e
    → IsAfter ns n (λ k. submits n.point.entry k || (waits_all_on n.point.queue k || by_scopes n k))

-- An element of an await is after its submit, the waits of its queue with ALL_COMMANDS, and the elements of sets that have its event and its number (Vulkan, "Events").
abbrev pub AwaitPrefix : Type 0
AwaitPrefix = (ns : List Node) (n : Node) (v i : ℕ) (e : Element) → IsNumbered (n ∷ ns) → n.act ≡ Depends (AwaitOf v i) e
    → IsAfter ns n (λ k. submits n.point.entry k || (waits_all_on n.point.queue k || pairs k.act n.act))

-- ---- lines

-- Of two nodes of a line the earlier one is before all that the later one is before. Of elements it is asked that those of one command are together.
abbrev pub LinePrefix : Type 0
LinePrefix =
    (ns : List Node) (l : Line) (c d n : Node) → IsNumbered ns → (IsTrue (is_element c.act) → IsPlaced ns) → Contains ns c → Contains ns d → Contains ns n
    → line_of c ≡ Some l → line_of d ≡ Some l → c.number < d.number → IsTrue (before ns d n) → IsTrue (before ns c n)
