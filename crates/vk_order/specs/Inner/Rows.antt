-- Whose writes of all bytes are available and visible where, as counts of nodes for each line.
use Rattle.std.specs.Prelude.{◌≡◌, ◌⊎◌, ◌↔◌, ℕ, ◌<◌, ◌≤◌, List, length, Bool, true, false, not, ◌&&◌, ◌||◌, IsTrue, Contains, Some, max, slice_index_or, if◌then◌else◌, ◌==◌}
use Rattle.vk_model.specs.declared.command.Element.TheVariants as element
use Rattle.vk_model.specs.Basics.{has_some}
use Rattle.vk_model.specs.Sync.Node.{Node, Act, Hosts, Waits, Signals, Runs, Depends}
use Rattle.vk_model.specs.Sync.Edge.{edge, is_host, is_submit, is_element}
use Rattle.vk_model.specs.Sync.Before.{before}
use Rattle.vk_model.specs.Sync.Seen.{Access, Write, command_mask, host_mask, is_await, is_set, to_host}
use Rattle.vk_order.specs.declared.lines.Line.TheVariants.{Host as OfHost, Commands as OfCommands}
use Rattle.vk_order.specs.Lines.{line_of, place}
use Rattle.vk_order.specs.Prefixes.{from_transfer}
use Rattle.vk_order.specs.Inner.Clocks.{Clock}
use Rattle.vk_order.specs.Inner.Kept.{clock_at}
use Rattle.vk_order.specs.Inner.Leads.{is_of_host, is_of_barriers}
use Rattle.vk_order.specs.declared.lines.Line.{Line}

-- Whether an act makes commands' writes of every byte available: a dependency on all memory that has the write in its source accesses, or a signal (Vulkan, "Execution and Memory Dependencies" and "Semaphore Signaling").
abbrev pub makes_all_available : Act → Bool
makes_all_available (Depends r (element.Memory d)) = not (is_await r) && has_some d.source_accesses.0 (command_mask Write)
makes_all_available (Signals s) = true
makes_all_available _ = false

-- The same where it comes after the commands of its queue.
abbrev pub makes_queue_available : Act → Bool
makes_queue_available a = makes_all_available a && from_transfer a

-- Whether it makes available writes of every byte visible to an access by commands: a dependency on all memory, or a wait (Vulkan, "Execution and Memory Dependencies" and "Semaphore Waiting").
abbrev pub makes_all_visible : Access → Act → Bool
makes_all_visible k (Depends r (element.Memory d)) = not (is_set r) && has_some d.destination_accesses.0 (command_mask k)
makes_all_visible k (Waits s) = true
makes_all_visible k _ = false

-- The same of an access by the host (Vulkan, "Host Write Ordering Guarantees").
abbrev pub makes_all_visible_on_host : Access → Act → Bool
makes_all_visible_on_host k (Depends r (element.Memory d)) = not (is_set r) && to_host (Depends r (element.Memory d)) && has_some d.destination_accesses.0 (host_mask k)
makes_all_visible_on_host k _ = false

-- Whether node p makes the writes of every byte by node w, a command or host entry whose act is given, available: a command's where an edge leads from it and it makes all available, a host's as a later submit (Vulkan, "Execution and Memory Dependencies" and "Host Write Ordering Guarantees").
abbrev pub makes_available : List Node → Node → Act → Node → Bool
makes_available ns w (Runs c) p = edge ns w p && makes_all_available p.act
makes_available ns w (Hosts x) p = is_submit p.act && before ns w p
makes_available ns w _ p = false

-- How a node's writes are known at another one: available, visible to commands to which that one leads, or visible to host accesses that come after.
pub data Knowledge : Type 0 where
  Available : Knowledge
  Visible : Access → Knowledge
  OnHost : Access → Knowledge

-- The writes of node w are made available at node n or before it.
abbrev pub IsAvailable : List Node → Node → Node → Type 0
IsAvailable ns w n = (p : Node) × Contains ns p × IsTrue (makes_available ns w w.act p) × ((p ≡ n) ⊎ IsTrue (before ns p n))

-- Or node w is an element that comes before node n: the writes of its transition are then available there, as they are at the element itself (Vulkan, "Image Layout Transitions").
abbrev pub IsKnown : List Node → Node → Node → Type 0
IsKnown ns w n = IsAvailable ns w n ⊎ (IsTrue (is_element w.act) × IsTrue (before ns w n))

-- Whether a node makes available writes visible to an access by commands: one that makes those of every byte visible, or a submit those of the host (Vulkan, "Host Write Ordering Guarantees").
abbrev pub shows : Access → Bool → Act → Bool
shows k by_host a = makes_all_visible k a || by_host && is_submit a

-- They are known so at node n.
abbrev pub Knows : Knowledge → List Node → Node → Node → Type 0
Knows Available ns w n = IsAvailable ns w n
Knows (Visible k) ns w n = IsTrue (shows k (is_host w.act) n.act) × IsKnown ns w n
Knows (OnHost k) ns w n = (q : Node) × Contains ns q × IsTrue (makes_all_visible_on_host k q.act) × ((q ≡ n) ⊎ IsTrue (before ns q n)) × IsKnown ns w q

-- They are known so at one of the nodes that pass a test.
abbrev pub KnowsOne : Knowledge → List Node → (Node → Bool) → Node → Type 0
KnowsOne g ns test w = (k : Node) × Contains ns k × IsTrue (test k) × Knows g ns w k

-- A row of node n: it counts, line by line, exactly the nodes whose writes are known there.
pub record IsRow (g : Knowledge) (ns : List Node) (n : Node) (row : Clock) : Type 0 where
  pub counts : (l : Line) (w : Node) → Contains ns w → line_of w ≡ Some l → Knows g ns w n ↔ (place ns l w.number < row l)
  pub bounded : (l : Line) → row l ≤ place ns l n.number

-- The same of what is available there and of the elements before it.
pub record IsKnownRow (ns : List Node) (n : Node) (row : Clock) : Type 0 where
  pub counts : (l : Line) (w : Node) → Contains ns w → line_of w ≡ Some l → IsKnown ns w n ↔ (place ns l w.number < row l)
  pub bounded : (l : Line) → row l ≤ place ns l n.number

-- The join of the rows of the nodes that pass a test.
pub record IsRowJoin (g : Knowledge) (ns : List Node) (test : Node → Bool) (row : Clock) : Type 0 where
  pub counts : (l : Line) (w : Node) → Contains ns w → line_of w ≡ Some l → KnowsOne g ns test w ↔ (place ns l w.number < row l)
  pub bounded : (l : Line) → row l ≤ place ns l (length ns)

-- A kept row is the join over the nodes that pass a test.
pub record IsKeptRow (g : Knowledge) (ns : List Node) (ls : List Line) (test : Node → Bool) (row : List ℕ) : Type 0 where
  pub join : IsRowJoin g ns test (clock_at ls row)
  pub short : length row ≤ length ls

-- A list of counts has the greater of two others' at each place.
pub record AreJoined (first second both : List ℕ) : Type 0 where
  pub counts : (i : ℕ) → slice_index_or both i 0 ≡ max (slice_index_or first i 0) (slice_index_or second i 0)
  pub long : length both ≡ max (length first) (length second)

-- Whether an act on a queue makes the writes of all nodes of a line so far available: a submit those of the host, and what makes commands' writes available those of its queue's commands.
abbrev pub makes_line_available : ℕ → Act → Line → Bool
makes_line_available q a OfHost = is_submit a
makes_line_available q a (OfCommands r) = makes_queue_available a && r == q
makes_line_available q a l = false

-- A kept row of what is available after such an act, which comes next: what was available before, and what it makes available.
pub record IsOwnAvailable (ns : List Node) (ls : List Line) (queue : ℕ) (act : Act) (row own : List ℕ) : Type 0 where
  pub counts : (l : Line) → clock_at ls own l ≡ (if makes_line_available queue act l then place ns l (length ns) else clock_at ls row l)
  pub short : length own ≤ length ls

-- A kept row of what is available and of the elements before, from a row of the one and a clock.
pub record IsMerged (ls : List Line) (clock row own : List ℕ) : Type 0 where
  pub counts : (l : Line) → clock_at ls own l ≡ (if is_of_barriers l then clock_at ls clock l else clock_at ls row l)
  pub short : length own ≤ length ls

-- A kept row of what it then makes visible to an access by commands.
pub record IsOwnVisible (k : Access) (ls : List Line) (act : Act) (clock row own : List ℕ) : Type 0 where
  pub counts : (l : Line) → clock_at ls own l ≡ (if shows k (is_of_host l) act then (if is_of_barriers l then clock_at ls clock l else clock_at ls row l) else 0)
  pub short : length own ≤ length ls

-- A kept row of what is then visible on the host, from that before.
pub record IsOwnOnHost (k : Access) (ls : List Line) (act : Act) (clock row before own : List ℕ) : Type 0 where
  pub counts : (l : Line) → clock_at ls own l ≡ (if makes_all_visible_on_host k act then max (clock_at ls before l) (if is_of_barriers l then clock_at ls clock l else clock_at ls row l) else clock_at ls before l)
  pub short : length own ≤ length ls
