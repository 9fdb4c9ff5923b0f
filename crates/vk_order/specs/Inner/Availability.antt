-- Which nodes make a write available, and which make it visible to an access, by what their rows say.
use Rattle.std.specs.Prelude.{◌≡◌, ◌≤◌, ◌<◌, ℕ, Bool, true, false, ◌&&◌, ◌||◌, List, [], Option, Some, None, nat_lt, slice_get, length, IsTrue, Contains}
use Rattle.std.specs.List.{list_any}
use Rattle.vk_model.specs.World.Bytes.{Byte}
use Rattle.vk_model.specs.Sync.Node.{Node, Act, Hosts, Signals, Runs, Depends, SetOf, AwaitOf, same_node}
use Rattle.vk_model.specs.Sync.Edge.{is_submit, signals_all}
use Rattle.vk_model.specs.Sync.Before.{before}
use Rattle.vk_model.specs.Sync.Seen.{Access, Read, command_mask, host_mask, to_host, is_wait, flushes, invalidates}
use Rattle.vk_order.specs.declared.acts.Row.{Row}
use Rattle.vk_order.specs.declared.reads.Reader.{Reader}
use Rattle.vk_order.specs.declared.writes.Write.{Write}
use Rattle.vk_order.specs.declared.writes.First.{First}
use Rattle.vk_order.specs.NodeViews.{act_of, node_of, nodes_after}
use Rattle.vk_order.specs.Bytes.{byte_of}
use Rattle.vk_order.specs.Wide.{access_of}
use Rattle.vk_order.specs.Lines.{line_of}
use Rattle.vk_order.specs.Edges.{unsignaled, makes_visible, made_available_by}

-- Whether a node makes a write available.
abbrev pub makes_write_available : Write → Node → Bool
makes_write_available w p = made_available_by (node_of w.number w.row) (act_of w.row.act) w.from (byte_of w.byte) p

-- Whether an act is an element of a set.
abbrev pub is_set_element : Act → Bool
is_set_element (Depends (SetOf v k) e) = true
is_set_element _ = false

-- Whether an element of a set that passes the test leads to a node by one edge.
abbrev pub is_carried : List Node → (Node → Bool) → Node → Bool
is_carried ns test n = list_any (λ s. is_set_element s.act && test s && (nat_lt s.number n.number && unsignaled s n)) ns

-- Whether a node passes the test, or such an element of a set leads to it.
abbrev pub is_marked : List Node → (Node → Bool) → Node → Bool
is_marked ns test n = test n || is_carried ns test n

-- The elements of sets that pass the test are among these.
abbrev pub HasSets : List Row → (Node → Bool) → List ℕ → Type 0
HasSets rows test sets = (j : ℕ) (x : Row) → slice_get rows j ≡ Some x → IsTrue (is_set_element (act_of x.act) && test (node_of j x)) → Contains sets j

-- Whether an edge may lead to an act from an element of a set: it is an element of an await, or a signal with ALL_COMMANDS (Vulkan, "Events" and "Semaphore Signaling").
abbrev pub comes_after_sets : Act → Bool
comes_after_sets (Signals s) = signals_all (Signals s)
comes_after_sets (Depends (AwaitOf v k) e) = true
comes_after_sets _ = false

-- The first nodes of lines that pass a test.
pub record AreFirsts (rows : List Row) (test : Node → Bool) (firsts : List First) : Type 0 where
  pub each : (f : First) → Contains firsts f → (x : Row) × (slice_get rows f.number ≡ Some x) × (line_of (node_of f.number x) ≡ Some f.line) × IsTrue (test (node_of f.number x))
  pub all : (j : ℕ) (x : Row) → slice_get rows j ≡ Some x → IsTrue (test (node_of j x)) → is_set_element (act_of x.act) ≡ false → (f : First) × Contains firsts f × (line_of (node_of j x) ≡ Some f.line) × (f.number ≤ j)

-- Whether a node passes the test, or is after one that does.
abbrev pub is_after : List Node → (Node → Bool) → Node → Bool
is_after ns test n = list_any (λ p. test p && (same_node p n || before ns p n)) ns

-- Whether node q makes available writes visible to an access by node a, whose act is given; before a host access that is asked by another test.
abbrev pub ends_by : (Node → Bool) → Bool → Node → Act → Access → Byte → Node → Bool
ends_by in_time by_host a (Runs c) k b q = nat_lt q.number a.number && unsignaled q a && (makes_visible (command_mask k) b q || is_wait q.act || by_host && is_submit q.act)
ends_by in_time by_host a (Depends r e) k b q = same_node q a
ends_by in_time by_host a (Hosts x) k b q = to_host q.act && makes_visible (host_mask k) b q && in_time q
ends_by in_time by_host a _ k b q = false

-- A test of nodes that asks whether they are before this one; without one no node passes.
abbrev pub IsUntil : List Row → Option ℕ → (Node → Bool) → Type 0
IsUntil rows None test = (n : Node) → Contains (nodes_after [] rows) n → test n ≡ false
IsUntil rows (Some u) test = (y : Row) × (slice_get rows u ≡ Some y) × ((n : Node) → Contains (nodes_after [] rows) n → test n ≡ before (nodes_after [] rows) n (node_of u y))

-- The first flush of a byte after a node, if this is below the number of rows.
pub record IsFirstFlush (rows : List Row) (number : ℕ) (b : Byte) (first : ℕ) : Type 0 where
  pub there : first < length rows → (x : Row) × (slice_get rows first ≡ Some x) × (number < first) × IsTrue (flushes (act_of x.act) b)
  pub none : (j : ℕ) (x : Row) → slice_get rows j ≡ Some x → j < first → (nat_lt number j && flushes (act_of x.act) b) ≡ false

-- The last invalidation of a byte before a node.
abbrev pub IsLastInvalidation : List Row → ℕ → Byte → Option ℕ → Type 0
IsLastInvalidation rows number b None = (j : ℕ) (x : Row) → slice_get rows j ≡ Some x → j < number → invalidates (act_of x.act) b ≡ false
IsLastInvalidation rows number b (Some last) = (y : Row) × (slice_get rows last ≡ Some y) × (last < number) × IsTrue (invalidates (act_of y.act) b) × ((j : ℕ) (x : Row) → slice_get rows j ≡ Some x → last < j → j < number → invalidates (act_of x.act) b ≡ false)

-- Whether a node makes available writes visible to an access.
abbrev pub serves : (Node → Bool) → Bool → Reader → Node → Bool
serves in_time by_host r n = ends_by in_time by_host (node_of r.number r.row) (act_of r.row.act) (access_of r.access.access) (byte_of r.access.byte) n

-- After which node submits make a write by the host of a byte available: the write, or where the memory is cached the first flush after it (Vulkan, "Host Access to Device Memory Objects").
abbrev pub IsFrom : List Row → ℕ → Byte → (cached : Bool) → ℕ → Type 0
IsFrom rows number b true from = IsFirstFlush rows number b from
IsFrom rows number b false from = from ≡ number

-- Before which node a write has to be visible to an access by the host: the access, or where it reads cached memory the last invalidation before it (Vulkan, "Host Access to Device Memory Objects").
abbrev pub IsInTime : List Row → ℕ → Byte → (cached : Bool) → Access → Option ℕ → Type 0
IsInTime rows number b true Read until = IsLastInvalidation rows number b until
IsInTime rows number b _ _ until = until ≡ Some number
