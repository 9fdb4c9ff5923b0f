-- When dependencies, waits and signals happen, by how many commands of each queue are finished; and what an event says of its node.
use Rattle.std.specs.Prelude.{ℕ, ◌≡◌, ◌<◌, ◌≤◌, List, [], ◌∷◌, Bool, true, false, not, ◌&&◌, ◌||◌, ◌==◌, nat_lt, reverse, length, slice_index, Contains, IsTrue, Some, if◌then◌else◌}
use Rattle.std.specs.List.{filter, list_all}
use Rattle.vk_model.specs.Trace.Point.{Past}
use Rattle.vk_model.specs.World.Bytes.{Byte, in_buffer, in_image}
use Rattle.vk_model.specs.World.Effect.{in_range}
use Rattle.vk_model.specs.Sync.Node.{Node}
use Rattle.vk_model.specs.Sync.Before.{before}
use Rattle.vk_model.specs.Sync.Seen.{has_byte, makes_writes_available}
use Rattle.vk_model.specs.Run.Runs.{Name, is_done, node_pieces}
use Rattle.vk_model.specs.Run.CachedRuns.{is_synchronization, makes_byte_visible}
use Rattle.vk_order.specs.declared.lines.Line.TheVariants.{Commands as OfCommands}
use Rattle.vk_order.specs.Lines.{line_of, place}
use Rattle.vk_laws.specs.WriteBacks.{follows_commands}
use Rattle.vk_events.specs.declared.event.Event.{Event}
use Rattle.vk_events.specs.declared.event.Range.{Range}
use Rattle.vk_events.specs.declared.event.Range.TheVariants as range

-- The dependencies, waits and signals among nodes, the oldest first.
abbrev pub synchronizations : List Node → List Node
synchronizations ns = filter (λ n. is_synchronization n.act) (reverse ns)

-- Whether all pieces of a node have run; only commands have any.
abbrev pub is_finished : Past → List Name → Node → Bool
is_finished past done m = list_all (is_done done) (node_pieces past m m.act)

-- Whether all nodes before one are finished (Vulkan, "Execution and Memory Dependencies"). Of a past whose pieces have run so far this is `is_free`.
abbrev pub is_free_of : List Node → (Node → Bool) → Node → Bool
is_free_of ns finished n = list_all (λ m. not (before ns m n) || finished m) ns

-- The dependencies, waits and signals that are free and weren't seen to be, in reference order.
abbrev pub unseen : List Node → (Node → Bool) → (Node → Bool) → List Node
unseen ns finished seen = filter (λ n. is_synchronization n.act && is_free_of ns finished n && not (seen n)) (reverse ns)

-- A node that comes next, where it happens at once.
abbrev pub freed_by : Node → List Node → (Node → Bool) → List Node
freed_by n ns finished = if is_synchronization n.act && is_free_of (n ∷ ns) finished n then n ∷ [] else []

-- These are, of each queue, how many of its commands are before a node: the first ones of the queue (Vulkan, "Execution and Memory Dependencies").
pub record CountsBefore (ns : List Node) (n : Node) (counts : List ℕ) : Type 0 where
  pub first : (m : Node) (q : ℕ) → q < 4 → Contains ns m → line_of m ≡ Some (OfCommands q) → before ns m n ≡ nat_lt (place ns (OfCommands q) m.number) (slice_index counts q)
  pub there : (q : ℕ) → q < 4 → slice_index counts q ≤ place ns (OfCommands q) n.number

-- Of each queue the first so many commands are finished, and the next one isn't; whatever else isn't is a command of one of the four queues (Vulkan, "Implicit Synchronization Guarantees", on submission order; four: profile).
pub record AreFronts (ns : List Node) (finished : Node → Bool) (fronts : List ℕ) : Type 0 where
  pub first : (m : Node) (q : ℕ) → q < 4 → Contains ns m → line_of m ≡ Some (OfCommands q) → place ns (OfCommands q) m.number < slice_index fronts q → IsTrue (finished m)
  pub next : (m : Node) (q : ℕ) → q < 4 → Contains ns m → line_of m ≡ Some (OfCommands q) → place ns (OfCommands q) m.number ≡ slice_index fronts q → finished m ≡ false
  pub there : (q : ℕ) → q < 4 → slice_index fronts q ≤ place ns (OfCommands q) (length ns)
  pub commands : (m : Node) → Contains ns m → finished m ≡ false → (q : ℕ) × (q < 4) × (line_of m ≡ Some (OfCommands q))

-- Whether a byte is in the range of an event (Vulkan, "Buffer Memory Barriers" and "Image Memory Barriers").
abbrev pub is_on : Range → Byte → Bool
is_on range.All b = true
is_on (range.Buffer c o n) (in_buffer d k) = c == d && has_byte o n k
is_on (range.Buffer c o n) (in_image i a l x y p) = false
is_on (range.Image i r) b = in_range i r b

-- An event is that of a node: its number, its queue, how many commands of the queue came before it, and of which bytes it makes commands' writes available, or makes them visible (Vulkan, "Execution and Memory Dependencies").
pub record IsEvent (e : Event) (ns : List Node) (n : Node) : Type 0 where
  pub number : e.number ≡ n.number
  pub queue : e.queue ≡ n.point.queue
  pub place : e.place ≡ place ns (OfCommands n.point.queue) n.number
  pub available : (cached : Byte → Bool) (ms : List Node) (b : Byte) → (follows_commands n.act && makes_writes_available cached ms n b n.act) ≡ (e.makes_available && is_on e.range b)
  pub visible : (past : Past) (b : Byte) → makes_byte_visible past n b ≡ (e.makes_visible && is_on e.range b)
