-- What is known of the nodes so far: which of them have happened, and which of those are still to be taken.
use Rattle.std.specs.Prelude.{ℕ, ◌≡◌, ◌<◌, List, [], ◌∷◌, Bool, not, ◌&&◌, ◌+◌, if◌then◌else◌, length, slice_index, slice_get, Contains, IsTrue, Some}
use Rattle.vk_model.specs.Sync.Node.{Node}
use Rattle.vk_model.specs.Sync.Before.{IsNumbered}
use Rattle.vk_model.specs.Run.CachedRuns.{is_synchronization}
use Rattle.vk_order.specs.declared.acts.Row.{Row}
use Rattle.vk_order.specs.declared.lines.Line.TheVariants.{Commands as OfCommands}
use Rattle.vk_order.specs.Lines.{place}
use Rattle.vk_order.specs.NodeViews.{node_of}
use Rattle.vk_events.specs.declared.event.Event.{Event}
use Rattle.vk_events.specs.declared.events.Events.{Events}
use Rattle.vk_events.specs.Happens.{synchronizations, is_free_of, CountsBefore, AreFronts, IsEvent}
use Rattle.vk_events.specs.Inner.Hanging.{IsHanging}

-- Of nodes that are counted from k on, those that pass a test and aren't taken.
abbrev pub left_of : (Node → Bool) → (ℕ → Bool) → ℕ → List Node → List Node
left_of test taken k [] = []
left_of test taken k (n ∷ ns) = if test n && not (taken k) then n ∷ left_of test taken (k + 1) ns else left_of test taken (k + 1) ns

-- Of each of these nodes the counts of commands before it, and its event.
pub record AreDescribed (ns ss : List Node) (counts : List (List ℕ)) (events : List Event) : Type 0 where
  pub counts_len : length counts ≡ length ss
  pub events_len : length events ≡ length ss
  pub counted : (i : ℕ) (n : Node) (c : List ℕ) → slice_get ss i ≡ Some n → slice_get counts i ≡ Some c → CountsBefore ns n c
  pub described : (i : ℕ) (n : Node) (e : Event) → slice_get ss i ≡ Some n → slice_get events i ≡ Some e → IsEvent e ns n

-- The dependencies, waits and signals of these nodes, where so much is finished: those that aren't free hang on the queues that they lack, and of those that are free these are still to be taken, in reference order.
pub record IsEvents (ev : Events) (ns : List Node) (finished : Node → Bool) (left : List Node) : Type 0 where
  pub numbers : IsNumbered ns
  pub total : ev.nodes ≡ length ns
  pub four : length ev.started ≡ 4
  pub started : (q : ℕ) → q < 4 → slice_index ev.started q ≡ place ns (OfCommands q) (length ns)
  pub counts : List (List ℕ)
  pub fronts : List ℕ
  pub taken : ℕ → Bool
  pub hanging : IsHanging ev.hanging.hooks ev.hanging.lacking.items ev.hanging.met counts (slice_index fronts) (slice_index fronts) taken
  pub all : AreDescribed ns (synchronizations ns) counts ev.events.items
  pub are_fronts : AreFronts ns finished fronts
  pub left_are : left ≡ left_of (is_free_of ns finished) taken 0 (synchronizations ns)

-- A node comes next, on one of four queues: what was finished stays so, and nothing else is; where it is a dependency, wait or signal, so many commands of each queue are before it; and so many of each are finished then (Vulkan, "Execution and Memory Dependencies").
pub record MayFollow (ns : List Node) (n : Node) (was now : Node → Bool) (counts fronts : List ℕ) : Type 0 where
  pub queue : n.point.queue < 4
  pub same : (m : Node) → Contains ns m → now m ≡ was m
  pub counted : IsTrue (is_synchronization n.act) → CountsBefore (n ∷ ns) n counts
  pub are_fronts : AreFronts (n ∷ ns) now fronts

-- Some nodes are known.
abbrev pub AreKnown : Events → Type 0
AreKnown ev = (ns : List Node) × (finished : Node → Bool) × (left : List Node) × IsEvents ev ns finished left

-- The node of a row may come next after some that are known.
abbrev pub MayAdd : Events → Row → List ℕ → List ℕ → Type 0
MayAdd ev row counts fronts = (ns : List Node) × (was : Node → Bool) × (now : Node → Bool) × (left : List Node) × IsEvents ev ns was left × MayFollow ns (node_of (length ns) row) was now counts fronts

-- So much may be finished of some that are known, none of them still to be taken.
abbrev pub MayAdvance : Events → List ℕ → Type 0
MayAdvance ev fronts = (ns : List Node) × (was : Node → Bool) × (now : Node → Bool) × IsEvents ev ns was [] × ((m : Node) → Contains ns m → IsTrue (was m) → IsTrue (now m)) × AreFronts ns now fronts

-- How many have happened and aren't taken: each that is taken makes them fewer. (profile)
abbrev pub untaken : Events → ℕ
untaken ev = length ev.hanging.met.pairs
