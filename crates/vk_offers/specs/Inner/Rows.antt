-- The rows of a point that comes next, one after another.
use Rattle.std.specs.Prelude.{◌≡◌, ◌≤◌, ℕ, List, ◌∷◌, ◌++◌, Bool, false, take, length, slice_get, Some, IsTrue}
use Rattle.vk_model.specs.Sync.Node.{Node}
use Rattle.vk_model.specs.Run.CachedRuns.{is_synchronization}
use Rattle.vk_order.specs.declared.acts.Row.{Row}
use Rattle.vk_order.specs.NodeViews.{act_of, node_of, nodes_after}
use Rattle.vk_order.specs.Wide.{IsApartFrom}
use Rattle.vk_events.specs.declared.events.Events.{Events}
use Rattle.vk_events.specs.Happens.{CountsBefore, unseen}
use Rattle.vk_events.specs.IsEvents.{IsEvents, MayFollow}

-- The counts of commands before each row that is a dependency, a wait or a signal, as if it came alone (Vulkan, "Execution and Memory Dependencies").
abbrev pub AreCounted : List Node → List Row → List (List ℕ) → Type 0
AreCounted ns rows counts = (i : ℕ) (r : Row) (c : List ℕ) → slice_get rows i ≡ Some r → slice_get counts i ≡ Some c
    → IsTrue (is_synchronization (act_of r.act)) → IsApartFrom ns (node_of (length ns) r) → CountsBefore (node_of (length ns) r ∷ ns) (node_of (length ns) r) c

-- Rows may follow nodes one after another, with these counts of commands before each, where so much is finished in the end (Vulkan, "Execution and Memory Dependencies").
abbrev pub Follow : List Node → List Row → List (List ℕ) → (Node → Bool) → List ℕ → Type 0
Follow ns rows counts finished fronts = (i : ℕ) (r : Row) (c : List ℕ) → slice_get rows i ≡ Some r → slice_get counts i ≡ Some c
    → MayFollow (nodes_after ns (take i rows)) (node_of (length (nodes_after ns (take i rows))) r) finished finished c fronts

-- The rows of a point were added to what was known: behind what was left comes what is free of their nodes and wasn't seen to be. (profile)
abbrev pub Adds : Events → Events → List Row → List (List ℕ) → List ℕ → Type 0
Adds old new rows counts fronts = (ns : List Node) (finished seen : Node → Bool) (left : List Node) → IsEvents old ns finished (left ++ unseen ns finished seen)
    → Follow ns rows counts finished fronts → ((n : Node) → length ns ≤ n.number → seen n ≡ false)
    → IsEvents new (nodes_after ns rows) finished (left ++ unseen (nodes_after ns rows) finished seen)

-- They may be added.
abbrev pub MayAddRows : Events → List Row → List (List ℕ) → List ℕ → Type 0
MayAddRows old rows counts fronts = (ns : List Node) × (finished : Node → Bool) × (left : List Node) × IsEvents old ns finished left × Follow ns rows counts finished fronts
