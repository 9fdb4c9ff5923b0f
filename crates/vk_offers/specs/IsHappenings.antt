-- What happens of the points so far, as pieces of their commands run, and which of it is still to be taken.
use Rattle.std.specs.Prelude.{ℕ, List, [], ◌∷◌, ◌&&◌}
use Rattle.std.specs.List.{filter}
use Rattle.vk_model.specs.Trace.Point.{Past, Point}
use Rattle.vk_model.specs.Sync.Node.{Node, nodes, next_nodes}
use Rattle.vk_model.specs.Run.Runs.{Name, is_free}
use Rattle.vk_model.specs.Run.CachedRuns.{is_synchronization}
use Rattle.vk_events.specs.Happens.{is_finished}
use Rattle.vk_events.specs.IsEvents.{IsEvents}
use Rattle.vk_offers.specs.declared.happenings.Happenings.{Happenings}
use Rattle.vk_offers.specs.IsOffers.{IsOffers, ComesNext}

-- What is offered of a past whose pieces have run so far, and its dependencies, waits and signals; of those that have happened these are still to be taken, in reference order (Vulkan, "Execution and Memory Dependencies").
pub record IsHappenings (h : Happenings) (past : Past) (done : List Name) (left : List Node) : Type 0 where
  pub offers : IsOffers h.offers past done
  pub events : IsEvents h.events (nodes past) (is_finished past done) left

-- The dependencies, waits and signals of a point that comes next that happen at once: all pieces of commands before them have run (Vulkan, "Execution and Memory Dependencies"; that they happen as soon as they can: profile).
abbrev pub happening_at_once : Past → List Name → Point → List Node
happening_at_once past done p = filter (λ n. is_synchronization n.act && is_free (p ∷ past) done n) (next_nodes past p)

-- Some points are known.
abbrev pub AreKnown : Happenings → Type 0
AreKnown h = (past : Past) × (done : List Name) × (left : List Node) × IsHappenings h past done left

-- A point may come next after some that are known, run in so many pieces.
abbrev pub MayAdd : Happenings → Point → ℕ → Type 0
MayAdd h p count = (past : Past) × (done : List Name) × (left : List Node) × IsHappenings h past done left × ComesNext past p count

-- Some points are known, and nothing is still to be taken.
abbrev pub MayFinish : Happenings → Type 0
MayFinish h = (past : Past) × (done : List Name) × IsHappenings h past done []
