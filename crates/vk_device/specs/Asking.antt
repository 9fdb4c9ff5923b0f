-- Whether an entry may be applied, and what a scheduler is asked before it.
use Rattle.std.specs.Prelude.{◌≡◌, ℕ, ◌+◌, List, ◌∷◌, length, Option, Some, None, Bool, true, false}
use Rattle.vk_model.specs.declared.entry.Entry.{Entry}
use Rattle.vk_model.specs.Trace.Point.{Past}
use Rattle.vk_model.specs.Run.Runs.{Name, Step, Stage, may_go}
use Rattle.vk_model.specs.Sync.Node.{Node, nodes}
use Rattle.vk_offers.specs.IsOffers.{IsOffers, CountsBefore, host_node, is_free_next}
use Rattle.vk_device.specs.declared.device.Device.{Device}
use Rattle.vk_device.specs.Led.{IsBefore}

-- The commands before an entry that waits for them: how many of each queue; none where it waits for none. When it may be applied goes by them, whichever pieces have run then.
abbrev pub Waited : Device → Entry → Option (List ℕ) → Type 0
Waited d x None = (s : Stage) → may_go s x ≡ true
Waited d x (Some counts) = (t : List Entry) (steps : List Step) (s : Stage) (xs : List Entry) → IsBefore t steps s x xs d → CountsBefore (host_node s.front.past s.count x ∷ nodes s.front.past) (host_node s.front.past s.count x) counts
    × ((done : List Name) → may_go (record s { done = done }) x ≡ is_free_next s.front.past done (host_node s.front.past s.count x))

-- It may be asked whether so many commands of each queue have run.
abbrev pub MayAsk : Device → Option (List ℕ) → Type 0
MayAsk d None = Unit {0}
MayAsk d (Some counts) = (past : Past) × (done : List Name) × (h : Node) × IsOffers d.offers past done × (h.number ≡ length (nodes past)) × CountsBefore (h ∷ nodes past) h counts

-- It is answered so.
abbrev pub Goes : Device → Option (List ℕ) → Bool → Type 0
Goes d None goes = goes ≡ true
Goes d (Some counts) goes = (past : Past) (done : List Name) (h : Node) → IsOffers d.offers past done → h.number ≡ length (nodes past) → CountsBefore (h ∷ nodes past) h counts → goes ≡ is_free_next past done h

-- How many options there are before an entry: so many pieces and parts, and the entry where it may be applied (profile).
abbrev pub option_count : ℕ → Bool → ℕ
option_count steps true = steps + 1
option_count steps false = steps
