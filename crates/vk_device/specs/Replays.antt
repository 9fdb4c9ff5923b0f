-- How far a replay comes.
use Rattle.std.specs.Prelude.{◌≡◌, ℕ, List, Option}
use Rattle.vk_model.specs.declared.entry.Entry.{Entry}
use Rattle.vk_model.specs.Memory.HeapSizes.{HeapSizes}
use Rattle.vk_model.specs.Memory.Allocations.{Allocated, EndsOnWith}
use Rattle.vk_model.specs.Run.Runs.{start}
use Rattle.vk_model.specs.Run.Picks.{trace_picks}
use Rattle.vk_backing.specs.PassAllots.{FulfilsAll}
use Rattle.vk_resources.specs.Allocating.{allotted}
use Rattle.vk_device.specs.declared.device.Device.{Device}
use Rattle.vk_device.specs.Led.{Led}

module _ (answer : List ℕ → ℕ → ℕ) (next : List ℕ → ℕ → List ℕ) where
  -- What a scheduler picked for a trace has led to a device, where the pass that begins at entry n has `parts n` parts to copy, and this is what it holds then; up to and with an entry that found no room (profile).
  abbrev pub LedByPicks : (ℕ → ℕ) → List Entry → Option ℕ → List ℕ → Device → List ℕ → Type 0
  LedByPicks parts t stop before d after = let p = trace_picks answer next parts stop (start t) before t in Led t p.steps p.stage d × (after ≡ p.held)

  -- A replay ended on this device: the entries that were applied reach what it has allocated, passes included; where it stopped, the next entry finds no room there; and what was picked has led to it, with as many parts to copy in each pass as its moves have (profile).
  pub record Ends (sizes : HeapSizes) (t : List Entry) (stop : Option ℕ) (before : List ℕ) (d : Device) (after : List ℕ) : Type 0 where
    pub allocated : Allocated
    pub held : FulfilsAll (allotted d.resources) d.passes allocated
    pub parts : ℕ → ℕ
    pub ends : EndsOnWith parts sizes t stop allocated
    pub led : LedByPicks parts t stop before d after
