-- What a replay through caches of queues has led to.
use Rattle.std.specs.Prelude.{◌≡◌, ℕ, List, Option}
use Rattle.vk_model.specs.declared.entry.Entry.{Entry}
use Rattle.vk_model.specs.Memory.HeapSizes.{HeapSizes}
use Rattle.vk_model.specs.Memory.Allocations.{Allocated, EndsOnWith}
use Rattle.vk_model.specs.Run.Runs.{Step, Stage, start}
use Rattle.vk_model.specs.Run.Picks.{trace_picks}
use Rattle.vk_laws.specs.DirectRuns.{HostMemory}
use Rattle.vk_cache_laws.specs.LateRuns.{Late}
use Rattle.vk_backing.specs.PassAllots.{FulfilsAll}
use Rattle.vk_resources.specs.Allocating.{allotted}
use Rattle.vk_cached_device.specs.declared.device.CachedDevice.{CachedDevice}
use Rattle.vk_cached_device.specs.LedLate.{LedLate}

-- Some steps have led to a device, through caches of queues that did some things by themselves between them: the newest bytes have become these wherever a resource was made before, and memory is behind by some.
pub record LedBy (t : List Entry) (steps : List Step) (s : Stage) (d : CachedDevice) : Type 0 where
  pub memory : HostMemory
  pub late : Late
  pub led : LedLate t steps s memory late d

module _ (answer : List ℕ → ℕ → ℕ) (next : List ℕ → ℕ → List ℕ) where
  -- What a scheduler picked for a trace has led to a device, through caches of queues that did some things by themselves between the steps, where the pass that begins at entry n has `parts n` parts to copy, and this is what it holds then; up to and with an entry that found no room (profile).
  abbrev pub LedByPicksLate : (ℕ → ℕ) → List Entry → Option ℕ → List ℕ → CachedDevice → List ℕ → Type 0
  LedByPicksLate parts t stop before d after = let p = trace_picks answer next parts stop (start t) before t in LedBy t p.steps p.stage d × (after ≡ p.held)

  -- A replay through caches of queues ended on this device: the entries that were applied reach what it has allocated, passes included; where it stopped, the next entry finds no room there; and what was picked has led to it, with as many parts to copy in each pass as its moves have (profile).
  pub record EndsLate (sizes : HeapSizes) (t : List Entry) (stop : Option ℕ) (before : List ℕ) (d : CachedDevice) (after : List ℕ) : Type 0 where
    pub allocated : Allocated
    pub held : FulfilsAll (allotted d.device.resources) d.device.passes allocated
    pub parts : ℕ → ℕ
    pub ends : EndsOnWith parts sizes t stop allocated
    pub led : LedByPicksLate parts t stop before d after
