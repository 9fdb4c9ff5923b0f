-- What memory has of a resource.
use Rattle.std.specs.Prelude.{◌≡◌, ℕ, ◌+◌, ◌<◌, ◌≤◌, List, Some, slice_index}
use Rattle.vk_model.specs.declared.entry.Entry.{Entry}
use Rattle.vk_model.specs.World.Bytes.{Byte, resource_at}
use Rattle.vk_model.specs.Run.Runs.{Step, Stage}
use Rattle.vk_laws.specs.DirectRuns.{HostMemory}
use Rattle.vk_cache_laws.specs.InPlace.{in_memory}
use Rattle.vk_cache_laws.specs.LateRuns.{Late, behind_of}
use Rattle.vk_resources.specs.declared.resources.Placed.{Placed}
use Rattle.vk_resources.specs.Held.{placed}
use Rattle.vk_resources.specs.Stretches.{place_at}
use Rattle.vk_cached_device.specs.declared.device.CachedDevice.{CachedDevice}
use Rattle.vk_cached_device.specs.LedLate.{LedLate}

-- Some run has led to a device on which a resource has these bytes.
pub record MayPeek (d : CachedDevice) (id at count : ℕ) : Type 0 where
  pub t : List Entry
  pub steps : List Step
  pub s : Stage
  pub memory : HostMemory
  pub late : Late
  pub led : LedLate t steps s memory late d
  pub place : Placed
  pub here : placed d.device.resources id ≡ Some place
  pub inside : at + count ≤ place.size

-- These are the bytes that memory has of a resource, from byte `at` on, after each run through caches that has led to the device: of those that it is behind by, what it had before they were written (Vulkan, "Execution and Memory Dependencies", on availability operations).
abbrev pub Peeks : CachedDevice → (id at count : ℕ) → List ℕ → Type 0
Peeks d id at count out =
    (t : List Entry) (steps : List Step) (s : Stage) (memory : HostMemory) (late : Late) → LedLate t steps s memory late d
    → (c : Byte) (k : ℕ) → k < count → resource_at c ≡ id → place_at d.device.resources c ≡ Some (at + k) → slice_index out k ≡ in_memory (memory.region c) (behind_of (late c))
