-- A device that a run has led to, as its calls want it.
use Rattle.std.specs.Prelude.{List}
use Rattle.vk_model.specs.declared.entry.Entry.{Entry}
use Rattle.vk_model.specs.Run.Runs.{Step, Stage}
use Rattle.vk_laws.specs.DirectRuns.{HostMemory}
use Rattle.vk_cache_laws.specs.LateRuns.{Late}
use Rattle.vk_device.specs.Led.{IsSoundTrace}
use Rattle.vk_cached_device.specs.declared.device.CachedDevice.{CachedDevice}
use Rattle.vk_cached_device.specs.LedLate.{LedLate}

-- Some run through caches of queues has led to a device, of a trace without a fault (Vulkan, "Execution and Memory Dependencies").
abbrev pub IsLed : CachedDevice → Type 0
IsLed d = (t : List Entry) × (steps : List Step) × (s : Stage) × (memory : HostMemory) × (late : Late) × LedLate t steps s memory late d × IsSoundTrace t

-- Where such a run has led to a device, one has to another, with the same steps.
abbrev pub StaysLed : CachedDevice → CachedDevice → Type 0
StaysLed old new = (t : List Entry) (steps : List Step) (s : Stage) (memory : HostMemory) (late : Late) → LedLate t steps s memory late old → (other : Late) × LedLate t steps s memory other new
