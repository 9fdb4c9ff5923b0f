-- A part of an open pass is copied on a device whose queues have caches.
use Rattle.std.proofs.Common.{◌≡◌, ℕ, ◌<◌, List, [], ◌∷◌, ◌++◌, Bool, true, false, not, ◌==◌, IsTrue, refl, ap, sym, ◌∙◌, subst}
use Rattle.std.specs.Prelude.{Contains}
use Rattle.vk_model.specs.declared.entry.Entry.{Entry}
use Rattle.vk_model.specs.Basics.{among}
use Rattle.vk_model.specs.Run.Runs.{Step, Stage, CopyPart}
use Rattle.vk_model.specs.Run.Runs as runs
use Rattle.vk_model.specs.World.Bytes.{Byte}
use Rattle.vk_laws.specs.DirectRuns.{HostMemory}
use Rattle.vk_cache_laws.specs.LateRuns.{Late, PartsGoOnLate}
use Rattle.vk_backing.specs.Passing.{parts_left}
use Rattle.vk_resources.specs.declared.resources.Placed.{Placed}
use Rattle.vk_resources.specs.Held.{Held, placed_in, IsThere}
use Rattle.vk_resources.specs.PassSteps.{KeepsCells}
use Rattle.vk_device.specs.declared.device.Device.{Device}
use Rattle.vk_device.specs.Led.{IsSoundTrace, HasCopied}
use Rattle.vk_device.proofs.Becoming.{cells_become}
use Rattle.vk_device.proofs.KeptPasses.{was_there}
use Rattle.vk_cached_device.specs.declared.device.CachedDevice.{CachedDevice}
use Rattle.vk_cached_device.specs.LedLate.{LedLate}
use Rattle.vk_cached_device.proofs.Following.{has_among}
use Rattle.vk_cached_device.proofs.Running.{late_stays}

pub has_copied : (t : List Entry) (steps : List Step) (s : Stage) (memory : HostMemory) (late : Late) (old : CachedDevice) → LedLate t steps s memory late old → IsSoundTrace t → (part : ℕ) → Contains (parts_left old.device.passes) part → PartsGoOnLate
    → (device : Device) → HasCopied old.device device part → KeepsCells old.device.resources device.resources → device.failed ≡ old.device.failed
    → LedLate t (steps ++ CopyPart part ∷ []) (record s { copied = part ∷ s.copied }) memory late (record old { device = device })
has_copied t steps s memory late old led sound part at law device copied cells works = record {
  led = copied t steps s led.led;
  works = works ∙ led.works;
  run = law t steps s memory late part sound.faultless led.run (has_among part (runs.parts_left s) (subst (λ (l : List ℕ). Contains l part) (sym led.led.passes.left) at));
  holds = λ c there. cells_become old.device.resources device.resources cells memory led.holds c (was_there old.device.resources device.resources cells.resources cells.shapes c there) there;
  lags = late_stays old.device.resources device.resources cells.resources cells.shapes old.lags late led.lags;
  room = λ id p here. led.room id p (ap (λ (bs : List (ℕ × Placed)). placed_in bs id) (sym cells.resources) ∙ here);
  waits = led.waits;
  counts = led.counts;
  happenings = led.happenings;
  few = led.few;
  writers = led.writers;
}
