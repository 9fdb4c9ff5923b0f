-- An entry that finds no room leaves a device whose queues have caches as it was.
use Rattle.std.proofs.Common.{◌≡◌, ℕ, ◌<◌, ◌≤◌, List, length, refl, ap, sym, ◌∙◌, subst, arith, Option, Some, None}
use Rattle.std.specs.Prelude.{IsSome, option_map}
use Rattle.vk_model.specs.declared.entry.Entry.{Entry}
use Rattle.vk_model.specs.declared.resource.ImageInfo.{ImageInfo}
use Rattle.vk_model.specs.Run.Runs.{Step, Stage}
use Rattle.vk_model.specs.Trace.Point.{Past}
use Rattle.vk_model.specs.World.Bytes.{Byte, resource_at}
use Rattle.vk_laws.specs.DirectRuns.{HostMemory}
use Rattle.vk_cache_laws.specs.LateRuns.{Late}
use Rattle.vk_image_transfer.specs.Held.{place_of}
use Rattle.vk_resources.specs.declared.resources.Placed.{Placed}
use Rattle.vk_resources.specs.Held.{Held, placed, shape_of, form_of, place_in, IsThere}
use Rattle.vk_resources.specs.Stretches.{place_at}
use Rattle.vk_resources.specs.Matches.{MatchesLive}
use Rattle.vk_resources.proofs.Matching.{some_sized}
use Rattle.vk_device.specs.declared.device.Device.{Device}
use Rattle.vk_device.specs.Becomes.{Becomes}
use Rattle.vk_device.specs.Led.{Led}
use Rattle.vk_cached_device.specs.declared.device.CachedDevice.{CachedDevice}
use Rattle.vk_cached_device.specs.LedLate.{LedLate}

-- a place goes by the size alone
sized_place : (shape : Option ImageInfo) (o q : Option Placed) (c : Byte) → option_map (λ (p : Placed). p.size) o ≡ option_map (λ (p : Placed). p.size) q → place_in shape o c ≡ place_in shape q c
sized_place shape None None c e = refl
sized_place shape None (Some q) c e = absurd cc
sized_place shape (Some p) None c e = absurd cc
sized_place shape (Some p) (Some q) c e = let same : p.size ≡ q.size = cc in ap (λ (n : ℕ). place_of (form_of shape n) c) same

module _ (past : Past) (old new : Held) (before : MatchesLive past old) (after : MatchesLive past new) where
  sizes_same : (id : ℕ) → option_map (λ (p : Placed). p.size) (placed new id) ≡ option_map (λ (p : Placed). p.size) (placed old id)
  sizes_same id = after.sizes id ∙ sym (before.sizes id)

  pub live_place : (c : Byte) → place_at new c ≡ place_at old c
  live_place c =
      ap (λ (shape : Option ImageInfo). place_in shape (placed new (resource_at c)) c) (after.shapes (resource_at c) ∙ sym (before.shapes (resource_at c)))
      ∙ sized_place (shape_of old (resource_at c)) (placed new (resource_at c)) (placed old (resource_at c)) c (sizes_same (resource_at c))

pub refused_late : (t : List Entry) (steps : List Step) (s : Stage) (memory : HostMemory) (late : Late) (old : CachedDevice) → LedLate t steps s memory late old → (device : Device) → Led t steps s device → device.failed ≡ old.device.failed → Becomes old.device.resources device.resources (λ m. m)
    → LedLate t steps s memory late (record old { device = device })
refused_late t steps s memory late old led device plain works becomes = record {
  led = plain;
  works = works ∙ led.works;
  run = led.run;
  holds = λ c there. becomes memory led.holds c (subst (λ (o : Option ℕ). IsSome o) (live_place s.front.past old.device.resources device.resources led.led.matches.live plain.matches.live c) there) there;
  lags = λ c k place. led.lags c k (sym (live_place s.front.past old.device.resources device.resources led.led.matches.live plain.matches.live c) ∙ place);
  room = λ id p here.
      let q = some_sized (placed old.device.resources id) p.size (sym (sizes_same s.front.past old.device.resources device.resources led.led.matches.live plain.matches.live id) ∙ ap (λ (o : Option Placed). option_map (λ (r : Placed). r.size) o) here) in
      let had = led.room id q.0 q.1 in
      let size = q.2 in
      omega (arith, had, size);
  waits = led.waits;
  counts = led.counts;
  happenings = led.happenings;
  few = led.few;
  writers = led.writers;
}
