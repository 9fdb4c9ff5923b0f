-- A device whose queues have caches, before anything has been applied.
use Rattle.std.proofs.Common.{◌≡◌, ℕ, ◌<◌, ◌≤◌, List, [], length, Bool, true, false, refl, ap, sym, ◌∙◌, subst, arith, Option, Some, None}
use Rattle.std.specs.Prelude.{option_map, option_and_then}
use Rattle.vk_model.proofs.Lists.Truths.{clash}
use Rattle.vk_model.specs.declared.entry.Entry.{Entry}
use Rattle.vk_model.specs.Run.Runs.{start}
use Rattle.vk_model.specs.Trace.Order.{Front}
use Rattle.vk_model.specs.Trace.Objects.{live}
use Rattle.vk_model.specs.World.Bytes.{Byte}
use Rattle.vk_laws.specs.DirectRuns.{HostMemory, bare_memory}
use Rattle.vk_cache_laws.specs.LateRuns.{Late, LateRun}
use Rattle.vk_queues.specs.IsWaiting.{IsWaiting}
use Rattle.vk_offers.specs.IsHappenings.{IsHappenings}
use Rattle.vk_resources.specs.declared.resources.Placed.{Placed}
use Rattle.vk_resources.specs.Held.{Held, IsThere, placed}
use Rattle.vk_resources.specs.Matches.{MatchesLive, size_made}
use Rattle.vk_device.specs.Led.{Led}
use Rattle.vk_device.proofs.Entering.{there_made}
use Rattle.vk_cached_device.specs.declared.device.CachedDevice.{CachedDevice}
use Rattle.vk_cached_device.specs.LedLate.{LedLate}
use Rattle.vk_cached_device.proofs.Following.{is_there}

-- where nothing was made nothing lies
nothing_there : (r : Held) → MatchesLive [] r → (c : Byte) → IsThere r c → ⊥
nothing_there r m c there = let made = there_made [] r m c there in cc

nothing_placed : (r : Held) → MatchesLive [] r → (id : ℕ) (p : Placed) → placed r id ≡ Some p → ⊥
nothing_placed r m id p here = let both : Some p.size ≡ None = sym (ap (λ (o : Option Placed). option_map (λ q. q.size) o) here) ∙ m.sizes id in cc

pub begins : (t : List Entry) (first : Byte → ℕ) (d : CachedDevice) → Led t [] (start t) d.device → d.device.failed ≡ false → LateRun t [] (start t) (bare_memory first) (λ c. None)
    → IsWaiting d.waiting d.count (record { past = []; waiting = [] }) → d.count ≡ 0 → IsHappenings d.happenings [] [] [] → d.writers.items ≡ [] → LedLate t [] (start t) (bare_memory first) (λ c. None) d
begins t first d led works run waits counts happenings writers = record {
  led = led;
  works = works;
  run = run;
  holds = λ c there. absurd (nothing_there d.device.resources led.matches.live c there);
  lags = λ c k place. absurd (nothing_there d.device.resources led.matches.live c (is_there d.device.resources c k place));
  room = λ id p here. absurd (nothing_placed d.device.resources led.matches.live id p here);
  waits = waits;
  counts = counts;
  happenings = happenings;
  few = omega arith;
  writers = writers;
}
