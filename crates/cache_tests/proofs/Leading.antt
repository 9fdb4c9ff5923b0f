-- A device that a run has led to, with one more step of the run.
use Rattle.std.proofs.Common.{◌≡◌, ℕ, List, [], ◌∷◌, ◌++◌, ◌==◌, ap, refl, Option, Some, None}
use Rattle.std.specs.Prelude.{option_map}
use Rattle.vk_model.specs.declared.entry.Entry.{Entry}
use Rattle.vk_model.specs.Memory.HeapSizes.{HeapSizes}
use Rattle.vk_model.specs.Run.Runs.{RunPiece}
use Rattle.vk_model.specs.Run.CachedRuns.{Touch, named_piece}
use Rattle.vk_model.specs.World.Bytes.{resource_at}
use Rattle.vk_laws.specs.DirectRuns.{memory_after_piece}
use Rattle.vk_cache_laws.specs.LateRuns.{late_after_touch}
use Rattle.vk_sync.specs.declared.ready.Piece.{Piece}
use Rattle.vk_offers.specs.IsOffers.{name_of}
use Rattle.vk_resources.specs.declared.resources.Placed.{Placed}
use Rattle.vk_resources.specs.declared.resources.Spot.{Spot}
use Rattle.vk_resources.specs.Held.{spot_of}
use Rattle.vk_cached_device.specs.declared.device.CachedDevice.{CachedDevice}
use Rattle.vk_cached_device.specs.LedLate.{HasRunLate, HasTouchedLate, ran_piece, late_when_ran}
use Rattle.vk_device.specs.Led.{IsSoundTrace}
use Rattle.vk_cached_device.specs.Replays.{EndsLate}
use Rattle.cache_tests.specs.IsLed.{IsLed}

-- a piece has run
pub ran_led : (old new : CachedDevice) (piece : Piece) → IsLed old → HasRunLate old new piece → IsLed new
ran_led old new piece r ran =
    let name = name_of r.2.front.past piece in
    let next = ran r.0 r.1 r.2 r.3 r.4 r.5 r.6 in
    (r.0, r.1 ++ RunPiece name ∷ [], ran_piece r.2 piece, memory_after_piece (named_piece r.2.front.past name) r.3, late_when_ran r.2 piece next.0 r.3 r.4, next.2, r.6)

-- a cache has done something by itself
pub touched_led : (old new : CachedDevice) (touch : Touch) (queue resource : ℕ) → IsLed old → HasTouchedLate old new touch queue resource → IsLed new
touched_led old new touch queue resource r touched =
    (r.0, r.1, r.2, r.3, late_after_touch touch queue (λ c. resource_at c == resource) r.4, touched r.0 r.1 r.2 r.3 r.4 r.5, r.6)

-- a resource that lies at a spot is placed there
pub place_of : (o : Option Placed) (z : Spot) → Some z ≡ option_map spot_of o → (p : Placed) × (o ≡ Some p) × (z.size ≡ p.size)
place_of None z is = absurd cc
place_of (Some p) z is = let same : z ≡ spot_of p = cc in (p, refl, ap (λ (w : Spot). w.size) same)

-- a replay has led to a device
pub ended_led : (answer : List ℕ → ℕ → ℕ) (next : List ℕ → ℕ → List ℕ) (config : HeapSizes) (t : List Entry) (stop : Option ℕ) (before : List ℕ) (d : CachedDevice) (after : List ℕ) → EndsLate answer next config t stop before d after → IsSoundTrace t → IsLed d
ended_led answer next config t stop before d after ends sound = let by = ends.led.0 in (t, _, _, by.memory, by.late, by.led, sound)
