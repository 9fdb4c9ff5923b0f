-- What memory has of a resource, read from the newest bytes and the late ones.
use Rattle.std.proofs.Common.{◌≡◌, ℕ, ◌+◌, ◌<◌, ◌≤◌, List, length, refl, ap, sym, ◌∙◌, subst, arith, Option, Some, None}
use Rattle.std.specs.Prelude.{slice_index, option_map}
use Rattle.vk_model.specs.World.Bytes.{Byte, resource_at}
use Rattle.vk_memory.specs.MemoryState.{region_of}
use Rattle.vk_laws.specs.DirectRuns.{HostMemory}
use Rattle.vk_cache_laws.specs.InPlace as caches
use Rattle.vk_cache_laws.specs.LateRuns.{Late, LateByte, behind_of}
use Rattle.vk_lag.specs.declared.late.Late as kept
use Rattle.vk_lag.specs.Lags.{Lags, in_memory, late_at}
use Rattle.vk_resources.specs.declared.resources.Placed.{Placed}
use Rattle.vk_resources.specs.declared.resources.Spot.{Spot}
use Rattle.vk_resources.specs.Held.{Held, placed, place_in, shape_of, spot_of, byte_at}
use Rattle.vk_resources.specs.Stretches.{place_at}
use Rattle.vk_resources.proofs.Lying.{Lies, where_lies, byte_lies}
use Rattle.vk_availability.specs.AreLate.{AreLate, late_byte}
use Rattle.vk_device.specs.Becomes.{HasBytes}
use Rattle.vk_cached_device.proofs.Following.{is_there}

-- where it lies is known
pub spot_here : (o : Option Placed) (z : Spot) (p : Placed) → Some z ≡ option_map spot_of o → o ≡ Some p → z ≡ spot_of p
spot_here o z p found here = let both : Some z ≡ Some (spot_of p) = found ∙ ap (λ (o : Option Placed). option_map spot_of o) here in cc

-- what memory has of a byte, by the late byte that is kept
in_memory_same : (value : ℕ) (o : Option kept.Late) → in_memory value o ≡ caches.in_memory value (behind_of (late_byte o))
in_memory_same value None = refl
in_memory_same value (Some l) = refl

-- a byte of a resource in its region
byte_in : (s : Held) (p : Placed) (c : Byte) (k : ℕ) → placed s (resource_at c) ≡ Some p → place_at s c ≡ Some k → byte_at s c ≡ slice_index (region_of s.memory p.object) (p.offset + k)
byte_in s p c k here place =
    let l = where_lies s c (is_there s c k place) in
    let same : Some p ≡ Some l.place = sym here ∙ l.here in
    let own : p ≡ l.place = cc in
    let at : Some k ≡ Some l.at = sym place ∙ ap (λ (o : Option Placed). place_in (shape_of s (resource_at c)) o c) l.here ∙ l.is in
    let k_is : k ≡ l.at = cc in
    byte_lies s c l ∙ ap (λ (q : Placed). slice_index (region_of s.memory q.object) (q.offset + l.at)) (sym own) ∙ ap (λ (n : ℕ). slice_index (region_of s.memory p.object) (p.offset + n)) (sym k_is)

pub peeked : (s : Held) (memory : HostMemory) (late : Late) (lags : Lags) → HasBytes s memory → AreLate s lags late → (p : Placed) (c : Byte) (k : ℕ) → placed s (resource_at c) ≡ Some p → place_at s c ≡ Some k
    → in_memory (slice_index (region_of s.memory p.object) (p.offset + k)) (late_at lags (resource_at c) k) ≡ caches.in_memory (memory.region c) (behind_of (late c))
peeked s memory late lags holds are p c k here place =
    let value = byte_in s p c k here place in
    let newest = (holds c (is_there s c k place)).region in
    in_memory_same (slice_index (region_of s.memory p.object) (p.offset + k)) (late_at lags (resource_at c) k)
    ∙ ap (λ (v : ℕ). caches.in_memory v (behind_of (late_byte (late_at lags (resource_at c) k)))) (sym value ∙ sym newest)
    ∙ ap (λ (o : Option LateByte). caches.in_memory (memory.region c) (behind_of o)) (sym (are c k place))
