use Rattle.std.proofs.Common.{◌≡◌, ◌+◌, ◌-◌, ◌<◌, ◌≤◌, ◌∙◌, ℕ, List, length, ap, sym, subst, arith, Some}
use Rattle.std.specs.Prelude.{slice_index}
use Rattle.vk_model.specs.World.Bytes.{resource_at}
use Rattle.vk_cache_laws.specs.InPlace as caches
use Rattle.vk_cache_laws.specs.LateRuns.{behind_of}
use Rattle.vk_memory.specs.MemoryState.{region_of}
use Rattle.vk_heap.specs.Region.{piece}
use Rattle.vk_heap.proofs.SpliceLemmas.{get_or-piece}
use Rattle.vk_lag.specs.Lags.{in_memory, late_at}
use Rattle.vk_resources.specs.declared.resources.Spot.{Spot}
use Rattle.vk_resources.specs.declared.resources.Placed.{Placed}
use Rattle.vk_resources.specs.Held.{placed}
use Rattle.vk_cached_device.proofs.PeekLemmas.{spot_here, peeked}
use Rattle.vk_cached_device.proofs.device.CachedDevice.peek.Goals as goal

pub returns : goal.returns
returns c t steps s memory late led b k lt of_it place =
    let m = c.requires in
    let spot = spot_here (placed c.args.self.now.device.resources c.args.resource) c.in-Some.spot m.place (sym c.in-Some.is ∙ c.spot.ensures.there) m.here in
    let at = ap (λ (z : Spot). z.offset) spot in
    let object = ap (λ (z : Spot). z.memory) spot in
    let n = length c.args.out.now in
    let a = c.in-Some.spot.offset + c.args.at in
    let region = region_of c.args.self.now.device.resources.memory c.in-Some.spot.memory in
    let long : length c.peek.new.out ≡ length c.args.out.now = c.peek.auto.out in
    let here : k ≡ (a + k) - a = omega arith in
    let same : a + k ≡ m.place.offset + (c.args.at + k) = omega (arith, at) in
    let newest : slice_index c.peek.new.out k ≡ slice_index (region_of c.args.self.now.device.resources.memory m.place.object) (m.place.offset + (c.args.at + k)) =
    ap (λ (l : List ℕ). slice_index l k) c.peek.ensures ∙ ap (λ (j : ℕ). slice_index (piece region a n) j) here ∙ get_or-piece region a n (a + k) (omega arith) (omega (arith, lt))
    ∙ ap (λ (o : ℕ). slice_index (region_of c.args.self.now.device.resources.memory o) (a + k)) object ∙ ap (λ (j : ℕ). slice_index (region_of c.args.self.now.device.resources.memory m.place.object) j) same in
    let placed_here = ap (λ (id : ℕ). placed c.args.self.now.device.resources id) of_it ∙ m.here in
    let shown = peeked c.args.self.now.device.resources memory late c.args.self.now.lags led.holds led.lags m.place b (c.args.at + k) placed_here place in
    c.look.ensures k (omega (arith, lt, long)) ∙ ap (λ (v : ℕ). in_memory v (late_at c.args.self.now.lags c.args.resource (c.args.at + k))) newest
    ∙ subst (λ (id : ℕ). in_memory (slice_index (region_of c.args.self.now.device.resources.memory m.place.object) (m.place.offset + (c.args.at + k))) (late_at c.args.self.now.lags id (c.args.at + k)) ≡ caches.in_memory (memory.region b) (behind_of (late b))) of_it shown
