use Rattle.std.proofs.Common.{◌≡◌, ◌&&◌, Some, ap, sym, ◌∙◌, subst}
use Rattle.std.specs.Prelude.{is_some}
use Rattle.vk_map_cache.specs.Holdings.{only_where}
use Rattle.vk_memory.specs.MemoryState.{with_region}
use Rattle.vk_model.specs.Run.Caches.{written_back}
use Rattle.vk_model.specs.World.Effect.{in_atoms}
use Rattle.vk_resources.specs.Held.{Held, flat}
use Rattle.vk_resources.specs.Inner.Steps.{MayReachTo, HasChanged, cached_at}
use Rattle.vk_resources.proofs.CachedBytes.{flat_cached}
use Rattle.vk_resources.proofs.CachedSteps.{flushed, uncached_kept}
use Rattle.vk_resources.proofs.resources.Resources.flush.Goals as goal

pub invariant_of-self : goal.invariant_of-self
invariant_of-self c =
    let s : Held = record { memory = c.self.inside.memories; backed = c.self.inside.backing; resources = c.self.inside.resources.entries; shapes = c.self.inside.shapes.entries; cache = c.self.inside.cache } in
    let here : cached_at s c.args.id ≡ Some c.in-Some.buffer = ap (λ (h : Held). cached_at h c.args.id) c.self.view_is ∙ sym c.cached.ensures ∙ c.in-Some.is in
    let both = flat_cached s c.args.id c.in-Some.buffer c.args.offset c.args.size here (subst (λ (h : Held). MayReachTo (flat h c.args.id) c.args.offset c.args.size) (sym c.self.view_is) c.requires) in
    (flushed s c.self.invariant c.args.id c.in-Some.buffer here both.0 c.args.offset c.args.size both.1 c.region_mut-region.result.now c.flush.new.region c.flush.new.self c.region_mut-region.ensures.value (rw c.reached-bytes.ensures at c.flush.ensures)).0

pub returns-in-Some : goal.returns-in-Some
returns-in-Some c =
    let s : Held = record { memory = c.self.inside.memories; backed = c.self.inside.backing; resources = c.self.inside.resources.entries; shapes = c.self.inside.shapes.entries; cache = c.self.inside.cache } in
    let here : cached_at s c.args.id ≡ Some c.in-Some.buffer = ap (λ (h : Held). cached_at h c.args.id) c.self.view_is ∙ sym c.cached.ensures ∙ c.in-Some.is in
    let both = flat_cached s c.args.id c.in-Some.buffer c.args.offset c.args.size here (subst (λ (h : Held). MayReachTo (flat h c.args.id) c.args.offset c.args.size) (sym c.self.view_is) c.requires) in
    subst (λ (h : Held). HasChanged h (record s { memory = with_region s.memory c.in-Some.buffer.object c.flush.new.region; cache = c.flush.new.self }) c.args.id (only_where (λ k. is_some (cached_at h c.args.id) && in_atoms c.args.offset c.args.size k) (written_back 0))) c.self.view_is
    (flushed s c.self.invariant c.args.id c.in-Some.buffer here both.0 c.args.offset c.args.size both.1 c.region_mut-region.result.now c.flush.new.region c.flush.new.self c.region_mut-region.ensures.value (rw c.reached-bytes.ensures at c.flush.ensures)).1

pub returns-in_default : goal.returns-in_default
returns-in_default c = uncached_kept c.args.self.now c.args.id (in_atoms c.args.offset c.args.size) (written_back 0) (sym c.in_default.ensures)
