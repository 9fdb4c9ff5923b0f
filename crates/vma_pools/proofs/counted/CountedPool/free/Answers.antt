use Rattle.std.proofs.Common.{refl, sym, subst}
use Rattle.vma_pools.specs.Pools.{Kept}
use Rattle.vma_pools.specs.Ranges.{HasRange}
use Rattle.vma_pools.specs.State.{range_at, start_of}
use Rattle.vma_pools.proofs.CountedLemmas.{one-counted, bytes-counted, counted-freed}
use Rattle.vma_pools.proofs.counted.CountedPool.free.Goals as goal

pub overflow_sub-self : goal.overflow_sub-self
overflow_sub-self g c =
    let f = c.self.inside in let t = range_at c.args.place.start c.args.asked in
    one-counted f.pool.pool f.pool.pool c.is_kept.ensures f.ranges f.bytes c.self.invariant (start_of c.args.place) t refl (subst (λ (k : Kept). HasRange k.pool c.args.place.block t) (sym c.self.view_is) c.requires)

pub overflow_sub-self-2 : goal.overflow_sub-self-2
overflow_sub-self-2 g c =
    let f = c.self.inside in let t = range_at c.args.place.start c.args.asked in
    bytes-counted f.pool.pool f.pool.pool c.is_kept.ensures f.ranges f.bytes c.self.invariant (start_of c.args.place) t refl (subst (λ (k : Kept). HasRange k.pool c.args.place.block t) (sym c.self.view_is) c.requires)

pub invariant_of-self : goal.invariant_of-self
invariant_of-self g c =
    let f = c.self.inside in let t = range_at c.args.place.start c.args.asked in
    counted-freed f.pool.pool c.free-gone.new.self.pool c.is_kept.ensures f.ranges f.bytes c.self.invariant (start_of c.args.place) t refl (subst (λ (k : Kept). HasRange k.pool c.args.place.block t) (sym c.self.view_is) c.requires) c.free-gone.ensures.pool
