use Rattle.std.proofs.Common.{◌≡◌, sym, subst}
use Rattle.std.specs.Prelude.{Any}
use Rattle.vma_pools.specs.Pools.{Kept}
use Rattle.vma_pools.specs.Inner.Walk.{numbered}
use Rattle.vma_pools.proofs.FreeLemmas.{any-held, held-rise}
use Rattle.vma_pools.proofs.pool.PoolOf.memory_of.Goals as goal

pub index_of-requires-clause-rising : goal.index_of-requires-clause-rising
index_of-requires-clause-rising g c = rw c.deref.ensures.value (held-rise g.B.PoolBlock.block c.self.inside.blocks.items c.self.invariant.pool.rising)

pub index_of-requires-clause-there : goal.index_of-requires-clause-there
index_of-requires-clause-there g c =
    rw c.deref.ensures.value (any-held (λ b. b.number ≡ c.args.number) (numbered g.B.PoolBlock.block) c.self.inside.blocks.items
    (subst (λ (k : Kept). Any (λ b. b.number ≡ c.args.number) k.pool.blocks) (sym c.self.view_is) c.requires))
