use Rattle.std.proofs.Common.{sym, subst}
use Rattle.std.specs.Prelude.{IsSome}
use Rattle.vma_pools.specs.State.{PoolsState, Backs, IsUnused, pool_at}
use Rattle.vma_pools.proofs.NumberLemmas.{some-below}
use Rattle.vma_pools.proofs.EndedLemmas.{pool-dropped}
use Rattle.vma_pools.proofs.BacksLemmas.{dropped-backs}
use Rattle.vma_pools.proofs.pools.PoolsOf.drop_pool.Goals as goal

pub invariant_of-self : goal.invariant_of-self
invariant_of-self g c =
    let f = c.self.inside in
    let s : PoolsState = record { pools = f.pools.items; allocations = f.allocations.items } in
    record {
      pools = pool-dropped s c.self.invariant.pools c.args.pool
          (some-below s.pools c.args.pool (subst (λ (t : PoolsState). IsSome (pool_at t c.args.pool)) (sym c.self.view_is) c.requires.live))
          (subst (λ (t : PoolsState). IsUnused t c.args.pool) (sym c.self.view_is) c.requires.unused);
      numbers = c.self.invariant.numbers;
    }

pub returns-clause-backs : goal.returns-clause-backs
returns-clause-backs g c m backs =
    let f = c.self.inside in
    let s : PoolsState = record { pools = f.pools.items; allocations = f.allocations.items } in
    dropped-backs s m (subst (λ (t : PoolsState). Backs t m) (sym c.self.view_is) backs) c.args.pool
    (some-below s.pools c.args.pool (subst (λ (t : PoolsState). IsSome (pool_at t c.args.pool)) (sym c.self.view_is) c.requires.live))
