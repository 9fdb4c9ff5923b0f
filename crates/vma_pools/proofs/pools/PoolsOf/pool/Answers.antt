use Rattle.std.proofs.Common.{List, Option, Some, [], ◌∷◌, ◌++◌, ◌∙◌, ap, sym, subst, refl}
use Rattle.vk_model.specs.Memory.Pools.{empty_pool}
use Rattle.vma_pools.specs.Pools.{Kept}
use Rattle.vma_pools.specs.State.{PoolsState, ArePools, Backs}
use Rattle.vma_pools.proofs.StateLemmas.{pool-made}
use Rattle.vma_pools.proofs.BacksLemmas.{made-backs}
use Rattle.vma_pools.proofs.pools.PoolsOf.pool.Goals as goal

pub invariant_of-self-2 : goal.invariant_of-self-2
invariant_of-self-2 g c =
    let f = c.self.inside in
    let is = c.in_ok-push.ensures.items ∙ ap (λ (k : Kept). f.pools.items ++ Some k ∷ []) c.new.ensures in
    record {
      pools = subst (λ (l : List (Option Kept)). ArePools (record { pools = l; allocations = f.allocations.items })) (sym is)
          (pool-made (record { pools = f.pools.items; allocations = f.allocations.items }) c.self.invariant.pools c.args.info c.requires);
      numbers = c.self.invariant.numbers;
    }

pub returns-clause-backs : goal.returns-clause-backs
returns-clause-backs g c m backs =
    let f = c.self.inside in
    let s : PoolsState = record { pools = f.pools.items; allocations = f.allocations.items } in
    let is = c.in_ok-push.ensures.items ∙ ap (λ (k : Kept). f.pools.items ++ Some k ∷ []) c.new.ensures in
    subst (λ (l : List (Option Kept)). Backs (record s { pools = l }) m) (sym is)
    (made-backs s m (subst (λ (t : PoolsState). Backs t m) (sym c.self.view_is) backs) (record { pool = empty_pool c.args.info; memories = [] }) refl)
