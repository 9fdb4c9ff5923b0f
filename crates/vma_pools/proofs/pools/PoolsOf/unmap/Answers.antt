use Rattle.std.specs.Prelude.{IsSome}
use Rattle.std.proofs.Common.{◌-◌, Some, refl, sym, subst}
use Rattle.vma_pools.specs.State.{PoolsState, Backs, allocation_at}
use Rattle.vma_pools.proofs.EndedLemmas.{some-live, same-places, turned-pools}
use Rattle.vma_pools.proofs.SettledBacks.{unmoved-backs}
use Rattle.vma_pools.proofs.KeptNumbers.{numbers-set}
use Rattle.vma_pools.proofs.pools.PoolsOf.unmap.Goals as goal

pub invariant_of-self-2 : goal.invariant_of-self-2
invariant_of-self-2 g c =
    let f = c.self.inside in let x = c.in-Some.live in
    let s : PoolsState = record { pools = f.pools.items; allocations = f.allocations.items } in
    let live = some-live s c.args.allocation (subst (λ (t : PoolsState). IsSome (allocation_at t c.args.allocation)) (sym c.self.view_is) c.requires) c.index_mut.result.now x c.index_mut.ensures.value c.in-Some.is in
    record {
      pools = turned-pools s c.self.invariant.pools c.args.allocation x (record x { maps = x.maps - 1 }) live (same-places x (record x { maps = x.maps - 1 }) refl refl) refl;
      numbers = numbers-set f.numbers.items f.allocations.items c.args.allocation x (Some (record x { maps = x.maps - 1 })) live c.self.invariant.numbers;
    }

pub returns-clause-backs : goal.returns-clause-backs
returns-clause-backs g c m backs =
    let f = c.self.inside in let x = c.in-Some.live in
    let s : PoolsState = record { pools = f.pools.items; allocations = f.allocations.items } in
    let live = some-live s c.args.allocation (subst (λ (t : PoolsState). IsSome (allocation_at t c.args.allocation)) (sym c.self.view_is) c.requires) c.index_mut.result.now x c.index_mut.ensures.value c.in-Some.is in
    unmoved-backs s m (subst (λ (t : PoolsState). Backs t m) (sym c.self.view_is) backs) c.args.allocation x (record x { maps = x.maps - 1 }) live refl refl
