use Rattle.std.proofs.Common.{arith, sym, subst}
use Rattle.std.specs.Prelude.{IsSome}
use Rattle.vk_model.specs.declared.resource.Spot.{Spot}
use Rattle.vma_pools.specs.State.{PoolsState, allocation_at, IfLive, IsSpotOf, range_at}
use Rattle.vma_pools.proofs.EndedLemmas.{some-live}
use Rattle.vma_pools.proofs.CallLemmas.{pool-below, not-none, found-pool, found-range, range-block, spot-shared}
use Rattle.vma_pools.proofs.pools.PoolsOf.place.Goals as goal

pub index-requires-in-Shared : goal.index-requires-in-Shared
index-requires-in-Shared g c =
    let f = c.self.inside in let i = c.args.allocation in let a = c.in-Some.live in
    let s : PoolsState = record { pools = f.pools.items; allocations = f.allocations.items } in
    let live = some-live s i (subst (λ (t : PoolsState). IsSome (allocation_at t i)) (sym c.self.view_is) c.requires) c.index.result.now a c.index.ensures c.in-Some.is in
    let low = pool-below s c.self.invariant.pools i a live c.in-Shared.pool c.in-Shared.place c.in-Shared.is in omega (arith, low, f.pools.ok)

pub memory_of-requires : goal.memory_of-requires
memory_of-requires g c =
    let f = c.self.inside in let i = c.args.allocation in let a = c.in-Some.live in
    let s : PoolsState = record { pools = f.pools.items; allocations = f.allocations.items } in
    let live = some-live s i (subst (λ (t : PoolsState). IsSome (allocation_at t i)) (sym c.self.view_is) c.requires) c.index.result.now a c.index.ensures c.in-Some.is in
    let k = c.in-Some-index.kept in let place = c.in-Shared.place in
    range-block k.pool place.block (range_at place.start a.asked)
    (found-range s c.self.invariant.pools i a live c.in-Shared.pool place c.in-Shared.is c.index-in-Shared.result.now c.index-in-Shared.ensures k c.in-Some-index.is)

pub unreachable-requires-in-None : goal.unreachable-requires-in-None
unreachable-requires-in-None g c =
    let f = c.self.inside in let i = c.args.allocation in let a = c.in-Some.live in
    let s : PoolsState = record { pools = f.pools.items; allocations = f.allocations.items } in
    let live = some-live s i (subst (λ (t : PoolsState). IsSome (allocation_at t i)) (sym c.self.view_is) c.requires) c.index.result.now a c.index.ensures c.in-Some.is in
    not-none s c.self.invariant.pools i a live c.in-Shared.pool c.in-Shared.place c.in-Shared.is c.index-in-Shared.result.now c.index-in-Shared.ensures c.in-None.is

pub returns-in-Some-index : goal.returns-in-Some-index
returns-in-Some-index g c =
    let f = c.self.inside in let i = c.args.allocation in let a = c.in-Some.live in
    let s : PoolsState = record { pools = f.pools.items; allocations = f.allocations.items } in
    let live = some-live s i (subst (λ (t : PoolsState). IsSome (allocation_at t i)) (sym c.self.view_is) c.requires) c.index.result.now a c.index.ensures c.in-Some.is in
    let k = c.in-Some-index.kept in let place = c.in-Shared.place in
    let spot : Spot = record { memory = c.memory_of.result; offset = place.start; size = a.asked.size } in
    subst (λ (t : PoolsState). IfLive t i (λ b. IsSpotOf t b.home b.asked spot)) c.self.view_is
    (spot-shared s i a live c.in-Shared.pool place c.in-Shared.is k
    (found-pool s c.self.invariant.pools i a live c.in-Shared.pool place c.in-Shared.is c.index-in-Shared.result.now c.index-in-Shared.ensures k c.in-Some-index.is) c.memory_of.result c.memory_of.ensures)
