use Rattle.std.proofs.Common.{arith, sym, subst}
use Rattle.vk_model.specs.declared.resource.Spot.{Spot}
use Rattle.vma_pools.specs.Moves.{IsMoving}
use Rattle.vma_pools.specs.State.{PoolsState, IfLive, IsTargetSpot, range_at}
use Rattle.vma_pools.proofs.EndedLemmas.{live-here}
use Rattle.vma_pools.proofs.CallLemmas.{found-pool, not-none, pool-below, range-block}
use Rattle.vma_pools.proofs.ReservedLemmas.{target-range, target-spot}
use Rattle.vma_pools.proofs.pools.PoolsOf.target.Goals as goal

pub index-requires-2 : goal.index-requires-2
index-requires-2 g c =
    let f = c.self.inside in let i = c.args.allocation in let a = c.in-Some.live in
    let s : PoolsState = record { pools = f.pools.items; allocations = f.allocations.items } in
    let asks = subst (λ (t : PoolsState). IfLive t i (λ a. IsMoving a.home a.target)) (sym c.self.view_is) c.requires in
    let live = live-here s i (λ a. IsMoving a.home a.target) asks c.index.result.now a c.index.ensures c.in-Some.is in
    let low = pool-below s c.self.invariant.pools i a live c.in-Shared.pool c.in-Shared.place c.in-Shared.is in omega (arith, low, f.pools.ok)

pub memory_of-requires : goal.memory_of-requires
memory_of-requires g c =
    let f = c.self.inside in let i = c.args.allocation in let a = c.in-Some.live in
    let s : PoolsState = record { pools = f.pools.items; allocations = f.allocations.items } in
    let asks = subst (λ (t : PoolsState). IfLive t i (λ a. IsMoving a.home a.target)) (sym c.self.view_is) c.requires in
    let live = live-here s i (λ a. IsMoving a.home a.target) asks c.index.result.now a c.index.ensures c.in-Some.is in
    let p = c.in-Shared.pool in let place = c.in-Shared.place in let lies = c.in-Shared.is in let k = c.in-Some-index.kept in let target = c.in-Some-target.target in
    let there = found-pool s c.self.invariant.pools i a live p place lies c.index-2.result.now c.index-2.ensures k c.in-Some-index.is in
    range-block k.pool target.block (range_at target.start a.asked) (target-range s i a live p place lies k there target c.in-Some-target.is c.self.invariant.pools)

pub unreachable-requires-in-None : goal.unreachable-requires-in-None
unreachable-requires-in-None g c =
    let f = c.self.inside in let i = c.args.allocation in let a = c.in-Some.live in
    let s : PoolsState = record { pools = f.pools.items; allocations = f.allocations.items } in
    let asks = subst (λ (t : PoolsState). IfLive t i (λ a. IsMoving a.home a.target)) (sym c.self.view_is) c.requires in
    let live = live-here s i (λ a. IsMoving a.home a.target) asks c.index.result.now a c.index.ensures c.in-Some.is in
    not-none s c.self.invariant.pools i a live c.in-Shared.pool c.in-Shared.place c.in-Shared.is c.index-2.result.now c.index-2.ensures c.in-None.is

pub returns : goal.returns
returns g c =
    let f = c.self.inside in let i = c.args.allocation in let a = c.in-Some.live in
    let s : PoolsState = record { pools = f.pools.items; allocations = f.allocations.items } in
    let asks = subst (λ (t : PoolsState). IfLive t i (λ a. IsMoving a.home a.target)) (sym c.self.view_is) c.requires in
    let live = live-here s i (λ a. IsMoving a.home a.target) asks c.index.result.now a c.index.ensures c.in-Some.is in
    let p = c.in-Shared.pool in let place = c.in-Shared.place in let lies = c.in-Shared.is in let k = c.in-Some-index.kept in let target = c.in-Some-target.target in
    let there = found-pool s c.self.invariant.pools i a live p place lies c.index-2.result.now c.index-2.ensures k c.in-Some-index.is in
    let spot : Spot = record { memory = c.memory_of.result; offset = target.start; size = a.asked.size } in
    subst (λ (t : PoolsState). IfLive t i (λ b. IsTargetSpot t b.home b.target b.asked spot)) c.self.view_is
    (target-spot s i a live p place lies k there target c.in-Some-target.is c.memory_of.result c.memory_of.ensures)
