use Rattle.std.proofs.Common.{sym, subst}
use Rattle.std.specs.Prelude.{MatchOption}
use Rattle.vma_pools.specs.State.{PoolsState, HasLower, HasNoLower, IfLive, IsMovable, range_at}
use Rattle.vma_pools.proofs.EndedLemmas.{live-here}
use Rattle.vma_pools.proofs.CallLemmas.{found-pool, found-range}
use Rattle.vma_pools.proofs.MovingLemmas.{range-inside}
use Rattle.vma_pools.proofs.ReservedLemmas.{lower-of}
use Rattle.vma_pools.specs.Exhausted.{IsExhaustedFor, IsExhaustedBefore}
use Rattle.vma_pools.proofs.ExhaustedFor.{either-exhausted}
use Rattle.vma_pools.proofs.pools.PoolsOf.lower_place.Goals as goal

pub lower_place-requires-clause-request : goal.lower_place-requires-clause-request
lower_place-requires-clause-request g c =
    let f = c.self.inside in let i = c.args.allocation in let a = c.in-Some.live in
    let s : PoolsState = record { pools = f.pools.items; allocations = f.allocations.items } in
    let asks = subst (λ (t : PoolsState). IfLive t i (λ a. IsMovable t a.home a.target)) (sym c.self.view_is) c.requires.movable in
    c.self.invariant.pools.requests i a (live-here s i (λ a. IsMovable s a.home a.target) asks c.index.result.now a c.index.ensures c.in-Some.is)

pub lower_place-requires-clause-inside : goal.lower_place-requires-clause-inside
lower_place-requires-clause-inside g c =
    let f = c.self.inside in let i = c.args.allocation in let a = c.in-Some.live in
    let s : PoolsState = record { pools = f.pools.items; allocations = f.allocations.items } in
    let asks = subst (λ (t : PoolsState). IfLive t i (λ a. IsMovable t a.home a.target)) (sym c.self.view_is) c.requires.movable in
    let live = live-here s i (λ a. IsMovable s a.home a.target) asks c.index.result.now a c.index.ensures c.in-Some.is in
    let p = c.in-Shared.pool in let place = c.in-Shared.place in let lies = c.in-Shared.is in let k = c.in-Some-index.kept in
    let there = found-pool s c.self.invariant.pools i a live p place lies c.index-2.result.now c.index-2.ensures k c.in-Some-index.is in
    range-inside k (c.self.invariant.pools.pools p k there) place.block (range_at place.start a.asked)
    (found-range s c.self.invariant.pools i a live p place lies c.index-2.result.now c.index-2.ensures k c.in-Some-index.is)

pub returns-clause-lower : goal.returns-clause-lower
returns-clause-lower g c =
    let f = c.self.inside in let i = c.args.allocation in let a = c.in-Some.live in
    let s : PoolsState = record { pools = f.pools.items; allocations = f.allocations.items } in
    let asks = subst (λ (t : PoolsState). IfLive t i (λ a. IsMovable t a.home a.target)) (sym c.self.view_is) c.requires.movable in
    let live = live-here s i (λ a. IsMovable s a.home a.target) asks c.index.result.now a c.index.ensures c.in-Some.is in
    let p = c.in-Shared.pool in let place = c.in-Shared.place in let lies = c.in-Shared.is in let k = c.in-Some-index.kept in
    let there = found-pool s c.self.invariant.pools i a live p place lies c.index-2.result.now c.index-2.ensures k c.in-Some-index.is in
    subst (λ (t : PoolsState). MatchOption c.lower_place.result (HasNoLower t i) (HasLower t i)) c.self.view_is (lower-of s i a live p place lies k there c.lower_place.result c.lower_place.ensures)

pub lower_place-requires-clause-low : goal.lower_place-requires-clause-low
lower_place-requires-clause-low g c =
    let f = c.self.inside in let i = c.args.allocation in let a = c.in-Some.live in
    let s : PoolsState = record { pools = f.pools.items; allocations = f.allocations.items } in
    let asks = subst (λ (t : PoolsState). IfLive t i (λ a. IsMovable t a.home a.target)) (sym c.self.view_is) c.requires.movable in
    let live = live-here s i (λ a. IsMovable s a.home a.target) asks c.index.result.now a c.index.ensures c.in-Some.is in
    let p = c.in-Shared.pool in let place = c.in-Shared.place in let lies = c.in-Shared.is in let k = c.in-Some-index.kept in
    let there = found-pool s c.self.invariant.pools i a live p place lies c.index-2.result.now c.index-2.ensures k c.in-Some-index.is in
    subst (λ (t : PoolsState). IsExhaustedFor t i c.args.low) (sym c.self.view_is) c.requires.low a p place k live lies there

pub returns-clause-exhausted : goal.returns-clause-exhausted
returns-clause-exhausted g c =
    let f = c.self.inside in let i = c.args.allocation in let a = c.in-Some.live in
    let s : PoolsState = record { pools = f.pools.items; allocations = f.allocations.items } in
    let asks = subst (λ (t : PoolsState). IfLive t i (λ a. IsMovable t a.home a.target)) (sym c.self.view_is) c.requires.movable in
    let live = live-here s i (λ a. IsMovable s a.home a.target) asks c.index.result.now a c.index.ensures c.in-Some.is in
    let p = c.in-Shared.pool in let place = c.in-Shared.place in let lies = c.in-Shared.is in let k = c.in-Some-index.kept in
    let there = found-pool s c.self.invariant.pools i a live p place lies c.index-2.result.now c.index-2.ensures k c.in-Some-index.is in
    subst (λ (t : PoolsState). MatchOption c.lower_place.result (IsExhaustedBefore t i) (IsExhaustedFor t i)) c.self.view_is
    (either-exhausted s c.self.invariant.pools i a live p place lies k there c.lower_place.result c.lower_place.ensures)
