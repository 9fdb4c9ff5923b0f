use Rattle.std.proofs.Common.{Some, sym, subst}
use Rattle.vma_pools.specs.State.{PoolsState, Backs, IfLive, IsMovable, range_at}
use Rattle.vma_pools.proofs.EndedLemmas.{live-here}
use Rattle.vma_pools.proofs.CallLemmas.{found-pool, found-range, live-holds}
use Rattle.vma_pools.proofs.MovingLemmas.{range-inside, place-reserved, movable-none}
use Rattle.vma_pools.proofs.SettledBacks.{target-backs}
use Rattle.vma_pools.specs.Exhausted.{IsExhaustedFor, IsExhaustedBefore}
use Rattle.vma_pools.proofs.ExhaustedFor.{own-exhausted, pool-back, reserved-exhausted}
use Rattle.vma_pools.proofs.KeptNumbers.{numbers-set}
use Rattle.vma_pools.proofs.pools.PoolsOf.reserve_lower.Goals as goal

pub take_lower-requires-clause-request : goal.take_lower-requires-clause-request
take_lower-requires-clause-request g c =
    let f = c.self.inside in let i = c.args.allocation in let a = c.in-Some.live in
    let s : PoolsState = record { pools = f.pools.items; allocations = f.allocations.items } in
    let asks = subst (λ (t : PoolsState). IfLive t i (λ a. IsMovable t a.home a.target)) (sym c.self.view_is) c.requires.movable in
    let live = live-here s i (λ a. IsMovable s a.home a.target) asks c.index.result.now a c.index.ensures c.in-Some.is in
    c.self.invariant.pools.requests i a live

pub take_lower-requires-clause-inside : goal.take_lower-requires-clause-inside
take_lower-requires-clause-inside g c =
    let f = c.self.inside in let i = c.args.allocation in let a = c.in-Some.live in
    let s : PoolsState = record { pools = f.pools.items; allocations = f.allocations.items } in
    let asks = subst (λ (t : PoolsState). IfLive t i (λ a. IsMovable t a.home a.target)) (sym c.self.view_is) c.requires.movable in
    let live = live-here s i (λ a. IsMovable s a.home a.target) asks c.index.result.now a c.index.ensures c.in-Some.is in
    let p = c.in-Shared.pool in let place = c.in-Shared.place in let lies = c.in-Shared.is in let k = c.in-Some-index_mut.kept in
    let there = found-pool s c.self.invariant.pools i a live p place lies c.index_mut.result.now c.index_mut.ensures.value k c.in-Some-index_mut.is in
    range-inside k (c.self.invariant.pools.pools p k there) place.block (range_at place.start a.asked)
    (found-range s c.self.invariant.pools i a live p place lies c.index_mut.result.now c.index_mut.ensures.value k c.in-Some-index_mut.is)

pub invariant_of-self-2 : goal.invariant_of-self-2
invariant_of-self-2 g c =
    let f = c.self.inside in let i = c.args.allocation in let a = c.in-Some.live in
    let s : PoolsState = record { pools = f.pools.items; allocations = f.allocations.items } in
    let asks = subst (λ (t : PoolsState). IfLive t i (λ a. IsMovable t a.home a.target)) (sym c.self.view_is) c.requires.movable in
    let live = live-here s i (λ a. IsMovable s a.home a.target) asks c.index.result.now a c.index.ensures c.in-Some.is in
    let p = c.in-Shared.pool in let place = c.in-Shared.place in let lies = c.in-Shared.is in let k = c.in-Some-index_mut.kept in
    let there = found-pool s c.self.invariant.pools i a live p place lies c.index_mut.result.now c.index_mut.ensures.value k c.in-Some-index_mut.is in
    let none = movable-none s a.home a.target (live-holds s i (λ a. IsMovable s a.home a.target) asks a live) in
    let takes = rw c.in-Some-2.is at c.in_ok-target.ensures.ok in
    record {
      pools = place-reserved s c.self.invariant.pools i a live p place lies none k c.take_lower.new.self there c.in-Some-2.target takes;
      numbers = numbers-set f.numbers.items f.allocations.items i a (Some (record a { target = Some c.in-Some-2.target })) live c.self.invariant.numbers;
    }

pub returns-clause-backs : goal.returns-clause-backs
returns-clause-backs g c m backs =
    let f = c.self.inside in let i = c.args.allocation in let a = c.in-Some.live in
    let s : PoolsState = record { pools = f.pools.items; allocations = f.allocations.items } in
    let asks = subst (λ (t : PoolsState). IfLive t i (λ a. IsMovable t a.home a.target)) (sym c.self.view_is) c.requires.movable in
    let live = live-here s i (λ a. IsMovable s a.home a.target) asks c.index.result.now a c.index.ensures c.in-Some.is in
    let p = c.in-Shared.pool in let place = c.in-Shared.place in let lies = c.in-Shared.is in let k = c.in-Some-index_mut.kept in
    let there = found-pool s c.self.invariant.pools i a live p place lies c.index_mut.result.now c.index_mut.ensures.value k c.in-Some-index_mut.is in
    target-backs s m (subst (λ (t : PoolsState). Backs t m) (sym c.self.view_is) backs) i a live p place lies k c.take_lower.new.self there c.in-Some-2.target (rw c.in-Some-2.is at c.in_ok-target.ensures.ok)

pub take_lower-requires-clause-low : goal.take_lower-requires-clause-low
take_lower-requires-clause-low g c =
    let f = c.self.inside in let i = c.args.allocation in let a = c.in-Some.live in
    let s : PoolsState = record { pools = f.pools.items; allocations = f.allocations.items } in
    let asks = subst (λ (t : PoolsState). IfLive t i (λ a. IsMovable t a.home a.target)) (sym c.self.view_is) c.requires.movable in
    let live = live-here s i (λ a. IsMovable s a.home a.target) asks c.index.result.now a c.index.ensures c.in-Some.is in
    let p = c.in-Shared.pool in let place = c.in-Shared.place in let lies = c.in-Shared.is in let k = c.in-Some-index_mut.kept in
    let there = found-pool s c.self.invariant.pools i a live p place lies c.index_mut.result.now c.index_mut.ensures.value k c.in-Some-index_mut.is in
    subst (λ (t : PoolsState). IsExhaustedFor t i c.args.low) (sym c.self.view_is) c.requires.low a p place k live lies there

pub returns-in_default-2-clause-exhausted : goal.returns-in_default-2-clause-exhausted
returns-in_default-2-clause-exhausted g c =
    let f = c.self.inside in let i = c.args.allocation in let a = c.in-Some.live in
    let s : PoolsState = record { pools = f.pools.items; allocations = f.allocations.items } in
    let asks = subst (λ (t : PoolsState). IfLive t i (λ a. IsMovable t a.home a.target)) (sym c.self.view_is) c.requires.movable in
    let live = live-here s i (λ a. IsMovable s a.home a.target) asks c.index.result.now a c.index.ensures c.in-Some.is in
    let p = c.in-Shared.pool in let place = c.in-Shared.place in let lies = c.in-Shared.is in let k = c.in-Some-index_mut.kept in
    let there = found-pool s c.self.invariant.pools i a live p place lies c.index_mut.result.now c.index_mut.ensures.value k c.in-Some-index_mut.is in
    let none = rw c.in_default-2.is at c.in_ok-target.ensures.ok in
    subst (λ (t : PoolsState). IsExhaustedBefore t i) (sym (pool-back s p k c.take_lower.new.self there none.1)) (own-exhausted s c.self.invariant.pools i a live p place lies k there none.0)

pub returns-clause-exhausted : goal.returns-clause-exhausted
returns-clause-exhausted g c =
    let f = c.self.inside in let i = c.args.allocation in let a = c.in-Some.live in
    let s : PoolsState = record { pools = f.pools.items; allocations = f.allocations.items } in
    let asks = subst (λ (t : PoolsState). IfLive t i (λ a. IsMovable t a.home a.target)) (sym c.self.view_is) c.requires.movable in
    let live = live-here s i (λ a. IsMovable s a.home a.target) asks c.index.result.now a c.index.ensures c.in-Some.is in
    let p = c.in-Shared.pool in let place = c.in-Shared.place in let lies = c.in-Shared.is in let k = c.in-Some-index_mut.kept in
    let there = found-pool s c.self.invariant.pools i a live p place lies c.index_mut.result.now c.index_mut.ensures.value k c.in-Some-index_mut.is in
    let may = live-holds s i (λ a. IsMovable s a.home a.target) asks a live in
    let both = reserved-exhausted s c.self.invariant.pools i a live p place lies k there c.take_lower.new.self c.in-Some-2.target may (rw c.in-Some-2.is at c.in_ok-target.ensures.ok) in
    (subst (λ (t : PoolsState). IsExhaustedFor t i c.in-Some-2.target) c.self.view_is both.0, both.1)
