use Rattle.std.proofs.Common.{Some, set, arith, refl, sym, subst}
use Rattle.vma_pools.specs.State.{PoolsState, IfLive, start_of}
use Rattle.vma_pools.specs.Moves.{IsSettled}
use Rattle.vma_pools.specs.Inner.Settling.{HasPlaces}
use Rattle.vma_pools.proofs.StateLemmas.{freed-fine}
use Rattle.vma_pools.proofs.EndedLemmas.{live-here}
use Rattle.vma_pools.proofs.CallLemmas.{live-and, live-holds, loses-block}
use Rattle.vma_pools.proofs.SettledLemmas.{held-below, held-there, held-found, held-range, back-held, left-with, settled-pools}
use Rattle.vma_pools.proofs.KeptNumbers.{numbers-set}
use Rattle.vma_pools.proofs.pools.PoolsOf.settle.Goals as goal

pub index_mut-requires-2 : goal.index_mut-requires-2
index_mut-requires-2 g c =
    let f = c.self.inside in let i = c.args.allocation in let a = c.in-Some.live in let p = c.args.pool in let back = c.args.back in let stays = c.args.stays in
    let s : PoolsState = record { pools = f.pools.items; allocations = f.allocations.items } in
    let asks = subst (λ (t : PoolsState). IfLive t i (λ a. HasPlaces a p back stays)) (sym c.self.view_is) c.requires in
    let live = live-here s i (λ a. HasPlaces a p back stays) asks c.index.result.now a c.index.ensures c.in-Some.is in
    let has = back-held s i a live p back stays (live-holds s i (λ a. HasPlaces a p back stays) asks a live) in
    let low = held-below s c.self.invariant.pools i has.0 p back a.asked has.1 in omega (arith, low, f.pools.ok)

pub free-requires : goal.free-requires
free-requires g c =
    let f = c.self.inside in let i = c.args.allocation in let a = c.in-Some.live in let p = c.args.pool in let back = c.args.back in let stays = c.args.stays in
    let s : PoolsState = record { pools = f.pools.items; allocations = f.allocations.items } in
    let asks = subst (λ (t : PoolsState). IfLive t i (λ a. HasPlaces a p back stays)) (sym c.self.view_is) c.requires in
    let live = live-here s i (λ a. HasPlaces a p back stays) asks c.index.result.now a c.index.ensures c.in-Some.is in
    let has = back-held s i a live p back stays (live-holds s i (λ a. HasPlaces a p back stays) asks a live) in
    let k = c.in-Some-index_mut.kept in
    held-range s c.self.invariant.pools i has.0 p back a.asked has.1 c.index_mut-2.result.now c.index_mut-2.ensures.value k c.in-Some-index_mut.is

pub unreachable-requires-in-None : goal.unreachable-requires-in-None
unreachable-requires-in-None g c =
    let f = c.self.inside in let i = c.args.allocation in let a = c.in-Some.live in let p = c.args.pool in let back = c.args.back in let stays = c.args.stays in
    let s : PoolsState = record { pools = f.pools.items; allocations = f.allocations.items } in
    let asks = subst (λ (t : PoolsState). IfLive t i (λ a. HasPlaces a p back stays)) (sym c.self.view_is) c.requires in
    let live = live-here s i (λ a. HasPlaces a p back stays) asks c.index.result.now a c.index.ensures c.in-Some.is in
    let has = back-held s i a live p back stays (live-holds s i (λ a. HasPlaces a p back stays) asks a live) in
    held-there s c.self.invariant.pools i has.0 p back a.asked has.1 c.index_mut-2.result.now c.index_mut-2.ensures.value c.in-None.is

pub invariant_of-self : goal.invariant_of-self
invariant_of-self g c =
    let f = c.self.inside in let i = c.args.allocation in let a = c.in-Some.live in let p = c.args.pool in let back = c.args.back in let stays = c.args.stays in
    let s : PoolsState = record { pools = f.pools.items; allocations = f.allocations.items } in
    let asks = subst (λ (t : PoolsState). IfLive t i (λ a. HasPlaces a p back stays)) (sym c.self.view_is) c.requires in
    let live = live-here s i (λ a. HasPlaces a p back stays) asks c.index.result.now a c.index.ensures c.in-Some.is in
    let both = live-holds s i (λ a. HasPlaces a p back stays) asks a live in let has = back-held s i a live p back stays both in
    let k = c.in-Some-index_mut.kept in let there = held-found s c.self.invariant.pools i has.0 p back a.asked has.1 c.index_mut-2.result.now c.index_mut-2.ensures.value k c.in-Some-index_mut.is in
    record {
      pools = settled-pools s c.self.invariant.pools i a live p back stays k c.free.new.self there c.free.ensures.pool (freed-fine k c.free.new.self (start_of back) (c.self.invariant.pools.pools p k there) c.free.ensures.pool) both;
      numbers = numbers-set f.numbers.items f.allocations.items i a (Some (left-with a p stays)) live c.self.invariant.numbers;
    }

pub returns-clause-settled : goal.returns-clause-settled
returns-clause-settled g c =
    let f = c.self.inside in let i = c.args.allocation in let a = c.in-Some.live in let p = c.args.pool in let back = c.args.back in let stays = c.args.stays in
    let s : PoolsState = record { pools = f.pools.items; allocations = f.allocations.items } in
    let asks = subst (λ (t : PoolsState). IfLive t i (λ a. HasPlaces a p back stays)) (sym c.self.view_is) c.requires in
    let live = live-here s i (λ a. HasPlaces a p back stays) asks c.index.result.now a c.index.ensures c.in-Some.is in
    let has = back-held s i a live p back stays (live-holds s i (λ a. HasPlaces a p back stays) asks a live) in
    let k = c.in-Some-index_mut.kept in let there = held-found s c.self.invariant.pools i has.0 p back a.asked has.1 c.index_mut-2.result.now c.index_mut-2.ensures.value k c.in-Some-index_mut.is in
    let now = c.free.new.self in let gone = c.free.result in
    let new : PoolsState = record { pools = set f.pools.items p (Some now); allocations = set f.allocations.items i (Some (left-with a p stays)) } in
    subst (λ (t : PoolsState). IfLive t i (λ a. IsSettled t new i a p back stays gone)) c.self.view_is
    (live-and s i a (λ a. IsSettled s new i a p back stays gone) live
    (record {
      was = k;
      now = now;
      there = there;
      pool_is = c.free.ensures.pool;
      objects = loses-block gone k now c.free.ensures.kept c.free.ensures.gone;
      blocks = c.free.ensures.blocks;
      state = refl;
    }))
