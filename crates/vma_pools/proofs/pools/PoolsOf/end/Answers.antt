use Rattle.std.proofs.Common.{List, Option, Some, None, ◌≡◌, ◌∙◌, set, arith, ap, sym, subst}
use Rattle.vma_pools.specs.declared.allocations.Allocation.{Allocation}
use Rattle.vma_pools.specs.declared.allocations.Home.{Home}
use Rattle.vma_pools.specs.State.{PoolsState, ArePools, IfLive, IsEnded, start_of}
use Rattle.vma_pools.specs.Inner.Numbers.{AreNumbers}
use Rattle.vma_pools.proofs.StateLemmas.{freed-fine}
use Rattle.vma_pools.proofs.EndedLemmas.{live-here, own-ended, shared-ended}
use Rattle.vma_pools.proofs.CallLemmas.{pool-below, not-none, found-pool, found-range, live-and, live-holds, own-places, its-place, no-target, loses-block}
use Rattle.vma_pools.proofs.KeptNumbers.{numbers-set}
use Rattle.vma_pools.proofs.pools.PoolsOf.end.Goals as goal

pub invariant_of-self : goal.invariant_of-self
invariant_of-self g c =
    let f = c.self.inside in let i = c.args.allocation in let a = c.in-Some.ended in
    let s : PoolsState = record { pools = f.pools.items; allocations = f.allocations.items } in
    let asks = subst (λ (t : PoolsState). IfLive t i (λ a. a.target ≡ None)) (sym c.self.view_is) c.requires in
    let live = live-here s i (λ a. a.target ≡ None) asks c.index_mut.result.now a c.index_mut.ensures.value (sym c.take.ensures.value ∙ c.in-Some.is) in
    record {
      pools = subst (λ (o : Option Allocation). ArePools (record { pools = f.pools.items; allocations = set f.allocations.items i o })) (sym c.take.ensures.after)
          (own-ended s c.self.invariant.pools i a live (own-places a c.in-Own.memory c.in-Own.is));
      numbers = numbers-set c.leave_ended.new.numbers.items f.allocations.items i a c.take.new.self live (subst (λ (l : List (Option Allocation)). AreNumbers c.leave_ended.new.numbers.items l) c.deref.ensures.value c.leave_ended.ensures);
    }

pub index_mut-requires-in-Shared : goal.index_mut-requires-in-Shared
index_mut-requires-in-Shared g c =
    let f = c.self.inside in let i = c.args.allocation in let a = c.in-Some.ended in
    let s : PoolsState = record { pools = f.pools.items; allocations = f.allocations.items } in
    let asks = subst (λ (t : PoolsState). IfLive t i (λ a. a.target ≡ None)) (sym c.self.view_is) c.requires in
    let live = live-here s i (λ a. a.target ≡ None) asks c.index_mut.result.now a c.index_mut.ensures.value (sym c.take.ensures.value ∙ c.in-Some.is) in
    let low = pool-below s c.self.invariant.pools i a live c.in-Shared.pool c.in-Shared.place c.in-Shared.is in omega (arith, low, f.pools.ok)

pub free-requires : goal.free-requires
free-requires g c =
    let f = c.self.inside in let i = c.args.allocation in let a = c.in-Some.ended in
    let s : PoolsState = record { pools = f.pools.items; allocations = f.allocations.items } in
    let asks = subst (λ (t : PoolsState). IfLive t i (λ a. a.target ≡ None)) (sym c.self.view_is) c.requires in
    let live = live-here s i (λ a. a.target ≡ None) asks c.index_mut.result.now a c.index_mut.ensures.value (sym c.take.ensures.value ∙ c.in-Some.is) in
    let p = c.in-Shared.pool in let place = c.in-Shared.place in let lies = c.in-Shared.is in
    let k = c.in-Some-index_mut.kept in
    found-range s c.self.invariant.pools i a live p place lies c.index_mut-in-Shared.result.now c.index_mut-in-Shared.ensures.value k c.in-Some-index_mut.is

pub unreachable-requires-in-None : goal.unreachable-requires-in-None
unreachable-requires-in-None g c =
    let f = c.self.inside in let i = c.args.allocation in let a = c.in-Some.ended in
    let s : PoolsState = record { pools = f.pools.items; allocations = f.allocations.items } in
    let asks = subst (λ (t : PoolsState). IfLive t i (λ a. a.target ≡ None)) (sym c.self.view_is) c.requires in
    let live = live-here s i (λ a. a.target ≡ None) asks c.index_mut.result.now a c.index_mut.ensures.value (sym c.take.ensures.value ∙ c.in-Some.is) in
    let p = c.in-Shared.pool in let place = c.in-Shared.place in let lies = c.in-Shared.is in
    not-none s c.self.invariant.pools i a live p place lies c.index_mut-in-Shared.result.now c.index_mut-in-Shared.ensures.value c.in-None.is

pub invariant_of-self-in-Shared : goal.invariant_of-self-in-Shared
invariant_of-self-in-Shared g c =
    let f = c.self.inside in let i = c.args.allocation in let a = c.in-Some.ended in
    let s : PoolsState = record { pools = f.pools.items; allocations = f.allocations.items } in
    let asks = subst (λ (t : PoolsState). IfLive t i (λ a. a.target ≡ None)) (sym c.self.view_is) c.requires in
    let live = live-here s i (λ a. a.target ≡ None) asks c.index_mut.result.now a c.index_mut.ensures.value (sym c.take.ensures.value ∙ c.in-Some.is) in
    let p = c.in-Shared.pool in let place = c.in-Shared.place in let lies = c.in-Shared.is in
    let k = c.in-Some-index_mut.kept in let there = found-pool s c.self.invariant.pools i a live p place lies c.index_mut-in-Shared.result.now c.index_mut-in-Shared.ensures.value k c.in-Some-index_mut.is in
    let now = c.free.new.self in
    record {
      pools = subst (λ (o : Option Allocation). ArePools (record { pools = set f.pools.items p (Some now); allocations = set f.allocations.items i o })) (sym c.take.ensures.after)
          (shared-ended s c.self.invariant.pools i a live p place (its-place a p place lies) (no-target a p place lies (live-holds s i (λ a. a.target ≡ None) asks a live)) k now there c.free.ensures.pool
          (freed-fine k now (start_of place) (c.self.invariant.pools.pools p k there) c.free.ensures.pool));
      numbers = numbers-set c.leave_ended.new.numbers.items f.allocations.items i a c.take.new.self live (subst (λ (l : List (Option Allocation)). AreNumbers c.leave_ended.new.numbers.items l) c.deref.ensures.value c.leave_ended.ensures);
    }

pub returns-in-Some-index_mut-clause-ended : goal.returns-in-Some-index_mut-clause-ended
returns-in-Some-index_mut-clause-ended g c =
    let f = c.self.inside in let i = c.args.allocation in let a = c.in-Some.ended in
    let s : PoolsState = record { pools = f.pools.items; allocations = f.allocations.items } in
    let asks = subst (λ (t : PoolsState). IfLive t i (λ a. a.target ≡ None)) (sym c.self.view_is) c.requires in
    let live = live-here s i (λ a. a.target ≡ None) asks c.index_mut.result.now a c.index_mut.ensures.value (sym c.take.ensures.value ∙ c.in-Some.is) in
    let p = c.in-Shared.pool in let place = c.in-Shared.place in let lies = c.in-Shared.is in
    let k = c.in-Some-index_mut.kept in let there = found-pool s c.self.invariant.pools i a live p place lies c.index_mut-in-Shared.result.now c.index_mut-in-Shared.ensures.value k c.in-Some-index_mut.is in
    let now = c.free.new.self in let gone = c.free.result in
    let new : PoolsState = record { pools = set f.pools.items p (Some now); allocations = set f.allocations.items i c.take.new.self } in
    subst (λ (t : PoolsState). IfLive t i (λ a. IsEnded t new i a.home gone)) c.self.view_is
    (live-and s i a (λ a. IsEnded s new i a.home gone) live
    (subst (λ (h : Home). IsEnded s new i h gone) (sym lies) (record {
      was = k;
      now = now;
      there = there;
      pool_is = c.free.ensures.pool;
      objects = loses-block gone k now c.free.ensures.kept c.free.ensures.gone;
      blocks = c.free.ensures.blocks;
      state = ap (λ (o : Option Allocation). record { pools = set f.pools.items p (Some now); allocations = set f.allocations.items i o }) c.take.ensures.after;
    })))
