use Rattle.std.proofs.Common.{ℕ, List, length, Option, Some, [], ◌∷◌, ◌++◌, ◌≡◌, ◌≤◌, ◌∙◌, set, arith, ap, sym, subst}
use Rattle.vk_model.specs.Memory.Room.{NoRoomInPool}
use Rattle.vk_model.specs.Memory.Pools.{state_of}
use Rattle.vma_pools.specs.declared.allocations.Allocation.{Allocation}
use Rattle.vma_pools.specs.declared.allocations.Home.TheVariants as home
use Rattle.vma_pools.specs.Pools.{heaps}
use Rattle.vma_pools.specs.State.{PoolsState, ArePools, Backs, IfKept, new_allocation, request_in, start_of}
use Rattle.vma_pools.specs.Inner.Numbers.{AreNumbers}
use Rattle.vma_pools.proofs.StateLemmas.{shared-added, taken-fine, takes-gives}
use Rattle.vma_pools.proofs.BacksLemmas.{takes-backs}
use Rattle.vma_pools.proofs.CallLemmas.{kept-here, kept-and}
use Rattle.vma_pools.proofs.KeptNumbers.{numbers-more}
use Rattle.vma_pools.proofs.pools.PoolsOf.allocate.Goals as goal

pub allocate-requires-clause-numbers : goal.allocate-requires-clause-numbers
allocate-requires-clause-numbers g c =
    let f = c.self.inside in let p = c.args.pool in let k = c.in-Some.kept in
    let s : PoolsState = record { pools = f.pools.items; allocations = f.allocations.items } in
    let at = kept-here s p (λ k. c.args.asked.size ≤ k.pool.info.block_size) (subst (λ (t : PoolsState). IfKept t p (λ k. c.args.asked.size ≤ k.pool.info.block_size)) (sym c.self.view_is) c.requires.fits) c.index_mut.result.now k c.index_mut.ensures.value c.in-Some.is in
    let low = c.self.invariant.pools.blocks p k at in
    omega (arith, low, f.allocations.ok, f.allocations.small)

pub invariant_of-self-2 : goal.invariant_of-self-2
invariant_of-self-2 g c =
    let f = c.self.inside in let p = c.args.pool in let k = c.in-Some.kept in let asked = c.args.asked in let place = c.in_ok-place.place in let now = c.allocate.new.self in
    let s : PoolsState = record { pools = f.pools.items; allocations = f.allocations.items } in
    let at = kept-here s p (λ k. asked.size ≤ k.pool.info.block_size) (subst (λ (t : PoolsState). IfKept t p (λ k. asked.size ≤ k.pool.info.block_size)) (sym c.self.view_is) c.requires.fits) c.index_mut.result.now k c.index_mut.ensures.value c.in-Some.is in
    let a : Allocation = new_allocation (home.Shared p place) asked in
    let is = c.push_reserved.ensures.items ∙ ap (λ (l : List (Option Allocation)). l ++ Some a ∷ []) c.in_ok-reserve.ensures.items in
    let takes = takes-gives k now c.args.memories.now c.allocate.new.memories (request_in asked) c.args.upper (start_of place) c.in_ok-place.ensures.ok in
    let fine = taken-fine k now (request_in asked) c.args.upper (start_of place) c.requires.request.some (c.self.invariant.pools.pools p k at) takes.0 takes.1 in
    let count : c.len-number.result ≡ length f.allocations.items = (let l = c.len-number.ensures in let o = c.reserve.new.self.ok in omega (arith, l, o, ap length c.in_ok-reserve.ensures.items)) in
    let more = c.push_reserved-2.ensures.items ∙ ap (λ (l : List ℕ). l ++ c.len-number.result ∷ []) c.in_ok-reserve-2.ensures.items ∙ ap (λ (n : ℕ). f.numbers.items ++ n ∷ []) count in
    record {
      pools = subst (λ (l : List (Option Allocation)). ArePools (record { pools = set f.pools.items p (Some now); allocations = l })) (sym is)
          (shared-added s c.self.invariant.pools p k now at asked c.requires.request c.args.upper place takes.0 takes.1 fine);
      numbers = subst (λ (ns : List ℕ). AreNumbers ns c.push_reserved.new.self.items) (sym more)
          (subst (λ (l : List (Option Allocation)). AreNumbers (f.numbers.items ++ length f.allocations.items ∷ []) l) (sym is)
          (numbers-more f.numbers.items f.allocations.items a c.self.invariant.numbers));
    }

pub returns-clause-room : goal.returns-clause-room
returns-clause-room g c is =
    let f = c.self.inside in let p = c.args.pool in let k = c.in-Some.kept in let asked = c.args.asked in
    let s : PoolsState = record { pools = f.pools.items; allocations = f.allocations.items } in
    let at = kept-here s p (λ k. asked.size ≤ k.pool.info.block_size) (subst (λ (t : PoolsState). IfKept t p (λ k. asked.size ≤ k.pool.info.block_size)) (sym c.self.view_is) c.requires.fits) c.index_mut.result.now k c.index_mut.ensures.value c.in-Some.is in
    subst (λ (t : PoolsState). IfKept t p (λ k. NoRoomInPool (heaps c.args.memories.now) (state_of k.pool) (request_in asked) c.args.upper → ⊥)) c.self.view_is
    (kept-and s p k (λ k. NoRoomInPool (heaps c.args.memories.now) (state_of k.pool) (request_in asked) c.args.upper → ⊥) at (c.in_ok-place.ensures.room is))

pub returns-clause-backs : goal.returns-clause-backs
returns-clause-backs g c backs =
    let f = c.self.inside in let p = c.args.pool in let k = c.in-Some.kept in let asked = c.args.asked in let place = c.in_ok-place.place in let now = c.allocate.new.self in let m = c.args.memories.now in
    let s : PoolsState = record { pools = f.pools.items; allocations = f.allocations.items } in
    let at = kept-here s p (λ k. asked.size ≤ k.pool.info.block_size) (subst (λ (t : PoolsState). IfKept t p (λ k. asked.size ≤ k.pool.info.block_size)) (sym c.self.view_is) c.requires.fits) c.index_mut.result.now k c.index_mut.ensures.value c.in-Some.is in
    let a : Allocation = new_allocation (home.Shared p place) asked in
    let is = c.push_reserved.ensures.items ∙ ap (λ (l : List (Option Allocation)). l ++ Some a ∷ []) c.in_ok-reserve.ensures.items in
    subst (λ (l : List (Option Allocation)). Backs (record { pools = set f.pools.items p (Some now); allocations = l }) c.allocate.new.memories) (sym is)
    (takes-backs s c.self.invariant.pools m c.allocate.new.memories (subst (λ (t : PoolsState). Backs t m) (sym c.self.view_is) backs) p k now at place asked c.args.upper c.in_ok-place.ensures.ok)
