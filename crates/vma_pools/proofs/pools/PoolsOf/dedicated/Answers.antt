use Rattle.std.proofs.Common.{ℕ, List, length, Option, Some, [], ◌∷◌, ◌++◌, ◌≡◌, ◌∙◌, Bool, true, false, None, ap, sym, subst, refl, arith}
use Rattle.vma_pools.specs.declared.allocations.Allocation.{Allocation}
use Rattle.vma_pools.specs.declared.allocations.Asked.{Asked}
use Rattle.vma_pools.specs.declared.allocations.Home.TheVariants as home
use Rattle.vma_pools.specs.State.{PoolsState, ArePools, Backs, new_allocation, with_more, held_place}
use Rattle.vk_memory.specs.MemoryState.{MemoryState}
use Rattle.vma_pools.specs.Inner.Numbers.{AreNumbers}
use Rattle.vma_pools.proofs.StateLemmas.{own-added}
use Rattle.vma_pools.proofs.KeptNumbers.{numbers-more}
use Rattle.vma_pools.proofs.BacksLemmas.{own-backs}
use Rattle.vma_pools.proofs.pools.PoolsOf.dedicated.Goals as goal

pub invariant_of-self-2 : goal.invariant_of-self-2
invariant_of-self-2 g c =
    let f = c.self.inside in
    let s : PoolsState = record { pools = f.pools.items; allocations = f.allocations.items } in
    let a : Allocation = new_allocation (home.Own c.in_ok-memory.memory) c.args.asked in
    let is = c.push_reserved.ensures.items ∙ ap (λ (l : List (Option Allocation)). l ++ Some a ∷ []) c.in_ok-reserve.ensures.items in
    let count : c.len-number.result ≡ length f.allocations.items = (let l = c.len-number.ensures in let o = c.reserve.new.self.ok in omega (arith, l, o, ap length c.in_ok-reserve.ensures.items)) in
    let more = c.push_reserved-2.ensures.items ∙ ap (λ (l : List ℕ). l ++ c.len-number.result ∷ []) c.in_ok-reserve-2.ensures.items ∙ ap (λ (n : ℕ). f.numbers.items ++ n ∷ []) count in
    record {
      pools = subst (λ (l : List (Option Allocation)). ArePools (record { pools = f.pools.items; allocations = l })) (sym is)
          (own-added s c.self.invariant.pools a c.requires (own c.in_ok-memory.memory c.args.asked));
      numbers = subst (λ (ns : List ℕ). AreNumbers ns c.push_reserved.new.self.items) (sym more)
          (subst (λ (l : List (Option Allocation)). AreNumbers (f.numbers.items ++ length f.allocations.items ∷ []) l) (sym is)
          (numbers-more f.numbers.items f.allocations.items a c.self.invariant.numbers));
    }
  where
    own : (n : ℕ) (asked : Asked) (r : Bool) → held_place r (new_allocation (home.Own n) asked) ≡ None
    own n asked false = refl
    own n asked true = refl

pub returns-clause-backs : goal.returns-clause-backs
returns-clause-backs g c backs =
    let f = c.self.inside in let asked = c.args.asked in let m = c.args.memories.now in
    let s : PoolsState = record { pools = f.pools.items; allocations = f.allocations.items } in
    let a : Allocation = new_allocation (home.Own c.in_ok-memory.memory) asked in
    let is = c.push_reserved.ensures.items ∙ ap (λ (l : List (Option Allocation)). l ++ Some a ∷ []) c.in_ok-reserve.ensures.items ∙ ap (λ (k : ℕ). f.allocations.items ++ Some (new_allocation (home.Own k) asked) ∷ []) c.in_ok-memory.ensures.ok.0 in
    subst (λ (l : List (Option Allocation)). Backs (record { pools = f.pools.items; allocations = l }) c.allocate.new.self) (sym is)
    (subst (λ (n : MemoryState). Backs (with_more s (new_allocation (home.Own (length m.objects)) asked)) n) (sym c.in_ok-memory.ensures.ok.1)
    (own-backs s c.self.invariant.pools m (subst (λ (t : PoolsState). Backs t m) (sym c.self.view_is) backs) c.args.memory_type asked))
