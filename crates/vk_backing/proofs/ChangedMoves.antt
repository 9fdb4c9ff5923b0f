-- The moves and defragmentations of a device when one pool has changed.
use Rattle.std.proofs.Common.{◌≡◌, ℕ, List, [], ◌∷◌, ◌==◌, Option, Some, None, sym, ap, subst, ◌∙◌, inl, inr}
use Rattle.std.specs.List.{filter}
use Rattle.std.proofs.lemmas.Bool.{cases_eq}
use Rattle.vk_memory.specs.MemoryState.{MemoryState}
use Rattle.vk_model.specs.Memory.Allocations.{Allocated, Defragmentation, PoolMemory, pool_by_id, with_pool}
use Rattle.vma_pools.proofs.StateLemmas.{some-is}
use Rattle.vma_defrag.specs.State.{DefragState}
use Rattle.vk_backing.specs.Allotted.{allotted}
use Rattle.vk_backing.specs.Backed.{Backed, pool_of}
use Rattle.vk_backing.specs.PassAllots.{AreDefragsOf, FulfilsAll}
use Rattle.vk_backing.specs.Passing.{Passing, moves_in_pool, named_in}
use Rattle.vk_backing.proofs.PoolsBy.{found_changed, found_other, pool_by, pool_found}

module _ (b c : Backed) (names : (i : ℕ) → pool_of c i ≡ pool_of b i) where
  -- a defragmentation is of the pool of the same id
  pub same_defrags : (i : ℕ) (x : Option DefragState) (fs : List Defragmentation) → AreDefragsOf b i x fs → AreDefragsOf c i x fs
  same_defrags i None fs none = none
  same_defrags i (Some x) fs (pool, at, one) = (pool, names pool ∙ at, one)

  -- each pool has the moves of the open pass in it, if the one that has changed does
  module _ (m : MemoryState) (old new : Passing) (d : Allocated) (is : FulfilsAll (allotted b m) old d) (one_pool : (i j t : ℕ) → pool_of b i ≡ Some t → pool_of b j ≡ Some t → i ≡ j) (id p : ℕ) (named : pool_of b id ≡ Some p)
      (q r : PoolMemory) (one : filter (λ o. o.id == id) d.pools ≡ q ∷ []) (q_is : q.id ≡ id) (r_is : r.id ≡ id) (here : (t : ℕ) → t ≡ p → r.moves ≡ named_in new.moving (moves_in_pool new t))
      (away : (t : ℕ) → (t ≡ p → ⊥) → named_in old.moving (moves_in_pool old t) ≡ named_in new.moving (moves_in_pool new t)) where
    pub moves_changed : (i t : ℕ) (x : PoolMemory) → pool_of c i ≡ Some t → pool_by_id i (with_pool r d) ≡ Some x → x.moves ≡ named_in new.moving (moves_in_pool new t)
    moves_changed i t x at by = elim (cases_eq i id) [
      | inl same ↦
          let mine : pool_by_id id (with_pool r d) ≡ Some r =
          subst (λ (j : ℕ). pool_by_id j (with_pool r d) ≡ Some r) r_is (found_changed r d q (q_is ∙ sym r_is) (subst (λ (j : ℕ). filter (λ o. o.id == j) d.pools ≡ q ∷ []) (sym r_is) one)) in
          let x_is : r ≡ x = some-is r x (sym mine ∙ ap (λ (j : ℕ). pool_by_id j (with_pool r d)) (sym same) ∙ by) in
          sym (ap (λ (y : PoolMemory). y.moves) x_is) ∙ here t (some-is t p (sym at ∙ names i ∙ ap (λ (j : ℕ). pool_of b j) same ∙ named))
      | inr other ↦
          let at_b : pool_of b i ≡ Some t = sym (names i) ∙ at in
          let its = pool_by b m d is.resources i t at_b in
          let mine = found_other r d i its.0 (λ same. other (sym its.4.id_is ∙ same ∙ r_is)) its.2 in
          let x_is : its.0 ≡ x = some-is its.0 x (sym mine ∙ by) in
          sym (ap (λ (y : PoolMemory). y.moves) x_is) ∙ is.moves i t its.0 at_b (pool_found b m d is.resources i t at_b)
          ∙ away t (λ (e : t ≡ p). other (one_pool i id p (at_b ∙ ap (λ (k : ℕ). Some k) e) named))
    ]
