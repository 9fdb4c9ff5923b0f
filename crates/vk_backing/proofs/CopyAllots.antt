-- What is allocated when a part of a pass has been copied.
use Rattle.std.proofs.Common.{◌≡◌, ℕ, List, [], map, Option, Some, ◌==◌, sym, ap, subst, ◌∙◌, inl, inr}
use Rattle.std.specs.Prelude.{if◌then◌else◌}
use Rattle.std.specs.List.{filter}
use Rattle.std.proofs.lemmas.Bool.{cases_eq}
use Rattle.vk_memory.specs.MemoryState.{MemoryState}
use Rattle.vk_model.specs.Memory.MoveTargets.{Moved}
use Rattle.vk_model.specs.Memory.Allocations.{Defragmentation}
use Rattle.vma_defrag.specs.State.{DefragState, with_left}
use Rattle.vk_backing.specs.Backed.{Backed}
use Rattle.vk_backing.specs.Allotted.{Allotted, allotted, kind_of, Fulfils}
use Rattle.vk_backing.specs.Passing.{Passing, defrag_in, moves_on, moves_in_pool}
use Rattle.vk_backing.specs.PassSteps.{Copies}
use Rattle.vk_backing.specs.PassAllots.{AreDefragsOf, StaysAllotted}
use Rattle.vk_model.specs.Memory.HeapSizes.{HeapSizes}
use Rattle.vk_backing.proofs.Cleared.{kept_kinds}
use Rattle.vk_backing.proofs.OpenPass.{moves_stay}
use Rattle.vk_backing.proofs.Passing.{open_is}
use Rattle.vk_backing.proofs.BeginAllots.{same_named}

module _ (b : Backed) (m n : MemoryState) (old new : Passing) (part : ℕ) (copies : Copies old new b part m n) (id : ℕ) (opened : old.opened ≡ Some id)
    (was : DefragState) (there : defrag_in old id ≡ Some was) (left : List ℕ) (here : defrag_in new id ≡ Some (with_left left was)) (others : (i : ℕ) → (i ≡ id → ⊥) → defrag_in new i ≡ defrag_in old i) where
  same_allotted : allotted b n ≡ allotted b m
  same_allotted =
      ap (λ (x : HeapSizes). record { sizes = x; objects = map kind_of n.objects; backed = b }) copies.objects.sizes
      ∙ ap (λ (l : List (Option (ℕ × ℕ))). record { sizes = m.sizes; objects = l; backed = b }) (kept_kinds m n copies.objects)

  moves_same : (p : ℕ) → moves_in_pool new p ≡ moves_in_pool old p
  moves_same p =
      ap (λ (o : Option DefragState). moves_on p o) (open_is new id (copies.opened ∙ opened) ∙ here)
      ∙ ap (λ (l : List Moved). if was.pool == p then l else []) (moves_stay left was.current)
      ∙ sym (ap (λ (o : Option DefragState). moves_on p o) (open_is old id opened ∙ there))

  defrags_then : (i : ℕ) (l : List Defragmentation) → AreDefragsOf b i (defrag_in old i) l → AreDefragsOf b i (defrag_in new i) l
  defrags_then i l are = elim (cases_eq i id) [
    | inl same ↦ subst (λ (j : ℕ). AreDefragsOf b j (defrag_in new j) l) (sym same)
        (subst (λ (x : Option DefragState). AreDefragsOf b id x l) (sym here)
        (subst (λ (x : Option DefragState). AreDefragsOf b id x l) there (subst (λ (j : ℕ). AreDefragsOf b j (defrag_in old j) l) same are)))
    | inr other ↦ subst (λ (x : Option DefragState). AreDefragsOf b i x l) (sym (others i other)) are
  ]

  pub copy_allotted : StaysAllotted (allotted b m) old (allotted b n) new
  copy_allotted d is = record {
    resources = subst (λ (a : Allotted). Fulfils a d) (sym same_allotted) is.resources;
    moves = λ i p q at by. is.moves i p q at by ∙ sym (same_named old new p copies.moving (moves_same p));
    defrags = λ i. defrags_then i (filter (λ f. f.id == i) d.defragmentations) (is.defrags i);
  }
