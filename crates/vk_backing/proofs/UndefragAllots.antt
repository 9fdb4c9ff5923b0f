-- What is allocated when a defragmentation has ended.
use Rattle.std.proofs.Common.{◌≡◌, ℕ, List, not, ◌==◌, Option, Some, None, sym, ap, subst, ◌∙◌, inl, inr}
use Rattle.std.specs.List.{filter}
use Rattle.std.proofs.lemmas.Bool.{cases_eq}
use Rattle.vk_memory.specs.MemoryState.{MemoryState}
use Rattle.vk_model.specs.Memory.Allocations.{Allocated, Defragmentation}
use Rattle.vma_defrag.specs.State.{DefragState}
use Rattle.vk_backing.specs.Backed.{Backed}
use Rattle.vk_backing.specs.Allotted.{allotted}
use Rattle.vk_backing.specs.Passing.{Passing, defrag_in, moves_on}
use Rattle.vk_backing.specs.PassAllots.{AreDefragsOf, FulfilsAll, UndefragAllots}
use Rattle.vk_backing.proofs.Keyed.{left_none, left_other}
use Rattle.vk_backing.proofs.BeginAllots.{same_resources, same_named}
use Rattle.vk_backing.proofs.Passing.{open_same}

module _ (b : Backed) (m : MemoryState) (old new : Passing) (id : ℕ) (closed : old.opened ≡ Some id → ⊥) (gone : defrag_in new id ≡ None) (others : (i : ℕ) → (i ≡ id → ⊥) → defrag_in new i ≡ defrag_in old i) (opened : new.opened ≡ old.opened) (moving : new.moving ≡ old.moving) where
  abbrev left : Allocated → List Defragmentation
  left d = filter (λ f. not (f.id == id)) d.defragmentations

  defrags_then : (d : Allocated) → FulfilsAll (allotted b m) old d → (i : ℕ) → AreDefragsOf b i (defrag_in new i) (filter (λ f. f.id == i) (left d))
  defrags_then d is i = elim (cases_eq i id) [
    | inl same ↦ subst (λ (j : ℕ). AreDefragsOf b j (defrag_in new j) (filter (λ f. f.id == j) (left d))) (sym same)
        (subst (λ (x : Option DefragState). AreDefragsOf b id x (filter (λ f. f.id == id) (left d))) (sym gone) (left_none (λ (x : Defragmentation). x.id) id d.defragmentations))
    | inr other ↦ subst (λ (x : Option DefragState). AreDefragsOf b i x (filter (λ f. f.id == i) (left d))) (sym (others i other))
        (subst (λ (l : List Defragmentation). AreDefragsOf b i (defrag_in old i) l) (sym (left_other (λ (x : Defragmentation). x.id) i id d.defragmentations other)) (is.defrags i))
  ]

  pub undefrag_allotted : UndefragAllots (allotted b m) old new id
  undefrag_allotted d is =
      let same_open = open_same old new opened (λ i e. others i (λ is. closed (e ∙ ap (λ (j : ℕ). Some j) is))) in
      record {
        resources = same_resources (allotted b m) d (left d) is.resources;
        moves = λ i n q at by. is.moves i n q at by ∙ sym (same_named old new n moving (ap (λ (x : Option DefragState). moves_on n x) same_open));
        defrags = defrags_then d is;
      }
