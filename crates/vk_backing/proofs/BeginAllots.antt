-- What is allocated when a defragmentation has begun.
use Rattle.std.proofs.Common.{◌≡◌, ℕ, List, [], ◌∷◌, ◌++◌, ◌==◌, Option, Some, None, refl, sym, ap, subst, ◌∙◌, inl, inr}
use Rattle.std.specs.Prelude.{IsSome}
use Rattle.std.specs.List.{filter}
use Rattle.std.proofs.lemmas.Bool.{cases_eq}
use Rattle.vk_memory.specs.MemoryState.{MemoryState}
use Rattle.vk_model.specs.Memory.MoveTargets.{Moved}
use Rattle.vk_model.specs.Memory.Allocations.{Allocated, Defragmentation}
use Rattle.vma_defrag.specs.State.{DefragState}
use Rattle.vk_backing.specs.Backed.{Backed}
use Rattle.vk_backing.specs.Allotted.{Allotted, allotted, Fulfils}
use Rattle.vk_backing.specs.Passing.{Passing, ArePassing, defrag_in, open_defrag, moves_on, moves_in_pool, named_in}
use Rattle.vk_backing.specs.PassSteps.{Begins}
use Rattle.vk_backing.specs.PassAllots.{AreDefragsOf, DefragAllots, FulfilsAll}
use Rattle.vk_backing.proofs.Keyed.{push_here, push_other}
use Rattle.vk_backing.proofs.Passing.{open_same}

-- ---- what doesn't touch memory objects and pools

-- other defragmentations of a device are no matter of its resources
pub same_resources : (a : Allotted) (d : Allocated) (fs : List Defragmentation) → Fulfils a d → Fulfils a (record d { defragmentations = fs })
same_resources a d fs is = record { sizes = is.sizes; used = is.used; count = is.count; objects = is.objects; pools = is.pools }

-- the same moves, by the ids of the same resources
pub same_named : (old new : Passing) (n : ℕ) → new.moving ≡ old.moving → moves_in_pool new n ≡ moves_in_pool old n → named_in new.moving (moves_in_pool new n) ≡ named_in old.moving (moves_in_pool old n)
same_named old new n moving moves = ap (λ (is : List ℕ). named_in is (moves_in_pool new n)) moving ∙ ap (λ (ms : List Moved). named_in old.moving ms) moves

-- ---- one more

module _ (b : Backed) (m : MemoryState) (old new : Passing) (always : ArePassing old b) (id pool max_bytes max_moves : ℕ) (absent : defrag_in old id ≡ None) (begun : Begins old new b id pool max_bytes max_moves) where
  same_open : open_defrag new ≡ open_defrag old
  same_open = open_same old new begun.opened (λ i e. begun.others i (λ is. clash i is (always.opened i e)))
    where
      clash : (i : ℕ) → i ≡ id → (x : DefragState) × (defrag_in old i ≡ Some x) × IsSome x.current → ⊥
      clash i is x = let e = sym absent ∙ ap (λ (j : ℕ). defrag_in old j) (sym is) ∙ x.1 in cc

  abbrev f : Defragmentation
  f = record { id = id; pool = pool; max_bytes = max_bytes; max_moves = max_moves }

  defrags_then : (d : Allocated) → FulfilsAll (allotted b m) old d → (i : ℕ) → AreDefragsOf b i (defrag_in new i) (filter (λ f. f.id == i) (d.defragmentations ++ f ∷ []))
  defrags_then d is i = elim (cases_eq i id) [
    | inl same ↦ subst (λ (j : ℕ). AreDefragsOf b j (defrag_in new j) (filter (λ f. f.id == j) (d.defragmentations ++ f ∷ []))) (sym same)
        (subst (λ (x : Option DefragState). AreDefragsOf b id x (filter (λ f. f.id == id) (d.defragmentations ++ f ∷ []))) (sym begun.here) (
          pool,
          begun.named,
          push_here (λ (x : Defragmentation). x.id) id d.defragmentations f refl
              ∙ ap (λ (l : List Defragmentation). l ++ f ∷ []) (subst (λ (x : Option DefragState). AreDefragsOf b id x (filter (λ f. f.id == id) d.defragmentations)) absent (is.defrags id)),
        ))
    | inr other ↦ subst (λ (x : Option DefragState). AreDefragsOf b i x (filter (λ f. f.id == i) (d.defragmentations ++ f ∷ []))) (sym (begun.others i other))
        (subst (λ (l : List Defragmentation). AreDefragsOf b i (defrag_in old i) l) (sym (push_other (λ (x : Defragmentation). x.id) i d.defragmentations f (λ e. other (sym e)))) (is.defrags i))
  ]

  pub begin_allotted : DefragAllots (allotted b m) old new id pool max_bytes max_moves
  begin_allotted d is = record {
    resources = same_resources (allotted b m) d (d.defragmentations ++ f ∷ []) is.resources;
    moves = λ i n q at by. is.moves i n q at by ∙ sym (same_named old new n begun.moving (ap (λ (x : Option DefragState). moves_on n x) same_open));
    defrags = defrags_then d is;
  }
