-- Memory objects, without one of them.
use Rattle.std.proofs.Common.{◌≡◌, ℕ, zero, suc, ◌+◌, ◌<◌, List, [], ◌∷◌, ◌++◌, map, set, take, drop, length, get_or, Option, Some, None, refl, sym, ap, ◌∙◌, arith, inl, inr}
use Rattle.std.specs.Prelude.{slice_index_or, sum_by}
use Rattle.std.proofs.lemmas.Bool.{cases_eq}
use Rattle.std.proofs.lemmas.List.{length-map, map-set, get_or-map}
use Rattle.std.proofs.lemmas.List.Sums.{sum_by-set}
use Rattle.vk_memory.specs.declared.memories.Object.{Object}
use Rattle.vk_memory.specs.MemoryState.{MemoryState, IsLive, object_at, with_object, bytes_of, type_in}
use Rattle.vma_pools.specs.State.{IsObject}
use Rattle.vma_pools.proofs.NumberLemmas.{at-set, at-other}
use Rattle.vk_backing.specs.Backed.{AreSized}
use Rattle.vk_backing.specs.Allotted.{kind_of}
use Rattle.vk_backing.proofs.Grown.{some_there, there_some}
use Rattle.vk_memory.proofs.LiveObjects.{live_below}

module _ (m : MemoryState) (n : ℕ) (live : IsLive m n) where
  abbrev pub freed : MemoryState
  freed = with_object m n None

  freed_none : object_at freed n ≡ None
  freed_none = at-set m.objects n None (live_below m n live)

  pub freed_other : (k : ℕ) → (k ≡ n → ⊥) → object_at freed k ≡ object_at m k
  freed_other k other = at-other m.objects n k None other

  pub freed_was : (k : ℕ) (o : Object) → object_at freed k ≡ Some o → object_at m k ≡ Some o
  freed_was k o at = elim (cases_eq k n) [
    | inl is ↦ absurd (let e = sym freed_none ∙ ap (λ (j : ℕ). object_at freed j) (sym is) ∙ at in cc)
    | inr other ↦ sym (freed_other k other) ∙ at
  ]

  pub freed_sized : AreSized m → AreSized freed
  freed_sized sized k o at = sized k o (freed_was k o at)

  pub freed_live : (k : ℕ) → (k ≡ n → ⊥) → IsLive m k → IsLive freed k
  freed_live k other is = let o = some_there (object_at m k) is in there_some (object_at freed k) o.0 (freed_other k other ∙ o.1)

  -- ---- their kinds

  pub freed_kinds : map kind_of freed.objects ≡ set (map kind_of m.objects) n None
  freed_kinds = map-set kind_of m.objects n None

  pub kind_kept : (k : ℕ) → (k ≡ n → ⊥) → slice_index_or (map kind_of freed.objects) k None ≡ slice_index_or (map kind_of m.objects) k None
  kind_kept k other = ap (λ (l : List (Option (ℕ × ℕ))). slice_index_or l k None) freed_kinds ∙ at-other (map kind_of m.objects) n k None other

  pub kind_here : (o : Object) → object_at m n ≡ Some o → slice_index_or (map kind_of m.objects) n None ≡ Some (o.memory_type, o.size)
  kind_here o at = get_or-map kind_of m.objects n None None (live_below m n live) ∙ ap kind_of at

  -- what is summed over them is less by it
  pub freed_sum : (f : Option (ℕ × ℕ) → ℕ) → f None ≡ 0 → (o : Object) → object_at m n ≡ Some o → sum_by f (map kind_of freed.objects) + f (Some (o.memory_type, o.size)) ≡ sum_by f (map kind_of m.objects)
  freed_sum f none o at =
      let s = sum_by-set f (map kind_of m.objects) n None None (let l = live_below m n live in omega (arith, l, length-map m.objects kind_of)) in
      let k = ap (λ (l : List (Option (ℕ × ℕ))). sum_by f l) freed_kinds in
      let e = ap f (kind_here o at) in omega (arith, s, k, e, none)

-- an object is of the kind that it is said to be
pub object_kind : (m : MemoryState) → AreSized m → (n t size : ℕ) → IsObject m n t size → (o : Object) → object_at m n ≡ Some o → ◌≡◌ {A = Option (ℕ × ℕ)} (Some (o.memory_type, o.size)) (Some (t, size))
object_kind m sized n t size is o at =
    let s : o.size ≡ size = sym (sized n o at) ∙ sym (ap (λ (x : Option Object). length (bytes_of x)) at) ∙ is.bytes in
    let k : o.memory_type ≡ t = sym (ap type_in at) ∙ is.kind in
    ap (λ (x : ℕ). Some (x, o.size)) k ∙ ap (λ (x : ℕ). Some (t, x)) s

-- ---- lists without one of their items

-- one less
pub cut_less : {A : Type 0} (xs : List A) (i : ℕ) → i < length xs → length (take i xs ++ drop (suc i) xs) + 1 ≡ length xs
cut_less [] i lt = absurd (omega (arith, lt))
cut_less (x ∷ xs) zero lt = omega arith
cut_less (x ∷ xs) (suc i) lt = let r = cut_less xs i (omega (arith, lt)) in omega (arith, r)

-- what is left was there
pub in_cut : (xs : List ℕ) (i j : ℕ) → j < length (take i xs ++ drop (suc i) xs) → (k : ℕ) × (k < length xs) × (get_or xs k 0 ≡ get_or (take i xs ++ drop (suc i) xs) j 0)
in_cut [] zero j lt = absurd (omega (arith, lt))
in_cut [] (suc i) j lt = absurd (omega (arith, lt))
in_cut (x ∷ xs) zero j lt = (suc j, omega (arith, lt), refl)
in_cut (x ∷ xs) (suc i) zero lt = (0, omega arith, refl)
in_cut (x ∷ xs) (suc i) (suc j) lt = let r = in_cut xs i j (omega (arith, lt)) in (suc r.0, omega (arith, r.1), r.2)
