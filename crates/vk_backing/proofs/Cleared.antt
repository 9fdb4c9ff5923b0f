-- Memory objects, without those that went one by one from a list of them.
use Rattle.std.proofs.Common.{◌≡◌, ℕ, zero, suc, ◌+◌, ◌*◌, ◌<◌, List, [], ◌∷◌, ◌++◌, map, set, take, drop, length, get_or, Option, Some, None, refl, sym, ap, subst, ◌∙◌, arith, inl, inr}
use Rattle.std.specs.Prelude.{Contains, slice_index_or, sum_by, ⊤}
use Rattle.std.proofs.Math.Nat.{suc-mul}
use Rattle.std.proofs.lemmas.List.{length-map, map-set, get_or-map, same_lists, get_or_default}
use Rattle.std.proofs.lemmas.List.Sums.{sum_by-set}
use Rattle.vk_memory.specs.declared.memories.Object.{Object}
use Rattle.vk_memory.specs.MemoryState.{MemoryState, object_at, with_object}
use Rattle.vk_model.proofs.Lists.Members.{contains-cons, contains-head, contains-tail}
use Rattle.vma_pools.specs.Pools.{Kept, Loses}
use Rattle.vma_pools.specs.State.{LosesBlock}
use Rattle.vma_pools.proofs.NumberLemmas.{at-below, at-other}
use Rattle.vma_defrag.specs.Bytes.{AreAlikeObjects, KeepsObjects}
use Rattle.vma_defrag.specs.Ends.{listed, freed}
use Rattle.vk_backing.specs.Allotted.{kind_of}
use Rattle.vk_backing.proofs.Freed.{cut_less}

-- ---- numbers that are left out, one by one

abbrev pub Shrinks : List ℕ → List ℕ → List ℕ → Type 0
Shrinks ms [] ns = ns ≡ ms
Shrinks ms (g ∷ gone) ns = (mid : List ℕ) × Loses ms mid g × Shrinks mid gone ns

pub shrinks_more : (xs ys : List ℕ) (ms mid ns : List ℕ) → Shrinks ms xs mid → Shrinks mid ys ns → Shrinks ms (xs ++ ys) ns
shrinks_more [] ys ms mid ns first rest = subst (λ (l : List ℕ). Shrinks l ys ns) first rest
shrinks_more (x ∷ xs) ys ms mid ns first rest = (first.0, first.1, shrinks_more xs ys first.0 mid ns first.2 rest)

pub shrinks_one : (one : Option ℕ) (was now : Kept) → LosesBlock one was now → Shrinks was.memories (listed one) now.memories
shrinks_one None was now same = same
shrinks_one (Some n) was now loses = (now.memories, loses, refl)

-- numbers that differ
abbrev pub Once : List ℕ → Type 0
Once [] = ⊤
Once (x ∷ xs) = (Contains xs x → ⊥) × Once xs

pub once_by : (xs : List ℕ) → ((i j : ℕ) → i < length xs → j < length xs → get_or xs i 0 ≡ get_or xs j 0 → i ≡ j) → Once xs
once_by [] apart = tt
once_by (x ∷ xs) apart = (
  λ in_rest.
      let e = apart 0 (suc in_rest.0) (omega arith) (omega (arith, in_rest.1)) (sym in_rest.2 ∙ get_or_default xs in_rest.0 x 0 in_rest.1) in omega (arith, e),
  once_by xs (λ i j lt less same. let e = apart (suc i) (suc j) (omega (arith, lt)) (omega (arith, less)) same in omega (arith, e)),
)

-- what is left was there, and differs from what went
abbrev cut : List ℕ → ℕ → List ℕ
cut xs i = take i xs ++ drop (suc i) xs

in_cut : (xs : List ℕ) (i : ℕ) → i < length xs → Once xs → Once (cut xs i) × ((y : ℕ) → Contains (cut xs i) y → Contains xs y × (y ≡ get_or xs i 0 → ⊥))
in_cut [] i lt once = absurd (omega (arith, lt))
in_cut (x ∷ xs) zero lt once = (once.1, λ y there. (contains-tail x xs y there, λ e. once.0 (subst (λ (z : ℕ). Contains xs z) e there)))
in_cut (x ∷ xs) (suc i) lt once =
    let rest = in_cut xs i (omega (arith, lt)) once.1 in
    let at : Contains xs (get_or xs i 0) = (i, omega (arith, lt), get_or_default xs i (get_or xs i 0) 0 (omega (arith, lt))) in (
      ((λ there. once.0 (rest.1 x there).0), rest.0),
      λ y there. elim (contains-cons x (cut xs i) y there) [
        | inl e ↦ (subst (λ (z : ℕ). Contains (x ∷ xs) z) e (contains-head x xs), λ is. once.0 (subst (λ (z : ℕ). Contains xs z) (sym (e ∙ is)) at))
        | inr later ↦ (contains-tail x xs y (rest.1 y later).0, (rest.1 y later).1)
      ],
    )

-- ---- their kinds

abbrev Kinds : Type 0
Kinds = List (Option (ℕ × ℕ))

-- without those of some numbers
abbrev pub cleared : Kinds → List ℕ → Kinds
cleared ks [] = ks
cleared ks (g ∷ gone) = cleared (set ks g None) gone

pub freed_cleared : (gone : List ℕ) (m : MemoryState) → map kind_of (freed m gone).objects ≡ cleared (map kind_of m.objects) gone
freed_cleared [] m = refl
freed_cleared (g ∷ gone) m = freed_cleared gone (with_object m g None) ∙ ap (λ (ks : Kinds). cleared ks gone) (map-set kind_of m.objects g None)

pub freed_sizes : (gone : List ℕ) (m : MemoryState) → (freed m gone).sizes ≡ m.sizes
freed_sizes [] m = refl
freed_sizes (g ∷ gone) m = freed_sizes gone (with_object m g None)

-- memory objects that keep all but their bytes are of the same kinds
pub kept_kinds : (m n : MemoryState) → KeepsObjects m n → map kind_of n.objects ≡ map kind_of m.objects
kept_kinds m n keeps =
    same_lists (map kind_of n.objects) (map kind_of m.objects) (length-map n.objects kind_of ∙ keeps.count ∙ sym (length-map m.objects kind_of))
    (λ k d lt.
    let low : k < length n.objects = omega (arith, lt, length-map n.objects kind_of) in
    get_or-map kind_of n.objects k None d low ∙ same (object_at m k) (object_at n k) (keeps.each k) ∙ sym (get_or-map kind_of m.objects k None d (omega (arith, low, keeps.count))))
  where
    same : (o p : Option Object) → AreAlikeObjects o p → kind_of p ≡ kind_of o
    same None None alike = refl
    same (Some o) (Some p) alike = ap (λ (t : ℕ). Some (t, p.size)) alike.0 ∙ ap (λ (n : ℕ). Some (o.memory_type, n)) alike.1
    same None (Some p) alike = absurd alike
    same (Some o) None alike = absurd alike

-- ---- sums over them

module _ (kind : ℕ × ℕ) where
  -- the memory objects of some numbers, which differ, are of one kind
  pub record AreOfKind (ks : Kinds) (ms : List ℕ) : Type 0 where
    pub each : (y : ℕ) → Contains ms y → slice_index_or ks y None ≡ Some kind
    pub once : Once ms

  pub record AreCleared (ks : Kinds) (ms gone ns : List ℕ) : Type 0 where
    pub sum : (f : Option (ℕ × ℕ) → ℕ) → f None ≡ 0 → sum_by f (cleared ks gone) + length gone * f (Some kind) ≡ sum_by f ks
    pub count : length ms ≡ length ns + length gone
    pub rest : (y : ℕ) → (Contains ms y → ⊥) → slice_index_or (cleared ks gone) y None ≡ slice_index_or ks y None

  pub all_cleared : (gone : List ℕ) (ks : Kinds) (ms ns : List ℕ) → AreOfKind ks ms → Shrinks ms gone ns → AreCleared ks ms gone ns
  all_cleared [] ks ms ns are e = record { sum = λ f zero. omega arith; count = (let l = ap (λ (l : List ℕ). length l) e in omega (arith, l)); rest = λ y away. refl }
  all_cleared (g ∷ gone) ks ms ns are (mid, loses, shrinks) =
      let next : loses.index + 1 ≡ suc loses.index = omega arith in
      let left : mid ≡ cut ms loses.index = loses.left ∙ ap (λ (j : ℕ). take loses.index ms ++ drop j ms) next in
      let c = in_cut ms loses.index loses.there are.once in
      let at_g : Contains ms g = (loses.index, loses.there, get_or_default ms loses.index g 0 loses.there ∙ loses.is) in
      let was = λ (y : ℕ) (there : Contains mid y). c.1 y (subst (λ (l : List ℕ). Contains l y) left there) in
      let now : AreOfKind (set ks g None) mid = record {
        each = λ y there. at-other ks g y None (λ e. (was y there).1 (e ∙ sym loses.is)) ∙ are.each y (was y there).0;
        once = subst Once (sym left) c.0;
      } in
      let more = all_cleared gone (set ks g None) mid ns now shrinks in
      let here = are.each g at_g in
      record {
        sum = λ f zero.
            let s = sum_by-set f ks g None None (at-below ks g kind here) in
            let e = ap f here in
            let r = more.sum f zero in
            let m = suc-mul (length gone) (f (Some kind)) in
            omega (arith, s, e, r, m, zero);
        count = (let l = ap (λ (l : List ℕ). length l) left in let x = cut_less ms loses.index loses.there in omega (arith, l, x, more.count));
        rest = λ y away. more.rest y (λ there. away (was y there).0) ∙ at-other ks g y None (λ e. away (subst (λ (z : ℕ). Contains ms z) (sym e) at_g));
      }
