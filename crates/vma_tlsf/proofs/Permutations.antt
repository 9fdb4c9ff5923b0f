-- What passes a test, of a list in another order.
use Rattle.std.proofs.Common.{ℕ, zero, suc, ◌<◌, List, [], ◌∷◌, length, get_or, set, Bool, true, false, cond, subst, arith}
use Rattle.std.specs.Prelude.{IsPermutation}
use Rattle.std.specs.List.{filter, swap}
use Rattle.std.proofs.lemmas.List.Sorted.{IsPermutation-refl, IsPermutation-cons, IsPermutation-trans, IsPermutation-middle, IsPermutation-keeps}
use Rattle.std.proofs.lemmas.List.Edits.{swap_is}

module _ {X : Type 0} (p : X → Bool) where
  abbrev Alike : List X → List X → Type 0
  Alike xs ys = IsPermutation (filter p xs) (filter p ys)

  alike_more : (x : X) (xs ys : List X) → Alike xs ys → Alike (x ∷ xs) (x ∷ ys)
  alike_more x xs ys same = go (p x)
    where
      go : (b : Bool) → IsPermutation (cond b (x ∷ filter p xs) (filter p xs)) (cond b (x ∷ filter p ys) (filter p ys))
      go true = IsPermutation-cons x (filter p xs) (filter p ys) same
      go false = same

  alike_turned : (x y : X) (zs : List X) → Alike (x ∷ y ∷ zs) (y ∷ x ∷ zs)
  alike_turned x y zs = go (p x) (p y)
    where
      go : (b c : Bool) → IsPermutation (cond b (x ∷ cond c (y ∷ filter p zs) (filter p zs)) (cond c (y ∷ filter p zs) (filter p zs))) (cond c (y ∷ cond b (x ∷ filter p zs) (filter p zs)) (cond b (x ∷ filter p zs) (filter p zs)))
      go true true = IsPermutation-middle (x ∷ []) y (filter p zs)
      go true false = IsPermutation-refl (x ∷ filter p zs)
      go false true = IsPermutation-refl (y ∷ filter p zs)
      go false false = IsPermutation-refl (filter p zs)

  alike_on : (xs ys zs : List X) → Alike xs ys → Alike ys zs → Alike xs zs
  alike_on xs ys zs one two = IsPermutation-trans (filter p xs) (filter p ys) (filter p zs) one two

  -- an item in front and one of the list change places
  alike_set : (x : X) (xs : List X) (k : ℕ) (d : X) → k < length xs → Alike (x ∷ xs) (get_or xs k d ∷ set xs k x)
  alike_set x [] k d there = absurd (omega arith)
  alike_set x (y ∷ ys) zero d there = alike_turned x y ys
  alike_set x (y ∷ ys) (suc k) d there =
      let z = get_or ys k d in
      alike_on (x ∷ y ∷ ys) (y ∷ x ∷ ys) (z ∷ y ∷ set ys k x) (alike_turned x y ys)
      (alike_on (y ∷ x ∷ ys) (y ∷ z ∷ set ys k x) (z ∷ y ∷ set ys k x) (alike_more y (x ∷ ys) (z ∷ set ys k x) (alike_set x ys k d (omega arith))) (alike_turned y z (set ys k x)))

  alike_sets : (xs : List X) (i j : ℕ) (d : X) → i < length xs → j < length xs → Alike xs (set (set xs i (get_or xs j d)) j (get_or xs i d))
  alike_sets [] i j d li lj = absurd (omega arith)
  alike_sets (x ∷ xs) zero zero d li lj = IsPermutation-refl (filter p (x ∷ xs))
  alike_sets (x ∷ xs) zero (suc j) d li lj = alike_set x xs j d (omega arith)
  alike_sets (x ∷ xs) (suc i) zero d li lj = alike_set x xs i d (omega arith)
  alike_sets (x ∷ xs) (suc i) (suc j) d li lj = alike_more x xs (set (set xs i (get_or xs j d)) j (get_or xs i d)) (alike_sets xs i j d (omega arith) (omega arith))

  swapped : (ys xs : List X) (i j : ℕ) → i < length xs → j < length xs → Alike ys xs → Alike ys (swap xs i j)
  swapped ys [] i j li lj same = absurd (omega arith)
  swapped ys (x ∷ xs) i j li lj same =
      subst (Alike ys) (swap_is (x ∷ xs) i j x li lj)
      (alike_on ys (x ∷ xs) (set (set (x ∷ xs) i (get_or (x ∷ xs) j x)) j (get_or (x ∷ xs) i x)) same (alike_sets (x ∷ xs) i j x li lj))

  pub IsPermutation-filter : (xs ys : List X) → IsPermutation xs ys → IsPermutation (filter p xs) (filter p ys)
  IsPermutation-filter xs ys moved = IsPermutation-keeps xs (Alike xs) (IsPermutation-refl (filter p xs)) (swapped xs) ys moved
