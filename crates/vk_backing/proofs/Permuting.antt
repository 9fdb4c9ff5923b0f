-- Lists that have the same items of each key are in some order of each other.
use Rattle.std.proofs.Common.{◌≡◌, ℕ, zero, suc, ◌≤◌, List, [], ◌∷◌, ◌++◌, length, not, ◌==◌, refl, sym, ap, subst, ◌∙◌, arith, inl, inr}
use Rattle.std.specs.Prelude.{IsPermutation}
use Rattle.std.proofs.lemmas.Bool.{cases_eq}
use Rattle.std.proofs.lemmas.List.Filters.{length-filter_both}
use Rattle.std.proofs.lemmas.List.Sorted.{IsPermutation-refl, IsPermutation-sym, IsPermutation-trans, IsPermutation-append, IsPermutation-filter_both}
use Rattle.vk_backing.proofs.Keyed.{picked, left, picked_in, left_none, left_other}

module _ {A : Type 0} (key : A → ℕ) where
  none_picked : (ys : List A) → ((k : ℕ) → picked key k ys ≡ []) → ys ≡ []
  none_picked [] none = refl
  none_picked (y ∷ ys) none = absurd (let e = sym (picked_in key (key y) y ys refl) ∙ none (key y) in cc)

  fewer : (x : A) (xs : List A) → length (left key (key x) (x ∷ xs)) ≤ length xs
  fewer x xs =
      let both = length-filter_both (λ (y : A). key y == key x) (λ (y : A). not (key y == key x)) (λ y. refl) (x ∷ xs) in
      let some = ap (λ (l : List A). length l) (picked_in key (key x) x xs refl) in
      omega (arith, both, some)

  by_length : (n : ℕ) (xs ys : List A) → length xs ≤ n → ((k : ℕ) → picked key k xs ≡ picked key k ys) → IsPermutation xs ys
  by_length n [] ys le same = subst (λ (l : List A). IsPermutation [] l) (sym (none_picked ys (λ k. sym (same k)))) (IsPermutation-refl [])
  by_length zero (x ∷ xs) ys le same = absurd (omega (arith, le))
  by_length (suc n) (x ∷ xs) ys le same =
      let r = key x in
      let few = fewer x xs in
      let rest = by_length n (left key r (x ∷ xs)) (left key r ys) (omega (arith, le, few)) (λ k. elim (cases_eq k r) [
        | inl e ↦ subst (λ (j : ℕ). picked key j (left key r (x ∷ xs)) ≡ picked key j (left key r ys)) (sym e) (left_none key r (x ∷ xs) ∙ sym (left_none key r ys))
        | inr other ↦ left_other key k r (x ∷ xs) other ∙ same k ∙ sym (left_other key k r ys other)
      ]) in
      let first : IsPermutation (picked key r (x ∷ xs)) (picked key r ys) = subst (λ (l : List A). IsPermutation (picked key r (x ∷ xs)) l) (same r) (IsPermutation-refl (picked key r (x ∷ xs))) in
      IsPermutation-trans (x ∷ xs) (picked key r (x ∷ xs) ++ left key r (x ∷ xs)) ys
      (IsPermutation-filter_both (λ (y : A). key y == r) (λ (y : A). not (key y == r)) (λ y. refl) (x ∷ xs))
      (IsPermutation-trans (picked key r (x ∷ xs) ++ left key r (x ∷ xs)) (picked key r ys ++ left key r ys) ys
      (IsPermutation-append (picked key r (x ∷ xs)) (picked key r ys) (left key r (x ∷ xs)) (left key r ys) first rest)
      (IsPermutation-sym ys (picked key r ys ++ left key r ys) (IsPermutation-filter_both (λ (y : A). key y == r) (λ (y : A). not (key y == r)) (λ y. refl) ys)))

  pub are_permuted : (xs ys : List A) → ((k : ℕ) → picked key k xs ≡ picked key k ys) → IsPermutation xs ys
  are_permuted xs ys same = by_length (length xs) xs ys (omega arith) same
