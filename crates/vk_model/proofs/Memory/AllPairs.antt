-- A relation of each item of a list and each later one: of the first item, of the rest, and in any order.
use Rattle.std.proofs.Common.{◌≡◌, ℕ, suc, ◌<◌, List, ◌∷◌, length, get_or, refl, ap, sym, ◌∙◌, arith, inl, inr, ◌⊎◌}
use Rattle.std.specs.Prelude.{All, AllPairs, IsPermutation}
use Rattle.std.specs.List.{swap}
use Rattle.std.proofs.lemmas.List.Sorted.{IsPermutation-keeps}
use Rattle.std.proofs.lemmas.List.Edits.{swapped_from_swap, length-swap}
use Rattle.std.proofs.lemmas.List.Elements.{All-from_get_or}
use Rattle.std.proofs.lemmas.Bool.{cases_eq, cases_lt}

-- ---- the first item and the rest

pub pairs_first : {A : Type 0} (R : A → A → Type 0) (x : A) (xs : List A) → AllPairs R (x ∷ xs) → All (R x) xs
pairs_first R x xs pairs = All-from_get_or (R x) xs x (λ i there. pairs 0 (suc i) x (omega arith) (omega arith))

pub pairs_rest : {A : Type 0} (R : A → A → Type 0) (x : A) (xs : List A) → AllPairs R (x ∷ xs) → AllPairs R xs
pairs_rest R x xs pairs = λ i j d less there. pairs (suc i) (suc j) d (omega arith) (omega arith)

-- ---- in any order

-- the place that an item had before those at i and j changed places
module _ (i j : ℕ) where
  abbrev Was : ℕ → ℕ → Type 0
  Was now before = ((now ≡ i) × (before ≡ j)) ⊎ ((now ≡ j) × (before ≡ i)) ⊎ ((now ≡ i → ⊥) × (now ≡ j → ⊥) × (before ≡ now))

  were_apart : (a b k l : ℕ) → Was a k → Was b l → (a ≡ b → ⊥) → k ≡ l → ⊥
  were_apart a b k l was were apart same = elim was [
    | inl p ↦ elim were [ inl q ↦ apart (p.0 ∙ sym q.0) | inr q ↦ elim q [ inl u ↦ apart (omega arith) | inr u ↦ u.1 (omega arith) ] ]
    | inr p ↦ elim p [
      | inl r ↦ elim were [ inl q ↦ apart (omega arith) | inr q ↦ elim q [ inl u ↦ apart (omega arith) | inr u ↦ u.0 (omega arith) ] ]
      | inr r ↦ elim were [ inl q ↦ r.1 (omega arith) | inr q ↦ elim q [ inl u ↦ r.0 (omega arith) | inr u ↦ apart (omega arith) ] ]
    ]
  ]

module _ {A : Type 0} (R : A → A → Type 0) (turn : (x y : A) → R x y → R y x) where
  each_two : (xs : List A) (i j : ℕ) (d : A) → AllPairs R xs → (i ≡ j → ⊥) → i < length xs → j < length xs → R (get_or xs i d) (get_or xs j d)
  each_two xs i j d pairs apart li lj = elim (cases_lt i j) [
    | inl less ↦ pairs i j d less lj
    | inr more ↦ turn (get_or xs j d) (get_or xs i d) (pairs j i d (omega (arith, apart)) li)
  ]

  module _ (xs : List A) (i j : ℕ) (d : A) (li : i < length xs) (lj : j < length xs) where
    abbrev Before : ℕ → Type 0
    Before now = (k : ℕ) × (k < length xs) × (get_or (swap xs i j) now d ≡ get_or xs k d) × Was i j now k

    before : (now : ℕ) → now < length xs → Before now
    before now there =
        let s = swapped_from_swap xs (swap xs i j) i j d li lj refl in
        elim (cases_eq now i) [
          | inl e ↦ (j, lj, ap (λ k. get_or (swap xs i j) k d) e ∙ s.0, inl (e, refl))
          | inr not_i ↦ elim (cases_eq now j) [
            | inl e ↦ (i, li, ap (λ k. get_or (swap xs i j) k d) e ∙ s.1, inr (inl (e, refl)))
            | inr not_j ↦ (now, there, s.2 now not_i not_j, inr (inr (not_i, not_j, refl)))
          ]
        ]

  swapped_pairs : (xs : List A) (i j : ℕ) → i < length xs → j < length xs → AllPairs R xs → AllPairs R (swap xs i j)
  swapped_pairs xs i j li lj pairs = λ a b d less there.
      let within : b < length xs = omega (arith, length-swap xs i j) in
      let one = before xs i j d li lj a (omega arith) in
      let two = before xs i j d li lj b within in
      let apart : one.0 ≡ two.0 → ⊥ = were_apart i j a b one.0 two.0 one.3 two.3 (λ e. omega arith) in
      rw (one.2, two.2) (each_two xs one.0 two.0 d pairs apart one.1 two.1)

  pub pairs_permuted : (xs ys : List A) → IsPermutation xs ys → AllPairs R xs → AllPairs R ys
  pairs_permuted xs ys same pairs = IsPermutation-keeps xs (AllPairs R) pairs swapped_pairs ys same
