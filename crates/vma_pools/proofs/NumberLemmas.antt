-- Lists of what is numbered, where none stands for what has ended.
use Rattle.std.proofs.Common.{◌≡◌, ℕ, zero, suc, ◌<◌, List, [], ◌∷◌, ◌++◌, length, set, Option, Some, None, refl, sym, ap, ◌∙◌, arith, inl, inr, ◌⊎◌}
use Rattle.std.specs.Prelude.{IsSome, slice_index_or}
use Rattle.std.proofs.lemmas.List.{get_or_default}

-- what is at a number when one more was put behind
pub at-more : {A : Type 0} (xs : List (Option A)) (y : Option A) (p : ℕ) (k : A) → slice_index_or (xs ++ y ∷ []) p None ≡ Some k → (slice_index_or xs p None ≡ Some k) ⊎ ((p ≡ length xs) × (y ≡ Some k))
at-more [] y zero k h = inr (refl, h)
at-more [] y (suc p) k h = absurd cc
at-more (x ∷ xs) y zero k h = inl h
at-more (x ∷ xs) y (suc p) k h = elim (at-more xs y p k h) [ inl old ↦ inl old | inr new ↦ inr (ap suc new.0, new.1) ]

pub at-old : {A : Type 0} (xs : List (Option A)) (y : Option A) (p : ℕ) (k : A) → slice_index_or xs p None ≡ Some k → slice_index_or (xs ++ y ∷ []) p None ≡ Some k
at-old [] y p k h = absurd cc
at-old (x ∷ xs) y zero k h = h
at-old (x ∷ xs) y (suc p) k h = at-old xs y p k h

pub at-new : {A : Type 0} (xs : List (Option A)) (y : Option A) → slice_index_or (xs ++ y ∷ []) (length xs) None ≡ y
at-new [] y = refl
at-new (x ∷ xs) y = at-new xs y

-- a number of something is below the length
pub at-below : {A : Type 0} (xs : List (Option A)) (p : ℕ) (k : A) → slice_index_or xs p None ≡ Some k → p < length xs
at-below [] p k h = absurd cc
at-below (x ∷ xs) zero k h = omega arith
at-below (x ∷ xs) (suc p) k h = let l = at-below xs p k h in omega (arith, l)

-- what is at a number when another one was changed, and when it was
pub at-set : {A : Type 0} (xs : List (Option A)) (i : ℕ) (v : Option A) → i < length xs → slice_index_or (set xs i v) i None ≡ v
at-set [] i v lt = absurd (omega (arith, lt))
at-set (x ∷ xs) zero v lt = refl
at-set (x ∷ xs) (suc i) v lt = at-set xs i v (omega (arith, lt))

pub at-other : {A : Type 0} (xs : List (Option A)) (i p : ℕ) (v : Option A) → (p ≡ i → ⊥) → slice_index_or (set xs i v) p None ≡ slice_index_or xs p None
at-other [] zero p v other = refl
at-other [] (suc i) p v other = refl
at-other (x ∷ xs) zero zero v other = absurd (other refl)
at-other (x ∷ xs) zero (suc p) v other = refl
at-other (x ∷ xs) (suc i) zero v other = refl
at-other (x ∷ xs) (suc i) (suc p) v other = at-other xs i p v (λ e. other (ap suc e))

-- what is found at a number that is one of the list's
pub found-at : {A : Type 0} (xs : List (Option A)) (p : ℕ) (o : Option A) (x : A) → p < length xs → o ≡ slice_index_or xs p o → o ≡ Some x → slice_index_or xs p None ≡ Some x
found-at xs p o x lt is some = get_or_default xs p None o lt ∙ sym is ∙ some

pub some-below : {A : Type 0} (xs : List (Option A)) (p : ℕ) → IsSome (slice_index_or xs p None) → p < length xs
some-below xs p h = go xs (slice_index_or xs p None) refl h
  where
    go : {A : Type 0} (xs : List (Option A)) (o : Option A) → slice_index_or xs p None ≡ o → IsSome o → p < length xs
    go xs None e h = absurd cc
    go xs (Some a) e h = at-below xs p a e
