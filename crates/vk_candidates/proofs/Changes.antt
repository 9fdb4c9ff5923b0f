-- Lists after a change at a place.
use Rattle.std.proofs.Common.{◌≡◌, ℕ, zero, suc, ◌<◌, ◌≤◌, List, [], ◌∷◌, length, set, refl, ap, arith}
use Rattle.std.specs.Prelude.{insert, remove, slice_index_or}
use Rattle.vk_candidates.specs.Edits.{at_index}

-- past the end there is nothing to change
pub at_index_past : {A : Type 0} (f : A → A) (k : ℕ) (xs : List A) → length xs ≤ k → at_index f k xs ≡ xs
at_index_past f k [] past = refl
at_index_past f zero (x ∷ xs) past = absurd (omega (arith, past))
at_index_past f (suc k) (x ∷ xs) past = ap (λ ys. x ∷ ys) (at_index_past f k xs (omega arith))

-- a write at a place
pub at_index_set : {A : Type 0} (k : ℕ) (y : A) (xs : List A) → set xs k y ≡ at_index (λ _. y) k xs
at_index_set k y [] = refl
at_index_set zero y (x ∷ xs) = refl
at_index_set (suc k) y (x ∷ xs) = ap (λ ys. x ∷ ys) (at_index_set k y xs)

-- an item that is taken out, and what becomes of it put back
put : {A : Type 0} (f : A → A) (k : ℕ) (x : A) (xs : List A) → k < length xs → x ≡ slice_index_or xs k x → insert (remove xs k) k (f x) ≡ at_index f k xs
put f k x [] within is = absurd (omega arith)
put f zero x (y ∷ ys) within is = ap (λ z. f z ∷ ys) is
put f (suc k) x (y ∷ ys) within is = ap (λ zs. y ∷ zs) (put f k x ys (omega arith) is)

pub put_back : {A : Type 0} (f : A → A) (k : ℕ) (x y : A) (xs rest : List A) → k < length xs → x ≡ slice_index_or xs k x → rest ≡ remove xs k → y ≡ f x → insert rest k y ≡ at_index f k xs
put_back f k x y xs rest within is left changed = rw (left, changed) (put f k x xs within is)
