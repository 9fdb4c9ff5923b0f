-- Lists: what is at an index, and what tests leave.
use Rattle.std.proofs.Common.{◌≡◌, ◌≢◌, ◌⊎◌, inl, inr, ℕ, zero, suc, List, [], ◌∷◌, set, Bool, true, false, cond, refl, ap, sym, arith, Some, slice_get}
use Rattle.std.specs.Prelude.{Contains}
use Rattle.std.specs.List.{filter, list_all}
use Rattle.std.proofs.lemmas.Bool.{and_parts, and_from}
use Rattle.vk_model.proofs.Lists.Members.{contains-head, contains-tail}

-- ---- what is at an index

-- an item there, where one is replaced
pub set_cases : {X : Type 0} (xs : List X) (k j : ℕ) (x y : X) → slice_get (set xs k x) j ≡ Some y → ((j ≡ k) × (y ≡ x)) ⊎ ((j ≢ k) × (slice_get xs j ≡ Some y))
set_cases [] k j x y e = absurd cc
set_cases (z ∷ zs) zero zero x y e = inl (refl, let same : x ≡ y = cc in sym same)
set_cases (z ∷ zs) zero (suc j) x y e = inr (λ same. let bad : suc j ≡ 0 = same in omega arith, e)
set_cases (z ∷ zs) (suc k) zero x y e = inr (λ same. let bad : 0 ≡ suc k = same in omega arith, e)
set_cases (z ∷ zs) (suc k) (suc j) x y e = elim (set_cases zs k j x y e) [
  | inl here ↦ inl (ap suc here.0, here.1)
  | inr there ↦ inr (λ same. there.0 (let s : suc j ≡ suc k = same in omega arith), there.1)
]

pub set_here : {X : Type 0} (xs : List X) (k : ℕ) (x y : X) → slice_get xs k ≡ Some y → slice_get (set xs k x) k ≡ Some x
set_here [] k x y e = absurd cc
set_here (z ∷ zs) zero x y e = refl
set_here (z ∷ zs) (suc k) x y e = set_here zs k x y e

pub set_there : {X : Type 0} (xs : List X) (k j : ℕ) (x y : X) → j ≢ k → slice_get xs j ≡ Some y → slice_get (set xs k x) j ≡ Some y
set_there [] k j x y ne e = e
set_there (z ∷ zs) zero zero x y ne e = absurd (ne refl)
set_there (z ∷ zs) zero (suc j) x y ne e = e
set_there (z ∷ zs) (suc k) zero x y ne e = e
set_there (z ∷ zs) (suc k) (suc j) x y ne e = set_there zs k j x y (λ same. ne (ap suc same)) e

-- ---- what tests leave

pub filter_none : {X : Type 0} (f : X → Bool) (xs : List X) → ((x : X) → Contains xs x → f x ≡ false) → filter f xs ≡ []
filter_none f [] fails = refl
filter_none f (x ∷ xs) fails = rw (fails x (contains-head x xs)) (filter_none f xs (λ y c. fails y (contains-tail x xs y c)))

-- a test that all that pass another pass
pub filter_wider : {X : Type 0} (f g : X → Bool) (xs : List X) → ((x : X) → Contains xs x → g x ≡ true → f x ≡ true) → filter g (filter f xs) ≡ filter g xs
filter_wider f g [] passes = refl
filter_wider {X} f g (x ∷ xs) passes = go (f x) (g x) refl refl (filter_wider f g xs (λ y c. passes y (contains-tail x xs y c)))
  where
    go : (b d : Bool) → f x ≡ b → g x ≡ d → filter g (filter f xs) ≡ filter g xs → filter g (cond b (x ∷ filter f xs) (filter f xs)) ≡ cond d (x ∷ filter g xs) (filter g xs)
    go true true e h rest = rw h (ap (λ (l : List X). x ∷ l) rest)
    go true false e h rest = rw h rest
    go false false e h rest = rest
    go false true e h rest = absurd (let bad : f x ≡ true = passes x (contains-head x xs) h in cc)

pub filter_swap : {X : Type 0} (f g : X → Bool) (xs : List X) → filter f (filter g xs) ≡ filter g (filter f xs)
filter_swap f g [] = refl
filter_swap {X} f g (x ∷ xs) = go (f x) (g x) refl refl (filter_swap f g xs)
  where
    go : (b d : Bool) → f x ≡ b → g x ≡ d → filter f (filter g xs) ≡ filter g (filter f xs) → filter f (cond d (x ∷ filter g xs) (filter g xs)) ≡ filter g (cond b (x ∷ filter f xs) (filter f xs))
    go true true e h rest = rw (e, h) (ap (λ (l : List X). x ∷ l) rest)
    go true false e h rest = rw h rest
    go false true e h rest = rw e rest
    go false false e h rest = rest

pub list_all_wider : {X : Type 0} (f g : X → Bool) (xs : List X) → ((x : X) → f x ≡ true → g x ≡ true) → list_all f xs ≡ true → list_all g xs ≡ true
list_all_wider f g [] wider h = refl
list_all_wider f g (x ∷ xs) wider h = let parts = and_parts (f x) (list_all f xs) h in and_from (g x) (list_all g xs) (wider x parts.0) (list_all_wider f g xs wider parts.1)
