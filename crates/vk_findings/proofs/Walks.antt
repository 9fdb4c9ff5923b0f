-- What is left of a list from a number on.
use Rattle.std.proofs.Common.{◌≡◌, ℕ, zero, suc, ◌+◌, ◌<◌, ◌≤◌, List, [], ◌∷◌, length, drop, Bool, true, false, ◌||◌, Some, refl, sym, ap, ◌∙◌, subst, arith}
use Rattle.std.specs.Prelude.{slice_get}
use Rattle.std.specs.List.{list_any}
use Rattle.std.proofs.lemmas.Bool.{or_left, or_right}
use Rattle.std.proofs.lemmas.List.{drop_more}
use Rattle.std.proofs.lemmas.Option.{slice_get_within, get_or_from_slice_get}
use Rattle.vk_model.specs.Basics.{some_pair}
use Rattle.vk_model.proofs.Lists.Members.{member_passes, place_has}

-- an item, and what comes after it
pub drop_item : {A : Type 0} (xs : List A) (k : ℕ) (x : A) → slice_get xs k ≡ Some x → drop k xs ≡ x ∷ drop (k + 1) xs
drop_item xs k x is = drop_more xs k x (slice_get_within xs k x is) ∙ ap (λ y. y ∷ drop (k + 1) xs) (get_or_from_slice_get xs k x x is)

-- an item that fails a test is left out
pub any_later : {A : Type 0} (f : A → Bool) (xs : List A) (k : ℕ) (x : A) → slice_get xs k ≡ Some x → f x ≡ false → list_any f (drop (k + 1) xs) ≡ list_any f (drop k xs)
any_later f xs k x is fails = sym (ap (list_any f) (drop_item xs k x is) ∙ ap (λ b. b || list_any f (drop (k + 1) xs)) fails)

-- one that makes no pair with a later one is left out
pub pair_later : {A : Type 0} (t : A → A → Bool) (xs : List A) (k : ℕ) (x : A) → slice_get xs k ≡ Some x → list_any (t x) (drop (k + 1) xs) ≡ false → some_pair t (drop (k + 1) xs) ≡ some_pair t (drop k xs)
pair_later t xs k x is fails = sym (ap (some_pair t) (drop_item xs k x is) ∙ ap (λ b. b || some_pair t (drop (k + 1) xs)) fails)

-- past the end there is nothing
pub drop_end : {A : Type 0} (xs : List A) (k : ℕ) → length xs ≤ k → drop k xs ≡ []
drop_end [] zero le = refl
drop_end [] (suc k) le = refl
drop_end (x ∷ xs) zero le = absurd (omega (arith, le))
drop_end (x ∷ xs) (suc k) le = drop_end xs k (omega (arith, le))

-- items of two numbers, one below the other, make a pair
pub pair_made : {A : Type 0} (t : A → A → Bool) (xs : List A) (i j : ℕ) (x y : A) → slice_get xs i ≡ Some x → slice_get xs j ≡ Some y → i < j → t x y ≡ true → some_pair t xs ≡ true
pair_made t [] i j x y is at lt meet = absurd cc
pair_made {A} t (z ∷ zs) zero zero x y is at lt meet = absurd (omega (arith, lt))
pair_made {A} t (z ∷ zs) zero (suc j) x y is at lt meet =
    let same : z ≡ x = cc in
    or_left (list_any (t z) zs) (some_pair t zs) (member_passes (t z) zs y (place_has zs j y at) (subst (λ (w : A). t w y ≡ true) (sym same) meet))
pair_made t (z ∷ zs) (suc i) zero x y is at lt meet = absurd (omega (arith, lt))
pair_made t (z ∷ zs) (suc i) (suc j) x y is at lt meet = or_right (list_any (t z) zs) (some_pair t zs) (pair_made t zs i j x y is at (omega (arith, lt)) meet)

-- and items of two lists do
pub cross_made : {A : Type 0} (t : A → A → Bool) (xs ys : List A) (i j : ℕ) (x y : A) → slice_get xs i ≡ Some x → slice_get ys j ≡ Some y → t x y ≡ true → list_any (λ w. list_any (t w) ys) xs ≡ true
cross_made t xs ys i j x y is at meet = member_passes (λ w. list_any (t w) ys) xs x (place_has xs i x is) (member_passes (t x) ys y (place_has ys j y at) meet)
