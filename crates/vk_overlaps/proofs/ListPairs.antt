-- Pairs of items of lists, and of lists that are made of others. Other crates cite it.
use Rattle.std.proofs.Common.{◌≡◌, ℕ, ◌+◌, List, Option, Some, None, [], ◌∷◌, map, length, ◌<◌, Bool, true, false, ◌||◌, refl, sym, ap, ◌∙◌, arith}
use Rattle.std.specs.List.{list_any, filter_map, cons_option}
use Rattle.vk_model.specs.Basics.{some_pair, below}
use Rattle.vk_model.proofs.Lists.Pairs.{once_of_pairs, pairs_map, pairs_of_once}
use Rattle.vk_model.proofs.Lists.Members.{any_same, any_map, none_passes_any, member_passes, range_from, numbers_have}

-- a list of one item or none has no pair
pub too_few : {A : Type 0} (t : A → A → Bool) (xs : List A) → length xs < 2 → some_pair t xs ≡ false
too_few t [] few = refl
too_few t (x ∷ []) few = refl
too_few t (x ∷ y ∷ xs) few = absurd (omega (arith, few))

-- pairs of what items become
pub pair_map : {A B : Type 0} (t : B → B → Bool) (f : A → B) (xs : List A) → some_pair t (map f xs) ≡ some_pair (λ x y. t (f x) (f y)) xs
pair_map t f [] = refl
pair_map t f (x ∷ xs) = ap (λ b. b || some_pair t (map f xs)) (any_map (t (f x)) f xs) ∙ ap (λ b. list_any (λ y. t (f x) (f y)) xs || b) (pair_map t f xs)

-- pairs by tests that agree
pub pair_same : {A : Type 0} (t u : A → A → Bool) (xs : List A) → ((x y : A) → t x y ≡ u x y) → some_pair t xs ≡ some_pair u xs
pair_same t u [] same = refl
pair_same t u (x ∷ xs) same = ap (λ b. b || some_pair t xs) (any_same (t x) (u x) xs (λ y c. same x y)) ∙ ap (λ b. list_any (u x) xs || b) (pair_same t u xs same)

-- items of two lists, one of each
pub cross_map : {A B : Type 0} (t : B → B → Bool) (f g : A → B) (xs ys : List A) → list_any (λ w. list_any (t w) (map g ys)) (map f xs) ≡ list_any (λ x. list_any (λ y. t (f x) (g y)) ys) xs
cross_map t f g xs ys = any_map (λ w. list_any (t w) (map g ys)) f xs ∙ any_same _ _ xs (λ x c. any_map (t (f x)) g ys)

-- the same by tests that agree
pub cross_same : {A : Type 0} (t u : A → A → Bool) (xs ys : List A) → ((x y : A) → t x y ≡ u x y) → list_any (λ x. list_any (t x) ys) xs ≡ list_any (λ x. list_any (u x) ys) xs
cross_same t u xs ys same = any_same _ _ xs (λ x c. any_same (t x) (u x) ys (λ y d. same x y))

-- nothing meets none
pub empty_cross : {A : Type 0} (t : A → A → Bool) (xs : List A) → list_any (λ w. list_any (t w) []) xs ≡ false
empty_cross t xs = none_passes_any _ xs (λ x c. refl)

-- ---- lists of what some items become

-- whether a test passes on two values that are there
abbrev pub on_both : {B : Type 0} → (B → B → Bool) → Option B → Option B → Bool
on_both t (Some a) (Some b) = t a b
on_both t _ _ = false

module _ {A B : Type 0} (t : B → B → Bool) (f : A → Option B) where
  one_of_some : (b : B) (ys : List A) → list_any (t b) (filter_map f ys) ≡ list_any (λ y. on_both t (Some b) (f y)) ys
  one_of_some b [] = refl
  one_of_some b (y ∷ ys) = go (f y) (one_of_some b ys)
    where
      go : (o : Option B) → list_any (t b) (filter_map f ys) ≡ list_any (λ y. on_both t (Some b) (f y)) ys → list_any (t b) (cons_option o (filter_map f ys)) ≡ (on_both t (Some b) o || list_any (λ y. on_both t (Some b) (f y)) ys)
      go None rest = rest
      go (Some c) rest = ap (λ v. t b c || v) rest

  -- pairs of what items become are those of items that become something
  pub pairs_of_some : (xs : List A) → some_pair t (filter_map f xs) ≡ some_pair (λ x y. on_both t (f x) (f y)) xs
  pairs_of_some [] = refl
  pairs_of_some (x ∷ xs) = go (f x) (pairs_of_some xs)
    where
      go : (o : Option B) → some_pair t (filter_map f xs) ≡ some_pair (λ x y. on_both t (f x) (f y)) xs → some_pair t (cons_option o (filter_map f xs)) ≡ (list_any (λ y. on_both t o (f y)) xs || some_pair (λ x y. on_both t (f x) (f y)) xs)
      go None rest = rest ∙ sym (ap (λ v. v || some_pair (λ x y. on_both t (f x) (f y)) xs) (none_passes_any (λ y. on_both t None (f y)) xs (λ y c. refl)))
      go (Some c) rest = ap (λ v. v || some_pair t (filter_map f xs)) (one_of_some c xs) ∙ ap (λ v. list_any (λ y. on_both t (Some c) (f y)) xs || v) rest

-- ---- tests of which one passes wherever the other does

pub no_pair_by : {A : Type 0} (t u : A → A → Bool) (xs : List A) → ((x y : A) → t x y ≡ false → u x y ≡ false) → some_pair t xs ≡ false → some_pair u xs ≡ false
no_pair_by t u xs weaker none = once_of_pairs u xs (pairs_map (λ x y. t x y ≡ false) (λ x y. u x y ≡ false) xs weaker (pairs_of_once t xs none))

-- ---- numbers one after another

pub none_below : (f : ℕ → Bool) (n : ℕ) → ((k : ℕ) → k < n → f k ≡ false) → list_any f (below n) ≡ false
none_below f n none = none_passes_any f (below n) (λ k c. let there = range_from 0 n k c in none k (omega (arith, there)))

pub one_below : (f : ℕ → Bool) (n k : ℕ) → k < n → f k ≡ true → list_any f (below n) ≡ true
one_below f n k lt h = member_passes f (below n) k (rw (add_zero k) at (numbers_have 0 n k lt)) h where
  add_zero : (k : ℕ) → 0 + k ≡ k
  add_zero k = omega arith
