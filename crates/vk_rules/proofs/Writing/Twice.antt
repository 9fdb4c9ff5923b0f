-- An id twice in a list: it is so in any order of the list, and beside itself in a sorted one.
use Rattle.std.proofs.Common.{◌≡◌, ℕ, suc, ◌+◌, ◌-◌, ◌≤◌, List, [], ◌∷◌, length, get_or, take, drop, Bool, true, false, cond, ◌==◌, ◌||◌, nat_lt, refl, ap, sym, ◌∙◌, arith, subst}
use Rattle.std.specs.Prelude.{nat_eq, count_by}
use Rattle.std.specs.List.Sorted.{IsPermutation, IsNonDecreasing}
use Rattle.std.proofs.lemmas.Bool.{eqb-true, eq-eqb, or_parts, or_from, or_left}
use Rattle.std.proofs.lemmas.Bool.Decides.{nat_tests}
use Rattle.std.proofs.lemmas.List.{take_all}
use Rattle.std.proofs.lemmas.List.Sorted.{sum_by-IsPermutation, IsPermutation-sym, IsNonDecreasingBy-drop}
use Rattle.std.proofs.Math.Bool.{or-false}
use Rattle.vk_model.specs.Basics.{some_pair, among}
use Rattle.vk_model.proofs.Lists.Truths.{bool_same}
use Rattle.vk_history.proofs.Living.Counting.{count-cons, any_counted, among_from}

-- ---- in any order

none_counted : (x : ℕ) (xs : List ℕ) → among x xs ≡ false → count_by (nat_eq x) xs ≡ 0
none_counted x xs none = let e = sym (any_counted (nat_eq x) xs) ∙ none in grind (arith, nat_tests)

none_among : (x : ℕ) (xs : List ℕ) → count_by (nat_eq x) xs ≡ 0 → among x xs ≡ false
none_among x xs none = any_counted (nat_eq x) xs ∙ ap (nat_lt 0) none

-- apart, each is there at most once
once : (xs : List ℕ) → some_pair nat_eq xs ≡ false → (x : ℕ) → count_by (nat_eq x) xs ≤ 1
once [] apart x = omega arith
once (y ∷ ys) apart x =
    let parts = or_parts (among y ys) (some_pair nat_eq ys) apart in
    go (x == y) refl parts.0 (once ys parts.1 x) where
      go : (b : Bool) → (x == y) ≡ b → among y ys ≡ false → count_by (nat_eq x) ys ≤ 1 → count_by (nat_eq x) (y ∷ ys) ≤ 1
      go true same out few =
          let n = count-cons (nat_eq x) y ys ∙ ap (λ b. cond b 1 0 + count_by (nat_eq x) ys) same in
          let none = none_counted x ys (subst (λ (z : ℕ). among z ys ≡ false) (sym (eqb-true x y same)) out) in
          omega (arith, n, none)
      go false other out few =
          let n = count-cons (nat_eq x) y ys ∙ ap (λ b. cond b 1 0 + count_by (nat_eq x) ys) other in
          omega (arith, n, few)

apart_of_once : (xs : List ℕ) → ((x : ℕ) → count_by (nat_eq x) xs ≤ 1) → some_pair nat_eq xs ≡ false
apart_of_once [] few = refl
apart_of_once (y ∷ ys) few = or_from (among y ys) (some_pair nat_eq ys) (none_among y ys none) (apart_of_once ys (λ x. fewer x (x == y) refl)) where
  none : count_by (nat_eq y) ys ≡ 0
  none = let n = count-cons (nat_eq y) y ys ∙ ap (λ b. cond b 1 0 + count_by (nat_eq y) ys) (eq-eqb y y refl) in omega (arith, n, few y)

  fewer : (x : ℕ) (b : Bool) → (x == y) ≡ b → count_by (nat_eq x) ys ≤ 1
  fewer x true same = let n = count-cons (nat_eq x) y ys ∙ ap (λ b. cond b 1 0 + count_by (nat_eq x) ys) same in omega (arith, n, few x)
  fewer x false other = let n = count-cons (nat_eq x) y ys ∙ ap (λ b. cond b 1 0 + count_by (nat_eq x) ys) other in omega (arith, n, few x)

apart_permuted : (xs ys : List ℕ) → IsPermutation xs ys → some_pair nat_eq xs ≡ false → some_pair nat_eq ys ≡ false
apart_permuted xs ys p apart = apart_of_once ys (λ x. let few = once xs apart x in let n = sum_by-IsPermutation (λ y. cond (x == y) 1 0) xs ys p in omega (arith, few, n))

both_fail : (a b : Bool) → (a ≡ false → b ≡ false) → (b ≡ false → a ≡ false) → a ≡ b
both_fail false b f g = sym (f refl)
both_fail true false f g = g refl
both_fail true true f g = refl

pub twice_permuted : (xs ys : List ℕ) → IsPermutation xs ys → some_pair nat_eq ys ≡ some_pair nat_eq xs
twice_permuted xs ys p = both_fail (some_pair nat_eq ys) (some_pair nat_eq xs) (apart_permuted ys xs (IsPermutation-sym xs ys p)) (apart_permuted xs ys p)

-- ---- in a sorted list

-- what is among later ones is next
among_next : (x : ℕ) (xs : List ℕ) → IsNonDecreasing (x ∷ xs) → among x xs ≡ among x (take 1 xs)
among_next x [] sorted = refl
among_next x (y ∷ ys) sorted = bool_same (among x (y ∷ ys)) ((x == y) || false) next there where
  next : among x (y ∷ ys) ≡ true → ((x == y) || false) ≡ true
  next h =
      let at = among_from x (y ∷ ys) h in
      let low = sorted 0 1 x (omega arith) (omega arith) in
      let high = sorted 1 (suc at.0) x (omega arith) (omega (arith, at.1)) in
      or_left (x == y) false (eq-eqb x y (omega (arith, low, high, at.2)))

  there : ((x == y) || false) ≡ true → among x (y ∷ ys) ≡ true
  there h = ap (λ b. b || among x ys) (sym (or-false (x == y)) ∙ h)

pub later_sorted : (xs : List ℕ) → 1 ≤ length xs → IsNonDecreasing xs
    → among (get_or xs 0 0) (take 1 (take (length xs - 1) (drop 1 xs))) ≡ false
    → (some_pair nat_eq (take (length xs - 1) (drop 1 xs)) ≡ some_pair nat_eq xs) × IsNonDecreasing (take (length xs - 1) (drop 1 xs))
later_sorted [] some sorted apart = absurd (omega (arith, some))
later_sorted (x ∷ xs) some sorted apart =
    let whole : take (length (x ∷ xs) - 1) xs ≡ xs = take_all (length (x ∷ xs) - 1) xs (omega arith) in
    rw whole (sym (ap (λ b. b || some_pair nat_eq xs) (among_next x xs sorted ∙ (rw whole at apart))), IsNonDecreasingBy-drop (λ y. y) 1 (x ∷ xs) sorted)
