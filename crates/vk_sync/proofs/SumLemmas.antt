-- Sums over 64 elements in a row, and what a change of one element makes of them.
use Rattle.std.proofs.Common.{◌≡◌, ◌<◌, ◌≤◌, ◌+◌, ◌*◌, ◌/◌, ℕ, List, length, ap, ◌∙◌, sym, inl, inr, arith, get_or, set}
use Rattle.std.specs.Prelude.{take, sum, min}
use Rattle.std.specs.List.{sum_by}
use Rattle.std.proofs.Math.Seq.{take-set-lt, take-length}
use Rattle.std.proofs.lemmas.List.{take-set-le, take_all, get_or-take, length-set, length-take, take-take}
use Rattle.std.proofs.lemmas.List.Sums.{sum_by-set, sum_by_more, sum_by-take-le}
use Rattle.std.proofs.lemmas.Bool.{cases_lt}
use Rattle.vk_sync.specs.Inner.Sums.{AreSumsOf, IsTree}

module _ {A : Type 0} (f : A → ℕ) where
  -- A change at or past the end of a part leaves the part's sum.
  pub sum_past : (xs : List A) (n i : ℕ) (y : A) → n ≤ i → sum_by f (take n (set xs i y)) ≡ sum_by f (take n xs)
  sum_past xs n i y le = ap (sum_by f) (take-set-le n xs i y le)

  -- A change within a part changes the part's sum by as much.
  pub sum_within : (xs : List A) (n i : ℕ) (y d : A) → i < n → i < length xs → sum_by f (take n (set xs i y)) + f (get_or xs i d) ≡ sum_by f (take n xs) + f y
  sum_within xs n i y d lt in_xs =
      let cut = take-set-lt n xs i y lt in
      let same = get_or-take n xs i d lt in
      let whole = sum_by-set f (take n xs) i y d (omega (arith, length-take n xs)) in
      omega (arith, whole, ap (sum_by f) cut, ap f same)

  -- The sum of a longer part is no less.
  pub sum_grows : (xs : List A) (m n : ℕ) → m ≤ n → sum_by f (take m xs) ≤ sum_by f (take n xs)
  sum_grows xs m n le = omega (arith, ap (sum_by f) (take-take m n xs le), sum_by-take-le f (take n xs) m)

  -- A part whose sum is less than that of all isn't all.
  pub not_all : (xs : List A) (n : ℕ) → sum_by f (take n xs) < sum_by f xs → n < length xs
  not_all xs n lt = elim (cases_lt n (length xs)) [ inl h ↦ h | inr h ↦ absurd (omega (arith, ap (sum_by f) (take_all n xs h))) ]

  -- Where the elements before one add up to nothing, they still do where one of them all gets less.
  pub zeros_less : (xs : List A) (first i : ℕ) (y d : A) → i < length xs → f y ≤ f (get_or xs i d) → sum_by f (take first xs) ≡ 0 → sum_by f (take first (set xs i y)) ≡ 0
  zeros_less xs first i y d there less zeros = elim (cases_lt i first) [
    | inl lt ↦ omega (arith, sum_within xs first i y d lt there)
    | inr le ↦ sum_past xs first i y le ∙ zeros
  ]

  module _ (sums : List ℕ) (xs : List A) (s : AreSumsOf f sums xs) where
    -- All of the sums are the sum of all.
    pub sum_of_sums : sum sums ≡ sum_by f xs
    sum_of_sums =
        let n = length sums in
        let le : length xs ≤ 64 * n = s.covers in
        sym (ap sum (take-length sums)) ∙ s.upto n ∙ ap (sum_by f) (take_all (64 * n) xs le)

    -- The sum that has an element is there.
    pub has_sum : (i : ℕ) → i < length xs → i / 64 < length sums
    has_sum i lt = let le = s.covers in omega arith

    -- An element is no more than the sum that it is in.
    pub at_most_sum : (i : ℕ) (d : A) → i < length xs → f (get_or xs i d) ≤ get_or sums (i / 64) 0
    at_most_sum i d lt =
        let g = i / 64 in
        let one = sum_by_more f xs i d lt in
        let here = sum_by_more (λ (x : ℕ). x) sums g 0 (has_sum i lt) in
        let low : sum_by f (take (64 * g) xs) ≤ sum_by f (take i xs) = sum_grows xs (64 * g) i (omega arith) in
        let high : sum_by f (take (i + 1) xs) ≤ sum_by f (take (64 * (g + 1)) xs) = sum_grows xs (i + 1) (64 * (g + 1)) (omega arith) in
        omega (arith, one, here, low, high, s.upto g, s.upto (g + 1))

    -- An element and its sum change by as much.
    pub sums_change : (i u : ℕ) (y d : A) (more less : ℕ) → i < length xs → f y + less ≡ f (get_or xs i d) + more → u + less ≡ get_or sums (i / 64) 0 + more → AreSumsOf f (set sums (i / 64) u) (set xs i y)
    sums_change i u y d more less lt e e' =
        let g = i / 64 in
        let le = s.covers in
        let le' = s.tight in
        let there = has_sum i lt in
        record {
          upto = λ n. elim (cases_lt g n) [
            | inl h ↦
                let a = sum_within xs (64 * n) i y d (omega (arith, h)) lt in
                let b = sum_by-set (λ (x : ℕ). x) (take n sums) g u 0 (omega (arith, length-take n sums)) in
                let cut = ap sum (take-set-lt n sums g u h) in
                let same = get_or-take n sums g 0 h in
                omega (arith, a, b, cut, same, s.upto n)
            | inr h ↦ ap sum (take-set-le n sums g u h) ∙ s.upto n ∙ sym (sum_past xs (64 * n) i y (omega (arith, h)))
          ];
          covers = omega (arith, length-set xs i y, length-set sums g u);
          tight = omega (arith, length-set xs i y, length-set sums g u);
        }

-- A number and the three sums that it is in change by as much.
pub tree_changes : (leaves groups blocks : List ℕ) (total leaf x y z total' more less : ℕ) → IsTree leaves groups blocks total → leaf < length leaves → x + less ≡ get_or leaves leaf 0 + more → y + less ≡ get_or groups (leaf / 64) 0 + more → z + less ≡ get_or blocks (leaf / 64 / 64) 0 + more → total' + less ≡ total + more → IsTree (set leaves leaf x) (set groups (leaf / 64) y) (set blocks (leaf / 64 / 64) z) total'
tree_changes leaves groups blocks total leaf x y z total' more less t lt ex ey ez et =
    let id = λ (x : ℕ). x in
    let lt' = has_sum id groups leaves t.by_group leaf lt in
    record {
      by_group = sums_change id groups leaves t.by_group leaf y x 0 more less lt ex ey;
      by_block = sums_change id blocks groups t.by_block (leaf / 64) z y 0 more less lt' ey ez;
      all = omega (arith, t.all, sum_by-set id leaves leaf x 0 lt);
    }

-- A number is no more than the sum of all, and than the two sums that it is in.
pub in_group : (leaves groups blocks : List ℕ) (total leaf : ℕ) → IsTree leaves groups blocks total → leaf < length leaves → get_or leaves leaf 0 ≤ get_or groups (leaf / 64) 0
in_group leaves groups blocks total leaf t lt = at_most_sum (λ x. x) groups leaves t.by_group leaf 0 lt

pub in_block : (leaves groups blocks : List ℕ) (total leaf : ℕ) → IsTree leaves groups blocks total → leaf < length leaves → get_or leaves leaf 0 ≤ get_or blocks (leaf / 64 / 64) 0
in_block leaves groups blocks total leaf t lt =
    let id = λ (x : ℕ). x in
    let there = has_sum id groups leaves t.by_group leaf lt in
    omega (arith, at_most_sum id groups leaves t.by_group leaf 0 lt, at_most_sum id blocks groups t.by_block (leaf / 64) 0 there)

-- The sums of the sums are the sum of all.
pub sum_of_blocks : (leaves groups blocks : List ℕ) (total : ℕ) → IsTree leaves groups blocks total → sum blocks ≡ sum leaves
sum_of_blocks leaves groups blocks total t = let id = λ (x : ℕ). x in sum_of_sums id blocks groups t.by_block ∙ sum_of_sums id groups leaves t.by_group

-- Where the numbers before one are all 0, those are that come before a changed number too.
pub zeros_before : (xs : List ℕ) (first leaf y : ℕ) → sum (take first xs) ≡ 0 → sum (take (min first leaf) (set xs leaf y)) ≡ 0
zeros_before xs first leaf y zeros =
    let id = λ (x : ℕ). x in
    omega (arith, sum_past id xs (min first leaf) leaf y (omega arith), sum_grows id xs (min first leaf) first (omega arith))
