-- Sums over 64 numbers in a row.
use Rattle.std.specs.Prelude.{ℕ, ◌≡◌, ◌≤◌, ◌+◌, ◌*◌, List, length, take, sum}
use Rattle.std.specs.List.{sum_by}

-- Each of the sums is that of 64 of the elements, in order, and there is one for each element, but for at most one that is spare. (profile)
pub record AreSumsOf {A : Type 0} (f : A → ℕ) (sums : List ℕ) (xs : List A) : Type 0 where
  pub upto : (n : ℕ) → sum (take n sums) ≡ sum_by f (take (64 * n) xs)
  pub covers : length xs ≤ 64 * length sums
  pub tight : 64 * length sums ≤ length xs + 64

-- The sums of some numbers by 64 and by 4,096, and the sum of all. (profile)
pub record IsTree (leaves groups blocks : List ℕ) (total : ℕ) : Type 0 where
  pub by_group : AreSumsOf (λ x. x) groups leaves
  pub by_block : AreSumsOf (λ x. x) blocks groups
  pub all : total ≡ sum leaves
