-- How many pieces of a command come before each of its parts.
use Rattle.std.specs.Prelude.{◌≡◌, ℕ, ◌+◌, ◌-◌, ◌≤◌, List, length, take, slice_index, sum_by}

-- The first so many parts are counted: each number is how many pieces the parts before have together, and the last is how many all of them have.
pub record AreCounted {X : Type 0} (pieces_of : X → ℕ) (parts : List X) (count : ℕ) (before : List ℕ) : Type 0 where
  pub long : length before ≡ count + 1
  pub sums : (i : ℕ) → i ≤ count → slice_index before i ≡ sum_by pieces_of (take i parts)

-- How many pieces all counted parts have.
abbrev pub all_counted : List ℕ → ℕ
all_counted before = slice_index before (length before - 1)
