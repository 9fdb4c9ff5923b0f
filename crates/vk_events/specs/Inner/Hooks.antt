-- Numbers under counts.
use Rattle.std.specs.Prelude.{ℕ, List, ◌==◌, count_by}
use Rattle.std.specs.declared.cmp.Ordering.{Ordering}
use Rattle.std.specs.declared.cmp.Reverse.{Reverse}
use Rattle.std.specs.Ordering.{nat_cmp, ordering_then}

-- What hangs: numbers, each with the count that it hangs under before it, in no particular order; and for how many more there is room. (profile)
pub record Hung : Type 0 where
  pub pairs : List (ℕ × ℕ)
  pub room : ℕ

-- The order of pairs, turned round: by the count, and then by the number. (profile)
abbrev pub by_least : Reverse (ℕ × ℕ) → Reverse (ℕ × ℕ) → Ordering
by_least x y = ordering_then (nat_cmp y.0.0 x.0.0) (nat_cmp y.0.1 x.0.1)

-- How often a number hangs. (profile)
abbrev pub times : ℕ → List (ℕ × ℕ) → ℕ
times i pairs = count_by (λ x. x.1 == i) pairs
