-- Resources of other pools that an end of a pass lists.
use Rattle.std.proofs.Common.{◌≡◌, ℕ, List, ◌++◌, Bool, true, Option, Some, None}
use Rattle.std.specs.Prelude.{IfSome, Contains}
use Rattle.std.proofs.lemmas.List.Elements.{Contains-append_right}

-- what is in the second of two lists is in both together
pub in_second : (f : ℕ → Bool) (xs ys : List ℕ) (found : Option ℕ) → IfSome found (λ r. Contains ys r × (f r ≡ true)) → IfSome found (λ r. Contains (xs ++ ys) r × (f r ≡ true))
in_second f xs ys None none = none
in_second f xs ys (Some r) there = (Contains-append_right xs ys r there.0, there.1)
