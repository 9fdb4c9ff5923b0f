-- What holds of one item of a list, in another order.
use Rattle.std.proofs.Common.{List}
use Rattle.std.specs.Prelude.{Any, IsPermutation}
use Rattle.std.proofs.lemmas.List.Sorted.{Contains-permutation}

pub Any-permutation : {X : Type 0} (P : X → Type 0) (xs ys : List X) → IsPermutation xs ys → Any P xs → Any P ys
Any-permutation P xs ys same a = let c = Contains-permutation xs ys a.1 same (a.0, a.2, a.3) in (c.0, a.1, c.1, c.2, a.4)
