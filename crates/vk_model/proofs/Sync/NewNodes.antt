-- The nodes of a point that comes next, beside those that were there. Other crates cite it.
use Rattle.std.proofs.Common.{◌≡◌, ℕ, ◌≤◌, List, [], ◌∷◌, length, reverse, Bool, IsTrue, refl, sym, ◌∙◌, arith}
use Rattle.std.specs.Prelude.{nat_le, Contains}
use Rattle.std.specs.List.{list_any, filter}
use Rattle.std.proofs.lemmas.Bool.{lt-leb, le-leb}
use Rattle.std.proofs.lemmas.List.Sorted.{list_any-IsPermutation, IsPermutation-reverse}
use Rattle.vk_model.specs.Trace.Point.{Past, Point}
use Rattle.vk_model.specs.Sync.Node.{Node, Act, nodes, with_acts, next_nodes}
use Rattle.vk_model.specs.Sync.Before.{IsNumbered}
use Rattle.vk_model.proofs.Lists.Members.{contains-tail, any_filter}

-- what was there is still there
pub with_acts_keeps : (p : Point) (more : List Act) (ns : List Node) (n : Node) → Contains ns n → Contains (with_acts p more ns) n
with_acts_keeps p [] ns n h = h
with_acts_keeps p (a ∷ more) ns n h = with_acts_keeps p more (record { number = length ns; point = p; act = a } ∷ ns) n (contains-tail _ ns n h)

-- no number reaches the count
pub low_numbers : (k : ℕ) (ns : List Node) → IsNumbered ns → length ns ≤ k → filter (λ n. nat_le k n.number) ns ≡ []
low_numbers k [] all le = refl
low_numbers k (n ∷ ns) all le = let new : n.number ≡ length ns = all.0 in rw (lt-leb k n.number (omega arith)) (low_numbers k ns all.1 (omega arith))

-- a node whose number does is of the point
pub found_new : (f : Node → Bool) (past : Past) (p : Point) (y : Node) → Contains (nodes (p ∷ past)) y → length (nodes past) ≤ y.number → IsTrue (f y) → IsTrue (list_any f (next_nodes past p))
found_new f past p y c le h =
    let new = filter (λ n. nat_le (length (nodes past)) n.number) (nodes (p ∷ past)) in
    sym (list_any-IsPermutation f new (reverse new) (IsPermutation-reverse new)) ∙ any_filter f (λ n. nat_le (length (nodes past)) n.number) (nodes (p ∷ past)) y c (le-leb (length (nodes past)) y.number le) h
