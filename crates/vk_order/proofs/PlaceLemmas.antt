-- Places in lines, when nodes come, and what has no siblings: what callers show of a new node.
use Rattle.std.proofs.Common.{◌≡◌, ℕ, ◌≤◌, Some, List, [], ◌∷◌, length, Bool, true, false, ◌&&◌, refl, ap, ◌∙◌, arith}
use Rattle.std.specs.Prelude.{Contains, nat_lt}
use Rattle.std.proofs.lemmas.Bool.{lt-ltb}
use Rattle.vk_model.specs.Trace.Point.{Point}
use Rattle.vk_model.specs.Sync.Node.{Node, Act, with_acts, same_place}
use Rattle.vk_model.specs.Sync.Edge.{is_element}
use Rattle.vk_order.specs.declared.lines.Line.{Line}
use Rattle.vk_order.specs.Wide.{IsApartFrom}
use Rattle.vk_order.specs.Lines.{place, line_of}
pub use Rattle.vk_order.proofs.ClockLemmas.{place-older, place-grows, line_itself, line_same}
use Rattle.vk_order.specs.declared.new_node.NewNode.{NewNode}
use Rattle.vk_order.specs.Frontiers.{IsNewNode}
use Rattle.vk_model.specs.Sync.Before.{before, IsNumbered}
use Rattle.vk_order.proofs.ByEdges.{by_last, by_edge}

-- a point that comes changes no place of an older node
pub place_stays : (p : Point) (acts : List Act) (ns : List Node) (l : Line) (k : ℕ) → k ≤ length ns → place (with_acts p acts ns) l k ≡ place ns l k
place_stays p [] ns l k le = refl
place_stays p (a ∷ more) ns l k le =
    let n : Node = record { number = length ns; point = p; act = a } in
    place_stays p more (n ∷ ns) l k (omega arith) ∙ place-older n ns refl l k le

-- no node has a number above the count
pub place-top : (ns : List Node) → IsNumbered ns → (l : Line) (k : ℕ) → length ns ≤ k → place ns l k ≡ place ns l (length ns)
place-top [] numbers l k le = refl
place-top (n ∷ ns) numbers l k le =
    let a : nat_lt n.number k ≡ true = lt-ltb n.number k (let at = numbers.0 in omega arith) in
    let b : nat_lt n.number (length (n ∷ ns)) ≡ true = lt-ltb n.number (length (n ∷ ns)) (let at = numbers.0 in omega arith) in
    let c = place-top ns numbers.1 l k (omega arith) in
    let d = place-top ns numbers.1 l (length (n ∷ ns)) (omega arith) in
    rw (a, b, c, d) refl

-- what is no element has no siblings
pub apart_from : (ns : List Node) (n : Node) → is_element n.act ≡ false → IsApartFrom ns n
apart_from ns n none k c = ap (λ (t : Bool). is_element k.act && t && same_place k.point n.point) none ∙ go (is_element k.act)
  where
    go : (b : Bool) → (b && false && same_place k.point n.point) ≡ false
    go true = refl
    go false = refl

-- what is before the next node is the first of each line
pub first_on_line : (ns : List Node) (n : Node) (s : NewNode) → IsNewNode ns n s → (l : Line) (m d : Node) → Contains ns m → Contains ns d → line_of m ≡ Some l → line_of d ≡ Some l → place ns l m.number ≤ place ns l d.number
    → before (n ∷ ns) d n ≡ true → before (n ∷ ns) m n ≡ true
first_on_line ns n s new_node l m d hm hd lm ld le h =
    let join = new_node.front.clock.join in
    let lt = (join.counts l d hd ld).0 (by_last n ns new_node.numbers d hd h) in
    by_edge n ns new_node.numbers m hm ((join.counts l m hm lm).1 (omega (arith, lt, le)))
