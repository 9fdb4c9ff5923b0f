-- The elements of a barrier, one after another.
use Rattle.std.proofs.Common.{◌≡◌, ◌<◌, ◌≤◌, ◌+◌, ℕ, List, [], ◌∷◌, length, drop, get_or, refl, ap, sym, ◌∙◌, subst, IsTrue}
use Rattle.std.specs.List.{fold}
use Rattle.std.proofs.lemmas.List.{drop_all, drop_more}
use Rattle.vk_model.specs.declared.command.Element.{Element}
use Rattle.vk_model.specs.Sync.Before.{IsNumbered}
use Rattle.vk_model.specs.Sync.Node.{Node, nodes}
use Rattle.vk_model.specs.Trace.Point.{Past, Point}
use Rattle.vk_model.specs.World.Bytes.{Byte, World}
use Rattle.vk_model.specs.World.Effect.{after_element}
use Rattle.vk_model.specs.World.Ownership.{family_of}
use Rattle.vk_order.specs.declared.frontier.Frontier.{Frontier}
use Rattle.vk_order.specs.Barriers.{element_node}
use Rattle.vk_order.specs.Frontiers.{IsFrontier}
use Rattle.vk_touches.specs.declared.touches.LastTouches.{LastTouches}
use Rattle.vk_touches.specs.declared.touches.Spot.{Spot}
use Rattle.vk_history.specs.declared.contents.Contents.{Contents}
use Rattle.vk_history.specs.declared.element_spots.ElementSpots.{ElementSpots}
use Rattle.vk_history.specs.Contents.{AreAllAt}
use Rattle.vk_history.specs.Inner.Passing.{AreOnResources, AreSpots, is_on_resource, spot_after, touched_by, touched_by_all}

-- some have come, and these are left: what is left leads to where all would
pub record AreLeft (past : Past) (w : World) (t : Byte → LastTouches) (p : Point) (now : Contents) (spots : ElementSpots) (q : ℕ) (left all : List Element) : Type 0 where
  pub ns : List Node
  pub world : World
  pub memory : Byte → LastTouches
  pub numbers : IsNumbered ns
  pub spots_are : AreSpots spots q ns
  pub contents : AreAllAt now past world memory
  pub same_world : fold (after_element past (family_of q)) world left ≡ fold (after_element past (family_of q)) w all
  pub same_memory : touched_by_all past p ns left memory ≡ touched_by_all past p (nodes past) all t

abbrev pub HavePassed : Contents → Contents → ElementSpots → Frontier → ℕ → List Element → List Element → Type 0
HavePassed old now spots f q left all = (past : Past) (w : World) (t : Byte → LastTouches) (p : Point) → p.queue ≡ q → IsFrontier f (nodes past) → AreOnResources past all → AreAllAt old past w t → AreLeft past w t p now spots q left all

pub none_passed : (old : Contents) (spots : ElementSpots) (f : Frontier) (q : ℕ) (all : List Element) → ((ns : List Node) → IsFrontier f ns → AreSpots spots q ns) → HavePassed old old spots f q all all
none_passed old spots f q all counted past w t p on frontier there are = record {
  ns = nodes past;
  world = w;
  memory = t;
  numbers = frontier.numbers;
  spots_are = counted (nodes past) frontier;
  contents = are;
  same_world = refl;
  same_memory = refl;
}

-- one more
pub one_passed : (old now new : Contents) (before after : ElementSpots) (f : Frontier) (q : ℕ) (all : List Element) (i : ℕ) (d e : Element) (s : Spot) → i < length all → e ≡ get_or all i d
    → ((ns : List Node) (p : Point) → IsNumbered ns → AreSpots before p.queue ns → (s ≡ spot_after ns (element_node p (length ns) e)) × AreSpots after p.queue (element_node p (length ns) e ∷ ns))
    → ((past : Past) (w : World) (t : Byte → LastTouches) → IsTrue (is_on_resource past e) → AreAllAt now past w t → AreAllAt new past (after_element past (family_of q) w e) (touched_by past q e s t))
    → HavePassed old now before f q (drop i all) all → HavePassed old new after f q (drop (i + 1) all) all
one_passed old now new before after f q all i d e s low is takes passes so_far past w t p on frontier there are =
    let a = so_far past w t p on frontier there are in
    let n : Node = element_node p (length a.ns) e in
    let spot = takes a.ns p a.numbers (subst (λ (k : ℕ). AreSpots before k a.ns) (sym on) a.spots_are) in
    let split : drop i all ≡ e ∷ drop (i + 1) all = next_left in
    let here : IsTrue (is_on_resource past e) = subst (λ (x : Element). IsTrue (is_on_resource past x)) (sym is) (there i d low) in
    record {
      ns = n ∷ a.ns;
      world = after_element past (family_of q) a.world e;
      memory = touched_by past q e s a.memory;
      numbers = (refl, a.numbers);
      spots_are = subst (λ (k : ℕ). AreSpots after k (n ∷ a.ns)) on spot.1;
      contents = passes past a.world a.memory here a.contents;
      same_world = ap (fold (after_element past (family_of q)) a.world) (sym split) ∙ a.same_world;
      same_memory =
          ap (λ (x : Spot). touched_by_all past p (n ∷ a.ns) (drop (i + 1) all) (touched_by past q e x a.memory)) spot.0
          ∙ ap (λ (k : ℕ). touched_by_all past p (n ∷ a.ns) (drop (i + 1) all) (touched_by past k e (spot_after a.ns n) a.memory)) (sym on)
          ∙ ap (λ (es : List Element). touched_by_all past p a.ns es a.memory) (sym split) ∙ a.same_memory;
    }
  where
    next_left : drop i all ≡ e ∷ drop (i + 1) all
    next_left = drop_more all i d low ∙ ap (λ (x : Element). x ∷ drop (i + 1) all) (sym is)

-- and all
pub all_passed : (old now : Contents) (spots : ElementSpots) (f : Frontier) (q : ℕ) (all : List Element) (i : ℕ) → length all ≤ i → HavePassed old now spots f q (drop i all) all
    → (past : Past) (w : World) (t : Byte → LastTouches) (p : Point) → p.queue ≡ q → IsFrontier f (nodes past) → AreOnResources past all → AreAllAt old past w t
    → AreAllAt now past (fold (after_element past (family_of q)) w all) (touched_by_all past p (nodes past) all t)
all_passed old now spots f q all i end so_far past w t p on frontier there are =
    let a = so_far past w t p on frontier there are in
    let none : drop i all ≡ [] = drop_all i all end in
    subst (λ (v : World). AreAllAt now past v (touched_by_all past p (nodes past) all t)) (ap (fold (after_element past (family_of q)) a.world) (sym none) ∙ a.same_world)
    (subst (λ (m : Byte → LastTouches). AreAllAt now past a.world m) (ap (λ (es : List Element). touched_by_all past p a.ns es a.memory) (sym none) ∙ a.same_memory) a.contents)
