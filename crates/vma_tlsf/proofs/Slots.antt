-- What slots hold after one of them is set.
use Rattle.std.proofs.Common.{◌≡◌, ℕ, zero, suc, ◌<◌, ◌==◌, inl, inr, List, [], ◌∷◌, ◌++◌, length, replicate, get_or, set, true, false, cond, Option, Some, None, refl, ap, sym, ◌∙◌, arith, get_or-set_same, get_or-set_other}
use Rattle.std.specs.Prelude.{is_some}
use Rattle.std.proofs.lemmas.Bool.{cases_eq}
use Rattle.vk_nodes.specs.declared.node.Node.{Node}
use Rattle.vk_nodes.specs.declared.change.Change.{Change}
use Rattle.vk_nodes.specs.Slots.{empty_node}
use Rattle.vk_nodes.specs.Changes.{changed, IsChanged}
use Rattle.vk_nodes.proofs.SlotLemmas.{node-held}
use Rattle.vma_tlsf.specs.Inner.Chain.{Range, range, range_in, seen}
use Rattle.vma_tlsf.specs.Inner.Steps.{AreAlike, IsHeld}

-- a slot that is held is one
pub held_below : (nodes : List (Option Node)) (slot : ℕ) → IsHeld nodes slot → slot < length nodes
held_below [] slot h = absurd cc
held_below (x ∷ xs) zero h = omega arith
held_below (x ∷ xs) (suc slot) h = let less = held_below xs slot h in omega arith

pub held_here : (nodes : List (Option Node)) (slot : ℕ) (node : Node) → get_or nodes slot None ≡ Some node → IsHeld nodes slot
held_here nodes slot node is = ap is_some is

module _ (nodes : List (Option Node)) (slot : ℕ) (held : IsHeld nodes slot) (x : Option Node) where
  pub set_there : get_or (set nodes slot x) slot None ≡ x
  set_there = get_or-set_same nodes slot x None (held_below nodes slot held)

  pub seen-set_there : seen (set nodes slot x) slot ≡ range_in x
  seen-set_there = ap range_in set_there

  pub set_elsewhere : (i : ℕ) → (i ≡ slot → ⊥) → get_or (set nodes slot x) i None ≡ get_or nodes i None
  set_elsewhere i other = get_or-set_other nodes slot i x None other

  pub seen-set_elsewhere : (i : ℕ) → (i ≡ slot → ⊥) → seen (set nodes slot x) i ≡ seen nodes i
  seen-set_elsewhere i other = ap range_in (set_elsewhere i other)

  pub held-set : is_some x ≡ true → (i : ℕ) → IsHeld nodes i → IsHeld (set nodes slot x) i
  held-set some i h = elim (cases_eq i slot) [
    | inl e ↦ rw (e, set_there) some
    | inr other ↦ rw (set_elsewhere i other) h
  ]

pub alike-refl : (nodes : List (Option Node)) → AreAlike nodes nodes
alike-refl nodes = record { ranges = λ i. refl; held = λ i h. h }

pub alike-trans : (a b c : List (Option Node)) → AreAlike a b → AreAlike b c → AreAlike a c
alike-trans a b c ab bc = record { ranges = λ i. bc.ranges i ∙ ab.ranges i; held = λ i h. bc.held i (ab.held i h) }

-- a node of the same range
pub alike-set : (nodes : List (Option Node)) (slot : ℕ) (old new : Node) → get_or nodes slot None ≡ Some old → range_in (Some new) ≡ range_in (Some old) → AreAlike nodes (set nodes slot (Some new))
alike-set nodes slot old new was same =
    let held = held_here nodes slot old was in
    record {
      ranges = λ i. elim (cases_eq i slot) [
        | inl e ↦ rw e (seen-set_there nodes slot held (Some new) ∙ same ∙ sym (ap range_in was))
        | inr other ↦ seen-set_elsewhere nodes slot held (Some new) i other
      ];
      held = held-set nodes slot held (Some new) refl;
    }

-- a node whose range is kept by a change
pub alike-changed : (old new : List (Option Node)) (slot : ℕ) (change : Change) → IsHeld old slot → IsChanged old new slot change → ((n : Node) → range (changed n change) ≡ range n) → AreAlike old new
alike-changed old new slot change held made same =
    let node = node-held old slot held in
    rw (made node.0 node.1) (alike-set old slot node.0 (changed node.0 change) node.1 (ap (λ (r : Range). cond (r.size == 0) None (Some r)) (same node.0)))

-- the same, if a node is held there
pub alike-if_held : (old new : List (Option Node)) (slot : ℕ) (change : Change) → IsChanged old new slot change → (get_or old slot None ≡ None → new ≡ old) → ((n : Node) → range (changed n change) ≡ range n) → AreAlike old new
alike-if_held old new slot change made kept same = cases (get_or old slot None) refl
  where
    cases : (x : Option Node) → get_or old slot None ≡ x → AreAlike old new
    cases None e = rw (kept e) (alike-refl old)
    cases (Some n) e = alike-changed old new slot change (held_here old slot n e) made same

-- the range of a node that has bytes
pub range_there : (m : Node) → 0 < m.size → range_in (Some m) ≡ Some (range m)
range_there m some = let e : (m.size == 0) ≡ false = grind arith in rw e refl

pub record NodeOf (x : Option Node) (q : Range) : Type 0 where
  pub node : Node
  pub there : x ≡ Some node
  pub same : range node ≡ q
  pub some : 0 < node.size

pub node_of : (x : Option Node) (q : Range) → range_in x ≡ Some q → NodeOf x q
node_of None q h = absurd cc
node_of (Some m) q h = cases m.size refl h
  where
    cases : (n : ℕ) → m.size ≡ n → range_in (Some m) ≡ Some q → NodeOf (Some m) q
    cases zero e h = absurd (let z : (m.size == 0) ≡ true = rw e refl in let n : range_in (Some m) ≡ None = rw z refl in let no : None ≡ Some q = sym n ∙ h in cc)
    cases (suc n) e h = let some : 0 < m.size = omega arith in record { node = m; there = refl; same = let t : Some (range m) ≡ Some q = sym (range_there m some) ∙ h in cc; some = some }

-- slots that hold nothing
none_more : (k i : ℕ) → get_or (replicate {A = Option Node} k None) i None ≡ None
none_more zero i = refl
none_more (suc k) zero = refl
none_more (suc k) (suc i) = none_more k i

pub get_more : (nodes : List (Option Node)) (k i : ℕ) → get_or (nodes ++ replicate k None) i None ≡ get_or nodes i None
get_more [] k i = none_more k i
get_more (x ∷ xs) k zero = refl
get_more (x ∷ xs) k (suc i) = get_more xs k i

pub alike-more : (nodes : List (Option Node)) (k : ℕ) → AreAlike nodes (nodes ++ replicate k None)
alike-more nodes k = record {
  ranges = λ i. ap range_in (get_more nodes k i);
  held = λ i h. rw (get_more nodes k i) h;
}

pub alike-take : (nodes : List (Option Node)) (slot : ℕ) → slot < length nodes → get_or nodes slot None ≡ None → AreAlike nodes (set nodes slot (Some empty_node))
alike-take nodes slot less none = record {
  ranges = λ i. elim (cases_eq i slot) [
    | inl e ↦ rw e (ap range_in (get_or-set_same nodes slot (Some empty_node) None less) ∙ sym (ap range_in none))
    | inr other ↦ ap range_in (get_or-set_other nodes slot i (Some empty_node) None other)
  ];
  held = λ i h. elim (cases_eq i slot) [
    | inl e ↦ rw (e, get_or-set_same nodes slot (Some empty_node) None less) refl
    | inr other ↦ rw (get_or-set_other nodes slot i (Some empty_node) None other) h
  ];
}
