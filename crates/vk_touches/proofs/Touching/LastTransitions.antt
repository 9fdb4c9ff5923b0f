-- The last transition of a byte after a point.
use Rattle.std.proofs.Common.{◌≡◌, ◌<◌, ℕ, ◌+◌, List, [], ◌∷◌, ◌++◌, length, map, Bool, true, false, ◌||◌, refl, ap, sym, ◌∙◌, subst, arith, Option, Some, None}
use Rattle.std.specs.Prelude.{Contains}
use Rattle.std.specs.List.{list_any}
use Rattle.std.specs.Option.{option_map, option_or}
use Rattle.vk_model.specs.declared.command.Cmd.TheVariants as cmd
use Rattle.vk_model.specs.declared.command.Element.{Element}
use Rattle.vk_model.specs.World.Bytes.{Byte}
use Rattle.vk_model.specs.Trace.Point.{Past, Point, Action, Run}
use Rattle.vk_model.specs.Sync.Node.{Node, Act, Depends, Barrier, nodes, acts, with_acts}
use Rattle.vk_model.proofs.Lists.Members.{contains-head}
use Rattle.vk_model.proofs.Sync.Numbers.{numbered, number_below}
use Rattle.vk_model.proofs.Sync.NewNodes.{with_acts_keeps}
use Rattle.vk_laws.proofs.Nodes.Counts.{more_nodes}
use Rattle.vk_order.specs.Barriers.{element_node}
use Rattle.vk_touches.specs.Touched.{only_if, is_transition_of, has_transition, last_element, transition_next, last_transition, transition_spot, spot_of}
use Rattle.vk_touches.proofs.Touching.LastNodes.{last_found}
use Rattle.vk_touches.proofs.Touching.Spots.{spot_stays}

-- ---- the last element that passes a test

module _ (p : Point) (test : Element → Bool) where
  -- it is one of them, and no later one passes
  pub record IsLastElement (k : ℕ) (es : List Element) (v : Node) : Type 0 where
    pub front : List Element
    pub element : Element
    pub back : List Element
    pub whole : es ≡ front ++ element ∷ back
    pub node_is : element_node p (k + length front) element ≡ v
    pub passes : test element ≡ true
    pub none_later : list_any test back ≡ false

  pub none_passes : (k : ℕ) (es : List Element) → last_element p test k es ≡ None → list_any test es ≡ false
  none_passes k [] is = refl
  none_passes k (e ∷ es) is = go (last_element p test (k + 1) es) refl (test e) refl is (none_passes (k + 1) es) where
    go : (o : Option Node) → last_element p test (k + 1) es ≡ o → (t : Bool) → test e ≡ t → option_or o (only_if t (element_node p k e)) ≡ None → (last_element p test (k + 1) es ≡ None → list_any test es ≡ false) → (test e || list_any test es) ≡ false
    go None h true te is rest = absurd cc
    go None h false te is rest = rw (te, rest h) refl
    go (Some v) h t te is rest = absurd cc

  pub no_element : (k : ℕ) (es : List Element) → list_any test es ≡ false → last_element p test k es ≡ None
  no_element k [] none = refl
  no_element k (e ∷ es) none = go (test e) refl (list_any test es) refl none (no_element (k + 1) es) where
    go : (t : Bool) → test e ≡ t → (u : Bool) → list_any test es ≡ u → (t || u) ≡ false → (list_any test es ≡ false → last_element p test (k + 1) es ≡ None) → option_or (last_element p test (k + 1) es) (only_if (test e) (element_node p k e)) ≡ None
    go true te u ue none rest = absurd cc
    go false te true ue none rest = absurd cc
    go false te false ue none rest = rw (rest ue, te) refl

  pub last_element_is : (k : ℕ) (es : List Element) (v : Node) → last_element p test k es ≡ Some v → IsLastElement k es v
  last_element_is k [] v is = absurd cc
  last_element_is k (e ∷ es) v is = go (last_element p test (k + 1) es) refl (test e) refl is (last_element_is (k + 1) es v) where
    go : (o : Option Node) → last_element p test (k + 1) es ≡ o → (t : Bool) → test e ≡ t → option_or o (only_if t (element_node p k e)) ≡ Some v → (last_element p test (k + 1) es ≡ Some v → IsLastElement (k + 1) es v) → IsLastElement k (e ∷ es) v
    go None h true te is rest =
        let own : element_node p k e ≡ v = cc in
        record { front = []; element = e; back = es; whole = refl; node_is = ap (λ (j : ℕ). element_node p j e) (omega arith) ∙ own; passes = te; none_later = none_passes (k + 1) es h }
    go None h false te is rest = absurd cc
    go (Some w) h t te is rest =
        let r = rest (h ∙ is) in
        let more : k + length (e ∷ r.front) ≡ k + 1 + length r.front = omega arith in
        record { front = e ∷ r.front; element = r.element; back = r.back; whole = ap (λ (l : List Element). e ∷ l) r.whole; node_is = ap (λ (j : ℕ). element_node p j r.element) more ∙ r.node_is; passes = r.passes; none_later = r.none_later }

-- the node of an element is there when its barrier has come
pub element_there : (p : Point) (front back : List Element) (e : Element) (ns : List Node) → Contains (with_acts p (map (Depends Barrier) (front ++ e ∷ back)) ns) (element_node p (length ns + length front) e)
element_there p [] back e ns =
    let n : Node = element_node p (length ns) e in
    let same : length ns ≡ length ns + 0 = omega arith in
    subst (λ (j : ℕ). Contains (with_acts p (map (Depends Barrier) back) (n ∷ ns)) (element_node p j e)) same (with_acts_keeps p (map (Depends Barrier) back) (n ∷ ns) n (contains-head n ns))
element_there p (f ∷ front) back e ns =
    let n : Node = element_node p (length ns) f in
    let same : length (n ∷ ns) + length front ≡ length ns + length (f ∷ front) = omega arith in
    subst (λ (j : ℕ). Contains (with_acts p (map (Depends Barrier) (front ++ e ∷ back)) (n ∷ ns)) (element_node p j e)) same (element_there p front back e (n ∷ ns))

-- ---- the transition that a point gives

-- it is an element of its barrier, and no later one is a transition of the byte
pub record IsTransitionAt (b : Byte) (past : Past) (p : Point) (d : Action) (v : Node) : Type 0 where
  pub elements : List Element
  pub runs : d ≡ Run (cmd.Barrier elements)
  pub is_last : IsLastElement p (is_transition_of (p ∷ past) p.queue b) (length (nodes past)) elements v

pub transition_is : (b : Byte) (past : Past) (p : Point) (d : Action) (v : Node) → transition_next b past p d ≡ Some v → IsTransitionAt b past p d v
transition_is b past p (Run (cmd.Barrier es)) v is = record { elements = es; runs = refl; is_last = last_element_is p (is_transition_of (p ∷ past) p.queue b) (length (nodes past)) es v is }
transition_is b past p _ v is = absurd cc

pub no_transition : (b : Byte) (past : Past) (p : Point) (d : Action) → has_transition b past p d ≡ false → transition_next b past p d ≡ None
no_transition b past p (Run (cmd.Barrier es)) none = no_element p (is_transition_of (p ∷ past) p.queue b) (length (nodes past)) es none
no_transition b past p _ none = refl

-- it is one of the point's nodes
pub transition_there : (b : Byte) (past : Past) (p : Point) (v : Node) → transition_next b past p p.action ≡ Some v → Contains (nodes (p ∷ past)) v
transition_there b past p v is =
    let t = transition_is b past p p.action v is in
    let l = t.is_last in
    let all : acts p.action ≡ map (Depends Barrier) (l.front ++ l.element ∷ l.back) = ap acts t.runs ∙ ap (map (Depends Barrier)) l.whole in
    subst (λ (n : Node). Contains (nodes (p ∷ past)) n) l.node_is
    (subst (λ (more : List Act). Contains (with_acts p more (nodes past)) (element_node p (length (nodes past) + length l.front) l.element)) (sym all) (element_there p l.front l.back l.element (nodes past)))

pub transition_low : (past : Past) (b : Byte) (v : Node) → last_transition past b ≡ Some v → v.number < length (nodes past)
transition_low past b v is =
    let l = last_found (transition_next b) past v is in
    let low = number_below (nodes (l.at ∷ l.before)) (numbered (l.at ∷ l.before)) v (transition_there b l.before l.at v l.gives) in
    let more = more_nodes l.newer (l.at ∷ l.before) in
    let whole : length (nodes past) ≡ length (nodes (l.newer ++ l.at ∷ l.before)) = ap (λ (q : Past). length (nodes q)) l.whole in
    omega (arith, low, more, whole)

-- ---- where the last transition is, after a point

pub transition_step : (past : Past) (p : Point) (b : Byte) → transition_spot (p ∷ past) b ≡ option_or (option_map (spot_of (p ∷ past)) (transition_next b past p p.action)) (transition_spot past b)
transition_step past p b = go (transition_next b past p p.action) where
  kept : (o : Option Node) → last_transition past b ≡ o → option_map (spot_of (p ∷ past)) o ≡ option_map (spot_of past) o
  kept None e = refl
  kept (Some v) e = ap Some (spot_stays past p v (transition_low past b v e))

  go : (o : Option Node) → option_map (spot_of (p ∷ past)) (option_or o (last_transition past b)) ≡ option_or (option_map (spot_of (p ∷ past)) o) (transition_spot past b)
  go None = kept (last_transition past b) refl
  go (Some v) = refl

-- where it was, unless the point has one
pub transition_stays : (past : Past) (p : Point) (b : Byte) → has_transition b past p p.action ≡ false → transition_spot (p ∷ past) b ≡ transition_spot past b
transition_stays past p b none = transition_step past p b ∙ ap (λ (o : Option Node). option_or (option_map (spot_of (p ∷ past)) o) (transition_spot past b)) (no_transition b past p p.action none)
