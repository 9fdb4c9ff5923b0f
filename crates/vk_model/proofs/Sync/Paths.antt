-- `before` is the relation of paths of edges. Other crates cite it.
use Rattle.std.proofs.Common.{◌≡◌, ◌<◌, ◌≤◌, List, [], ◌∷◌, length, Bool, true, false, ◌||◌, refl, ap, sym, ◌∙◌, subst, arith, inl, inr, ◌⊎◌, IsTrue}
use Rattle.std.specs.Prelude.{nat_lt, Contains, if◌then◌else◌, ◌↔◌}
use Rattle.std.specs.List.{list_any}
use Rattle.std.proofs.lemmas.Bool.{ne_eqb, eqb-true, eq-eqb, ltb-true, lt-ltb, and_parts}
use Rattle.vk_model.specs.Trace.Point.{Past}
use Rattle.vk_model.specs.Sync.Node.{Node, nodes, same_node}
use Rattle.vk_model.specs.Sync.Edge.{edge}
use Rattle.vk_model.specs.Sync.Before.{before, reached, Path, direct, longer, IsNumbered}
use Rattle.vk_model.proofs.Lists.Members.{none_in, contains-cons, contains-head, contains-tail, some_member, member_passes}
use Rattle.vk_model.proofs.Sync.Numbers.{number_below, numbered, unique, in_rest, edge-older, edge-new}

-- ---- edges and paths

-- an edge leads to a greater number
pub edge_forward : (ns : List Node) (m n : Node) → IsTrue (edge ns m n) → m.number < n.number
unfolding edge
edge_forward ns m n e = ltb-true m.number n.number (and_parts _ _ e).0

-- a path leads to a greater number
pub forward : (ns : List Node) (m n : Node) → Path ns m n → m.number < n.number
forward ns m n (direct c d e) = edge_forward ns m n e
forward ns m n (longer {k = k} p d e) = let one = forward ns m k p in let two = edge_forward ns k n e in omega arith

pub source : (ns : List Node) (m n : Node) → Path ns m n → Contains ns m
source ns m n (direct c d e) = c
source ns m n (longer {k = k} p d e) = source ns m k p

-- a path ends at a node that is there
pub target : (ns : List Node) (m n : Node) → Path ns m n → Contains ns n
target ns m n (direct c d e) = d
target ns m n (longer p d e) = d

-- paths join
pub joined : (ns : List Node) (l m n : Node) → Path ns l m → Path ns m n → Path ns l n
joined ns l m n p (direct c d e) = longer p d e
joined ns l m n p (longer {k = k} q d e) = longer (joined ns l m k p q) d e

-- ---- one node more

module _ (n : Node) (ns : List Node) (new : n.number ≡ length ns) (numbers : IsNumbered ns) where
  -- paths among the older nodes are paths
  lifted : (a b : Node) → Path ns a b → Path (n ∷ ns) a b
  lifted a b (direct c d e) = direct (contains-tail n ns a c) (contains-tail n ns b d) (rw (edge-older n ns new a b (number_below ns numbers b d)) e)
  lifted a b (longer {k = k} p d e) = longer (lifted a k p) (contains-tail n ns b d) (rw (edge-older n ns new k b (number_below ns numbers b d)) e)

  -- and a path to an older node stays among them
  restricted : (a b : Node) → Path (n ∷ ns) a b → b.number < length ns → Path ns a b
  restricted a b (direct c d e) lt =
      let less = edge_forward (n ∷ ns) a b e in
      direct (in_rest n ns new a c (omega arith)) (in_rest n ns new b d lt) (rw (edge-older n ns new a b lt) at e)
  restricted a b (longer {k = k} p d e) lt =
      let less = edge_forward (n ∷ ns) k b e in
      longer (restricted a k p (omega arith)) (in_rest n ns new b d lt) (rw (edge-older n ns new k b lt) at e)

-- nothing older is reached from a newer node
reached_none : (ns : List Node) (x : Node) → IsNumbered ns → length ns ≤ x.number → reached x ns ≡ []
reached_none [] x numbers le = refl
reached_none (n ∷ ns) x numbers le =
    let none = reached_none ns x numbers.1 (omega arith) in
    let other : same_node x n ≡ false = ne_eqb x.number n.number (λ e. let bad : x.number ≡ n.number = e in let here = numbers.0 in omega arith) in
    rw (none, other) refl

abbrev Reached : List Node → Node → Node → Type 0
Reached ns x y = (y ≡ x) ⊎ Path ns x y

pub reached_paths : (ns : List Node) → IsNumbered ns → (x : Node) → Contains ns x → (y : Node) → (Contains (reached x ns) y → Reached ns x y) × (Reached ns x y → Contains (reached x ns) y)
reached_paths [] numbers x c y = absurd (none_in x c)
reached_paths (n ∷ ns) numbers x c y = elim (contains-cons n ns x c) [
  | inl same ↦ at_head same
  | inr older ↦ further older (λ z. reached_paths ns numbers.1 x older z)
]
  where
    test : Bool
    test = same_node x n || list_any (λ m. edge ns m n) (reached x ns)

    -- the node itself, which is the newest
    at_head : n ≡ x → (Contains (reached x (n ∷ ns)) y → Reached (n ∷ ns) x y) × (Reached (n ∷ ns) x y → Contains (reached x (n ∷ ns)) y)
    at_head same =
        let here : n.number ≡ x.number = ap (λ (m : Node). m.number) same in
        let none : reached x ns ≡ [] = reached_none ns x numbers.1 (let new = numbers.0 in omega arith) in
        let found : same_node x n ≡ true = eq-eqb x.number n.number (sym here) in
        let all : reached x (n ∷ ns) ≡ n ∷ [] = rw (none, found) refl in (
          λ at. elim (contains-cons n [] y (subst (λ (l : List Node). Contains l y) all at)) [
            | inl same_y ↦ inl (sym same_y ∙ same)
            | inr later ↦ absurd (let no_one : later.0 < 0 = later.1 in omega arith)
          ],
          λ r. subst (λ (l : List Node). Contains l y) (sym all) (only r here),
        )
      where
        only : Reached (n ∷ ns) x y → n.number ≡ x.number → Contains (n ∷ []) y
        only (inl e) here = subst (λ (z : Node). Contains (n ∷ []) z) (same ∙ sym e) (contains-head n [])
        only (inr p) here =
            let lt = forward (n ∷ ns) x y p in
            let low = number_below (n ∷ ns) numbers y (target (n ∷ ns) x y p) in
            let new = numbers.0 in absurd (omega arith)

    further : Contains ns x → ((z : Node) → (Contains (reached x ns) z → Reached ns x z) × (Reached ns x z → Contains (reached x ns) z))
        → (Contains (reached x (n ∷ ns)) y → Reached (n ∷ ns) x y) × (Reached (n ∷ ns) x y → Contains (reached x (n ∷ ns)) y)
    further older known = (to_path, to_list)
      where
        new : n.number ≡ length ns
        new = numbers.0

        other : same_node x n ≡ false
        other = ne_eqb x.number n.number (λ e. let bad : x.number ≡ n.number = e in let lt = number_below ns numbers.1 x older in let here = new in omega arith)

        lift : (z : Node) → Reached ns x z → Reached (n ∷ ns) x z
        lift z (inl e) = inl e
        lift z (inr p) = inr (lifted n ns new numbers.1 x z p)

        by_edge : (m : Node) → Reached ns x m → edge ns m n ≡ true → Path (n ∷ ns) x n
        by_edge m (inl e) is = direct (contains-tail n ns x older) (contains-head n ns) (rw (edge-new n ns x) (ap (λ (k : Node). edge ns k n) (sym e) ∙ is))
        by_edge m (inr p) is = longer (lifted n ns new numbers.1 x m p) (contains-head n ns) (rw (edge-new n ns m) is)

        path_to_new : list_any (λ m. edge ns m n) (reached x ns) ≡ true → Path (n ∷ ns) x n
        path_to_new e = let m = some_member (λ m. edge ns m n) (reached x ns) e in by_edge m.0 ((known m.0).0 m.1) m.2

        split : (t : Bool) → list_any (λ m. edge ns m n) (reached x ns) ≡ t → Contains (if t then n ∷ reached x ns else reached x ns) y → Reached (n ∷ ns) x y
        split false e at = lift y ((known y).0 at)
        split true e at = elim (contains-cons n (reached x ns) y at) [
          | inl same ↦ inr (subst (λ (z : Node). Path (n ∷ ns) x z) same (path_to_new e))
          | inr later ↦ lift y ((known y).0 later)
        ]

        shape : reached x (n ∷ ns) ≡ (if list_any (λ m. edge ns m n) (reached x ns) then n ∷ reached x ns else reached x ns)
        shape = rw other refl

        to_path : Contains (reached x (n ∷ ns)) y → Reached (n ∷ ns) x y
        to_path at = split (list_any (λ m. edge ns m n) (reached x ns)) refl (subst (λ (l : List Node). Contains l y) shape at)

        kept : (t : Bool) → Contains (reached x ns) y → Contains (if t then n ∷ reached x ns else reached x ns) y
        kept false at = at
        kept true at = contains-tail n (reached x ns) y at

        at_new : (t : Bool) → list_any (λ m. edge ns m n) (reached x ns) ≡ t → t ≡ true → n ≡ y → Contains (if t then n ∷ reached x ns else reached x ns) y
        at_new false e bad same = absurd cc
        at_new true e good same = subst (λ (z : Node). Contains (n ∷ reached x ns) z) same (contains-head n (reached x ns))

        edge_found : (m : Node) → Reached ns x m → edge (n ∷ ns) m n ≡ true → list_any (λ m. edge ns m n) (reached x ns) ≡ true
        edge_found m r e = member_passes (λ m. edge ns m n) (reached x ns) m ((known m).1 r) (rw (edge-new n ns m) at e)

        last_edge : Path (n ∷ ns) x n → list_any (λ m. edge ns m n) (reached x ns) ≡ true
        last_edge (direct c d e) = edge_found x (inl refl) e
        last_edge (longer {k = k} p d e) =
            let lt = edge_forward (n ∷ ns) k n e in
            edge_found k (inr (restricted n ns new numbers.1 x k p (omega arith))) e

        list_of : Reached (n ∷ ns) x y → Contains (if list_any (λ m. edge ns m n) (reached x ns) then n ∷ reached x ns else reached x ns) y
        list_of (inl e) = kept (list_any (λ m. edge ns m n) (reached x ns)) ((known y).1 (inl e))
        list_of (inr p) = elim (contains-cons n ns y (target (n ∷ ns) x y p)) [
          | inl same ↦ at_new (list_any (λ m. edge ns m n) (reached x ns)) refl (last_edge (subst (λ (z : Node). Path (n ∷ ns) x z) (sym same) p)) same
          | inr later ↦ kept (list_any (λ m. edge ns m n) (reached x ns)) ((known y).1 (inr (restricted n ns new numbers.1 x y p (number_below ns numbers.1 y later))))
        ]

        to_list : Reached (n ∷ ns) x y → Contains (reached x (n ∷ ns)) y
        to_list r = subst (λ (l : List Node). Contains l y) (sym shape) (list_of r)

-- ---- the laws

-- what is before a node has a smaller number
pub leads_on : (ns : List Node) (x y : Node) → IsTrue (before ns x y) → x.number < y.number
unfolding before
leads_on ns x y e = ltb-true x.number y.number (and_parts (nat_lt x.number y.number) (list_any (same_node y) (reached x ns)) e).0

before_found : (ns : List Node) (x y : Node) → IsTrue (before ns x y) → list_any (same_node y) (reached x ns) ≡ true
unfolding before
before_found ns x y e = (and_parts (nat_lt x.number y.number) (list_any (same_node y) (reached x ns)) e).1

found_before : (ns : List Node) (x y : Node) → x.number < y.number → list_any (same_node y) (reached x ns) ≡ true → IsTrue (before ns x y)
unfolding before
found_before ns x y lt e = rw (lt-ltb x.number y.number lt, e) refl

-- what is reached is among the nodes
reached_present : (ns : List Node) → IsNumbered ns → (x y : Node) → Contains ns x → Contains (reached x ns) y → Contains ns y
reached_present ns numbers x y c at = present ((reached_paths ns numbers x c y).0 at)
  where
    present : Reached ns x y → Contains ns y
    present (inl e) = subst (λ (z : Node). Contains ns z) (sym e) c
    present (inr p) = target ns x y p

module _ (ns : List Node) (numbers : IsNumbered ns) (x y : Node) (cx : Contains ns x) (cy : Contains ns y) where
  pub path_of_before : IsTrue (before ns x y) → Path ns x y
  path_of_before e =
      let lt = leads_on ns x y e in
      let z = some_member (same_node y) (reached x ns) (before_found ns x y e) in
      let same : y ≡ z.0 = unique ns numbers y z.0 cy (reached_present ns numbers x z.0 cx z.1) (eqb-true y.number z.0.number z.2) in
      elim ((reached_paths ns numbers x cx y).0 (subst (λ (n : Node). Contains (reached x ns) n) (sym same) z.1)) [
        | inl itself ↦ absurd (let bad : y.number ≡ x.number = ap (λ (n : Node). n.number) itself in omega arith)
        | inr p ↦ p
      ]

  pub before_of_path : Path ns x y → IsTrue (before ns x y)
  before_of_path p =
      found_before ns x y (forward ns x y p) (member_passes (same_node y) (reached x ns) y ((reached_paths ns numbers x cx y).1 (inr p)) (eq-eqb y.number y.number refl))

pub before_path : (past : Past) (x y : Node) → Contains (nodes past) x → Contains (nodes past) y → IsTrue (before (nodes past) x y) ↔ Path (nodes past) x y
before_path past x y cx cy = (path_of_before (nodes past) (numbered past) x y cx cy, before_of_path (nodes past) (numbered past) x y cx cy)

pub transitive : (past : Past) (x y z : Node) → Contains (nodes past) x → Contains (nodes past) y → Contains (nodes past) z
    → IsTrue (before (nodes past) x y) → IsTrue (before (nodes past) y z) → IsTrue (before (nodes past) x z)
transitive past x y z cx cy cz a b =
    (before_path past x z cx cz).1 (joined (nodes past) x y z ((before_path past x y cx cy).0 a) ((before_path past y z cy cz).0 b))
