-- The rows of a point, one after another: what is before each is what would be before it alone.
use Rattle.std.proofs.Common.{◌≡◌, inl, inr, ℕ, zero, suc, ◌<◌, List, [], ◌∷◌, map, length, Bool, true, false, ◌&&◌, ◌||◌, nat_lt, refl, ap, sym, ◌∙◌, subst, arith, Some}
use Rattle.std.specs.Prelude.{Contains, slice_get, option_map, if◌then◌else◌}
use Rattle.std.specs.List.{list_any, enumerate_from}
use Rattle.std.proofs.lemmas.Bool.{lt-ltb, ne_eqb, eq-eqb}
use Rattle.std.proofs.lemmas.Option.{slice_get-map}
use Rattle.std.proofs.Math.Bool.{and-false}
use Rattle.vk_model.specs.declared.command.Cmd.{Cmd}
use Rattle.vk_model.specs.declared.command.Cmd.TheVariants as cmd
use Rattle.vk_model.specs.declared.command.Element.TheVariants as element
use Rattle.vk_model.specs.declared.point.Point.{Point}
use Rattle.vk_model.specs.Trace.Point as spec
use Rattle.vk_model.specs.Trace.PointViews.{action_of, point_of}
use Rattle.vk_model.specs.Sync.Node.{Node, Act, Hosts, Waits, Signals, Runs, Depends, Barrier, SetOf, acts, command_acts, same_node, same_place}
use Rattle.vk_model.specs.Sync.Edge.{edge, is_element, is_command, pairs, siblings}
use Rattle.vk_model.specs.Sync.Before.{before, reached, IsNumbered}
use Rattle.vk_model.proofs.Lists.Members.{none_in, contains-cons, contains-head, contains-tail, none_passes_any, any_same, place_has, mapped_from}
use Rattle.vk_model.proofs.Sync.Numbers.{number_below}
use Rattle.vk_order.specs.declared.acts.Row.{Row}
use Rattle.vk_order.specs.NodeViews.{act_of, node_of, nodes_after}
use Rattle.vk_order.specs.Queries.{IsNew}
use Rattle.vk_order.specs.Wide.{IsApartFrom}
use Rattle.vk_order.proofs.ElementPlaces.{element_of, same_itself}
use Rattle.vk_order.proofs.PlaceLemmas.{apart_from}
use Rattle.vk_order.proofs.RowLemmas.{numbered_after}
use Rattle.vk_offers.specs.IsOffers.{is_run}
use Rattle.vk_offers.proofs.Growing.{run_acts}

-- ---- what is before the newest node

-- what is reached is there
reached_there : (m : Node) (ns : List Node) (k : Node) → Contains (reached m ns) k → Contains ns k
reached_there m [] k c = absurd (none_in k c)
reached_there m (n ∷ ns) k c = go (same_node m n || list_any (λ x. edge ns x n) (reached m ns)) c (reached_there m ns k)
  where
    go : (t : Bool) → Contains (if t then n ∷ reached m ns else reached m ns) k → (Contains (reached m ns) k → Contains ns k) → Contains (n ∷ ns) k
    go true c rest = elim (contains-cons n (reached m ns) k c) [
      | inl same ↦ subst (λ (x : Node). Contains (n ∷ ns) x) same (contains-head n ns)
      | inr old ↦ contains-tail n ns k (rest old)
    ]
    go false c rest = contains-tail n ns k (rest c)

module _ (n : Node) (ns : List Node) (numbers : IsNumbered (n ∷ ns)) (m : Node) (at : Contains ns m) where
  low : (k : Node) → Contains ns k → k.number < n.number
  low k c = let lt = number_below ns numbers.1 k c in let e = numbers.0 in omega (arith, lt, e)

  -- a node is before it where an edge leads to it from one that is reached
  by_last_edge : before (n ∷ ns) m n ≡ list_any (λ x. edge ns x n) (reached m ns)
  unfolding before
  by_last_edge =
      ap (λ (t : Bool). t && list_any (same_node n) (reached m (n ∷ ns))) (lt-ltb m.number n.number (low m at))
      ∙ ap (λ (t : Bool). list_any (same_node n) (if t || list_any (λ x. edge ns x n) (reached m ns) then n ∷ reached m ns else reached m ns))
      (ne_eqb m.number n.number (λ e. let lt = low m at in let bad : m.number ≡ n.number = e in omega (arith, lt, bad)))
      ∙ go (list_any (λ x. edge ns x n) (reached m ns))
    where
      go : (t : Bool) → list_any (same_node n) (if t then n ∷ reached m ns else reached m ns) ≡ t
      go true = ap (λ (b : Bool). b || list_any (same_node n) (reached m ns)) (eq-eqb n.number n.number refl)
      go false = none_passes_any (same_node n) (reached m ns)
          (λ k c. ne_eqb n.number k.number (λ e. let lt = low k (reached_there m ns k c) in let bad : n.number ≡ k.number = e in omega (arith, lt, bad)))

-- ---- elements of one command

-- Two rows are of elements of one command, and no set and its await.
pub record AreKin (y r : Row) : Type 0 where
  pub place : point_of y.point ≡ point_of r.point
  pub first : is_element (act_of y.act) ≡ true
  pub second : is_element (act_of r.act) ≡ true
  pub unpaired : pairs (act_of y.act) (act_of r.act) ≡ false

-- neither leads to the other
unled : (all : List Node) (i j : ℕ) (p : spec.Point) (a b : Act) → is_element a ≡ true → is_element b ≡ true → pairs a b ≡ false
    → edge all (record { number = i; point = p; act = a }) (record { number = j; point = p; act = b }) ≡ false
unfolding edge
unled all i j p (Depends r x) (Depends s y) first second unpaired = rw (same_itself p, eq-eqb p.queue p.queue refl, unpaired) (and-false (nat_lt i j))
unled all i j p (Hosts x) b first second unpaired = absurd cc
unled all i j p (Waits x) b first second unpaired = absurd cc
unled all i j p (Signals x) b first second unpaired = absurd cc
unled all i j p (Runs x) b first second unpaired = absurd cc
unled all i j p (Depends r x) (Hosts y) first second unpaired = absurd cc
unled all i j p (Depends r x) (Waits y) first second unpaired = absurd cc
unled all i j p (Depends r x) (Signals y) first second unpaired = absurd cc
unled all i j p (Depends r x) (Runs y) first second unpaired = absurd cc

kin_unled : (all : List Node) (i j : ℕ) (y r : Row) → AreKin y r → edge all (node_of i y) (node_of j r) ≡ false
kin_unled all i j y r kin =
    ap (λ (p : spec.Point). edge all (record { number = i; point = p; act = act_of y.act }) (node_of j r)) kin.place
    ∙ unled all i j (point_of r.point) (act_of y.act) (act_of r.act) kin.first kin.second kin.unpaired

-- what leads to an element doesn't look at later nodes, nor at its number
same_edge : (all ns : List Node) (x : Node) (i j : ℕ) (p : spec.Point) (a : Act) → is_element a ≡ true → x.number < i → x.number < j
    → edge all x (record { number = i; point = p; act = a }) ≡ edge ns x (record { number = j; point = p; act = a })
unfolding edge
same_edge all ns x i j p (Depends r e) is lt lower = rw (lt-ltb x.number i lt, lt-ltb x.number j lower) refl
same_edge all ns x i j p (Hosts y) is lt lower = absurd cc
same_edge all ns x i j p (Waits y) is lt lower = absurd cc
same_edge all ns x i j p (Signals y) is lt lower = absurd cc
same_edge all ns x i j p (Runs y) is lt lower = absurd cc

-- nodes that come and lead to none of some others change nothing there
passed_over : (f : Node → Bool) (m : Node) (ys : List Row) (os : List Node) → ((k j : ℕ) (y : Row) → slice_get ys j ≡ Some y → f (node_of k y) ≡ false)
    → list_any f (reached m (nodes_after os ys)) ≡ list_any f (reached m os)
passed_over f m [] os none = refl
passed_over f m (y ∷ ys) os none =
    passed_over f m ys (node_of (length os) y ∷ os) (λ k j z e. none k (suc j) z e)
    ∙ go (same_node m (node_of (length os) y) || list_any (λ x. edge os x (node_of (length os) y)) (reached m os))
  where
    go : (t : Bool) → list_any f (if t then node_of (length os) y ∷ reached m os else reached m os) ≡ list_any f (reached m os)
    go true = ap (λ (b : Bool). b || list_any f (reached m os)) (none (length os) 0 y refl)
    go false = refl

-- what was there is still there
pub still_there : (ns : List Node) (ys : List Row) (m : Node) → Contains ns m → Contains (nodes_after ns ys) m
still_there ns [] m c = c
still_there ns (y ∷ ys) m c = still_there (node_of (length ns) y ∷ ns) ys m (contains-tail (node_of (length ns) y) ns m c)

module _ (ns : List Node) (numbers : IsNumbered ns) (y : Row) (ys : List Row) (r : Row) (kin : (j : ℕ) (z : Row) → slice_get (y ∷ ys) j ≡ Some z → AreKin z r) (m : Node) (c : Contains ns m) where
  abbrev all : List Node
  all = nodes_after ns (y ∷ ys)

  abbrev n : Node
  n = node_of (length (nodes_after ns (y ∷ ys))) r

  abbrev alone : Node
  alone = node_of (length ns) r

  now : IsNumbered (node_of (length (nodes_after ns (y ∷ ys))) r ∷ nodes_after ns (y ∷ ys))
  now = (refl, numbered_after ns (y ∷ ys) numbers)

  among_kin : before (n ∷ all) m n ≡ before (alone ∷ ns) m alone
  among_kin =
      by_last_edge n all now m (still_there ns (y ∷ ys) m c)
      ∙ passed_over (λ x. edge all x n) m (y ∷ ys) ns (λ k j z e. kin_unled all k (length all) z r (kin j z e))
      ∙ any_same (λ x. edge all x n) (λ x. edge ns x alone) (reached m ns)
      (λ x d. let old = reached_there m ns x d in same_edge all ns x (length all) (length ns) (point_of r.point) (act_of r.act) (kin 0 y refl).second
      (number_below all now.1 x (still_there ns (y ∷ ys) x old)) (number_below ns numbers x old))
      ∙ sym (by_last_edge alone ns (refl, numbers) m c)

-- an older node is before a row among its kin as it is before it alone
pub same_before : (ns : List Node) → IsNumbered ns → (xs : List Row) (r : Row) → ((j : ℕ) (y : Row) → slice_get xs j ≡ Some y → AreKin y r) → (m : Node) → Contains ns m
    → before (node_of (length (nodes_after ns xs)) r ∷ nodes_after ns xs) m (node_of (length (nodes_after ns xs)) r) ≡ before (node_of (length ns) r ∷ ns) m (node_of (length ns) r)
same_before ns numbers [] r kin m c = refl
same_before ns numbers (y ∷ ys) r kin m c = among_kin ns numbers y ys r kin m c

-- ---- the rows of a point

-- of acts where one is behind another, the command has elements
elements_of : (d : spec.Action) (j i : ℕ) (a : Act) → j < i → slice_get (acts d) i ≡ Some a → (c : Cmd) × (d ≡ spec.Run c) × (is_run c ≡ false)
elements_of d j i a lt e = go d e
  where
    single : (b : Act) (i : ℕ) → j < i → slice_get (b ∷ []) i ≡ Some a → ⊥
    single b zero lt e = let bad : j < 0 = lt in omega (arith, bad)
    single b (suc i) lt e = cc

    of_command : (c : Cmd) (t : Bool) → is_run c ≡ t → slice_get (command_acts c) i ≡ Some a → (b : Cmd) × (spec.Run c ≡ spec.Run b) × (is_run b ≡ false)
    of_command c true is e = absurd (single (Runs c) i lt (subst (λ (as' : List Act). slice_get as' i ≡ Some a) (run_acts c is) e))
    of_command c false is e = (c, refl, is)

    go : (d : spec.Action) → slice_get (acts d) i ≡ Some a → (c : Cmd) × (d ≡ spec.Run c) × (is_run c ≡ false)
    go (spec.Host x) e = absurd (single (Hosts x) i lt e)
    go (spec.Wait s) e = absurd (single (Waits s) i lt e)
    go (spec.Signal s) e = absurd (single (Signals s) i lt e)
    go (spec.Run c) e = of_command c (is_run c) refl e

-- Two acts of elements of one command.
record AreElements (x a : Act) : Type 0 where
  pub first : is_element x ≡ true
  pub second : is_element a ≡ true
  pub unpaired : pairs x a ≡ false

both_elements : (c : Cmd) → is_run c ≡ false → (x a : Act) → Contains (command_acts c) x → Contains (command_acts c) a → AreElements x a
both_elements (cmd.Barrier es) is x a in_x in_a =
    let u = mapped_from (Depends Barrier) es x in_x in
    let v = mapped_from (Depends Barrier) es a in_a in
    record { first = ap is_element (sym u.2); second = ap is_element (sym v.2); unpaired = ap (λ (t : Act). pairs t a) (sym u.2) }
both_elements (cmd.Set v ms) is x a in_x in_a =
    let u = mapped_from _ (enumerate_from 0 ms) x in_x in
    let w = mapped_from _ (enumerate_from 0 ms) a in_a in
    record { first = ap is_element (sym u.2); second = ap is_element (sym w.2); unpaired = ap (λ (t : Act). pairs t a) (sym u.2) ∙ ap (λ (t : Act). pairs (Depends (SetOf v u.0.0) (element.Memory u.0.1)) t) (sym w.2) }
both_elements (cmd.Await v ms) is x a in_x in_a =
    let u = mapped_from _ (enumerate_from 0 ms) x in_x in
    let w = mapped_from _ (enumerate_from 0 ms) a in_a in
    record { first = ap is_element (sym u.2); second = ap is_element (sym w.2); unpaired = ap (λ (t : Act). pairs t a) (sym u.2) }
both_elements (cmd.Fill b o n w) is x a in_x in_a = absurd cc
both_elements (cmd.Update b o bytes) is x a in_x in_a = absurd cc
both_elements (cmd.Copy s d gs) is x a in_x in_a = absurd cc
both_elements (cmd.Clear i l color rs) is x a in_x in_a = absurd cc
both_elements (cmd.CopyIn b i l gs) is x a in_x in_a = absurd cc
both_elements (cmd.CopyOut i l b gs) is x a in_x in_a = absurd cc
both_elements (cmd.CopyImage s l d m gs) is x a in_x in_a = absurd cc

element_no_command : (a : Act) → is_element a ≡ true → is_command a ≡ false
element_no_command (Depends r e) is = refl
element_no_command (Hosts x) is = absurd cc
element_no_command (Waits s) is = absurd cc
element_no_command (Signals s) is = absurd cc
element_no_command (Runs c) is = absurd cc

module _ (p : Point) (rows : List Row) (points : (i : ℕ) (r : Row) → slice_get rows i ≡ Some r → r.point ≡ p) (are : map (λ r. act_of r.act) rows ≡ acts (action_of p.action)) where
  act_at : (i : ℕ) (r : Row) → slice_get rows i ≡ Some r → slice_get (acts (action_of p.action)) i ≡ Some (act_of r.act)
  act_at i r e = ap (λ (l : List Act). slice_get l i) (sym are) ∙ slice_get-map (λ (q : Row). act_of q.act) rows i ∙ ap (option_map (λ (q : Row). act_of q.act)) e

  pub kin_at : (j i : ℕ) (y r : Row) → j < i → slice_get rows j ≡ Some y → slice_get rows i ≡ Some r → AreKin y r
  kin_at j i y r lt at_y at_r =
      let of = elements_of (action_of p.action) j i (act_of r.act) lt (act_at i r at_r) in
      let in_y = subst (λ (d : spec.Action). Contains (acts d) (act_of y.act)) of.1 (place_has (acts (action_of p.action)) j (act_of y.act) (act_at j y at_y)) in
      let in_r = subst (λ (d : spec.Action). Contains (acts d) (act_of r.act)) of.1 (place_has (acts (action_of p.action)) i (act_of r.act) (act_at i r at_r)) in
      let both = both_elements of.0 of.2 (act_of y.act) (act_of r.act) in_y in_r in
      record {
        place = ap point_of (points j y at_y ∙ sym (points i r at_r));
        first = both.first;
        second = both.second;
        unpaired = both.unpaired;
      }

  -- neither the ones before a row nor those behind it are commands
  pub early_plain : (j i : ℕ) (y r : Row) → j < i → slice_get rows j ≡ Some y → slice_get rows i ≡ Some r → is_command (act_of y.act) ≡ false
  early_plain j i y r lt at_y at_r = element_no_command (act_of y.act) (kin_at j i y r lt at_y at_r).first

  pub late_plain : (j i : ℕ) (y r : Row) → j < i → slice_get rows j ≡ Some y → slice_get rows i ≡ Some r → is_command (act_of r.act) ≡ false
  late_plain j i y r lt at_y at_r = element_no_command (act_of r.act) (kin_at j i y r lt at_y at_r).second

  -- no node is an element of the same command yet
  pub row_apart : (ns : List Node) → IsNew (point_of p) ns → (i : ℕ) (r : Row) → slice_get rows i ≡ Some r → IsApartFrom ns (node_of (length ns) r)
  row_apart ns new i r at = go (is_element (act_of r.act)) refl
    where
      go : (t : Bool) → is_element (act_of r.act) ≡ t → IsApartFrom ns (node_of (length ns) r)
      go false none = apart_from ns (node_of (length ns) r) none
      go true is = λ k c. other k c (is_element k.act) refl
        where
          of : (c : Cmd) × (action_of p.action ≡ spec.Run c)
          of = element_of (action_of p.action) (act_of r.act) (place_has (acts (action_of p.action)) i (act_of r.act) (act_at i r at)) is

          other : (k : Node) → Contains ns k → (t : Bool) → is_element k.act ≡ t → siblings k (node_of (length ns) r) ≡ false
          other k c false e = ap (λ (t : Bool). t && is_element (act_of r.act) && same_place k.point (point_of r.point)) e
          other k c true e =
              ap (λ (t : Bool). t && is_element (act_of r.act) && same_place k.point (point_of r.point)) e
              ∙ ap (λ (t : Bool). t && same_place k.point (point_of r.point)) is
              ∙ ap (λ (q : Point). same_place k.point (point_of q)) (points i r at) ∙ new of.0 of.1 k c e
