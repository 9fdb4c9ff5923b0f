-- Nodes after one that passes a test: by the first such nodes of lines, and by elements of sets.
use Rattle.std.proofs.Common.{◌≡◌, ◌⊎◌, inl, inr, ⊎_elim, ℕ, ◌≤◌, List, [], Bool, true, false, ◌&&◌, ◌||◌, IsTrue, Some, refl, ap, sym, ◌∙◌, subst, arith}
use Rattle.std.specs.Prelude.{nat_lt, Contains, slice_get}
use Rattle.std.proofs.lemmas.Bool.{and_parts, and_from, or_left, or_right, or_cases, eqb-true, eq-eqb}
use Rattle.std.proofs.lemmas.Option.{slice_get_within}
use Rattle.vk_model.specs.Sync.Node.{Node, Act, Hosts, Waits, Signals, Runs, Depends, Barrier, SetOf, AwaitOf, same_node}
use Rattle.vk_model.specs.Sync.Edge.{edge}
use Rattle.vk_model.specs.Sync.Before.{before, direct, IsNumbered}
use Rattle.vk_model.proofs.Lists.Members.{member_passes, some_member}
use Rattle.vk_model.proofs.Lists.Truths.{no}
use Rattle.vk_model.proofs.Sync.Numbers.{unique}
use Rattle.vk_model.proofs.Sync.Paths.{before_of_path, path_of_before, joined}
use Rattle.vk_order.specs.declared.acts.Row.{Row}
use Rattle.vk_order.specs.declared.clocks.Stamp.{Stamp}
use Rattle.vk_order.specs.declared.lines.Line.{Line}
use Rattle.vk_order.specs.declared.writes.First.{First}
use Rattle.vk_order.specs.NodeViews.{act_of, node_of, nodes_after}
use Rattle.vk_order.specs.Lines.{line_of, line_on, class_of}
use Rattle.vk_order.specs.Edges.{unsignaled}
use Rattle.vk_order.specs.Inner.Kept.{IsSet, IsStamped}
use Rattle.vk_order.specs.Inner.Availability.{is_set_element, is_carried, is_marked, is_after, AreFirsts}
use Rattle.vk_order.proofs.RowLemmas.{numbered_after}
use Rattle.vk_order.proofs.NamedLemmas.{node_there}
use Rattle.vk_order.proofs.BeforeLemmas.{node_row, by_first}
use Rattle.vk_order.proofs.SetLemmas.{set_edge, set_to_line}
use Rattle.vk_order.proofs.ClockLemmas.{place-grows}
use Rattle.vk_model.proofs.Lists.Items.{item_at}

set_of : (a : Act) → is_set_element a ≡ true → IsSet a
set_of (Hosts x) h = no h
set_of (Waits s) h = no h
set_of (Signals s) h = no h
set_of (Runs c) h = no h
set_of (Depends Barrier e) h = no h
set_of (Depends (SetOf v k) e) h = (v, k, e, refl)
set_of (Depends (AwaitOf v k) e) h = no h

not_set : (q : ℕ) (a : Act) (l : Line) → line_on q a ≡ Some l → is_set_element a ≡ false
not_set q (Hosts x) l h = refl
not_set q (Waits s) l h = refl
not_set q (Signals s) l h = refl
not_set q (Runs c) l h = refl
not_set q (Depends Barrier e) l h = refl
not_set q (Depends (SetOf v k) e) l h = absurd cc
not_set q (Depends (AwaitOf v k) e) l h = refl

module _ (rows : List Row) (test : Node → Bool) where
  abbrev all : List Node
  all = nodes_after [] rows

  numbers : IsNumbered (nodes_after [] rows)
  numbers = numbered_after [] rows tt

  -- the edge of an element of a set
  link : (s n : Node) → Contains all s → Contains all n → is_set_element s.act ≡ true → edge all s n ≡ (nat_lt s.number n.number && unsignaled s n)
  link s n cs cn is =
      let a = node_row rows s s.number cs refl in
      let b = node_row rows n n.number cn refl in
      let known = set_edge rows s.number a.0 a.1 (set_of (act_of a.0.act) (ap (λ (m : Node). is_set_element m.act) (sym a.2) ∙ is)) n.number b.0 b.1 in
      ap (λ (m : Node). edge all m n) a.2 ∙ ap (edge all (node_of s.number a.0)) b.2 ∙ known
      ∙ ap (λ (m : Node). nat_lt s.number n.number && unsignaled m (node_of n.number b.0)) (sym a.2) ∙ ap (λ (m : Node). nat_lt s.number n.number && unsignaled s m) (sym b.2)

  edge_before : (s n : Node) → Contains all s → Contains all n → IsTrue (edge all s n) → IsTrue (before all s n)
  edge_before s n cs cn e = before_of_path all numbers s n cs cn (direct cs cn e)

  transitive : (l m n : Node) → Contains all l → Contains all m → Contains all n → IsTrue (before all l m) → IsTrue (before all m n) → IsTrue (before all l n)
  transitive l m n hl hm hn a b = before_of_path all numbers l n hl hn (joined all l m n (path_of_before all numbers l m hl hm a) (path_of_before all numbers m n hm hn b))

  after_from : (p n : Node) → Contains all p → test p ≡ true → IsTrue (same_node p n || before all p n) → is_after all test n ≡ true
  after_from p n cp t way = member_passes (λ p. test p && (same_node p n || before all p n)) all p cp (and_from (test p) (same_node p n || before all p n) t way)

  pub marked_after : (n : Node) → Contains all n → is_marked all test n ≡ true → is_after all test n ≡ true
  marked_after n cn h = ⊎_elim
      (λ t. after_from n n cn t (or_left (same_node n n) (before all n n) (eq-eqb n.number n.number refl)))
      (λ carried.
      let s = some_member (λ s. is_set_element s.act && test s && (nat_lt s.number n.number && unsignaled s n)) all carried in
      let parts = and_parts (is_set_element s.0.act && test s.0) (nat_lt s.0.number n.number && unsignaled s.0 n) s.2 in
      let two = and_parts (is_set_element s.0.act) (test s.0) parts.0 in
      after_from s.0 n s.1 two.1 (or_right (same_node s.0 n) (before all s.0 n) (edge_before s.0 n s.1 cn (link s.0 n s.1 cn two.0 ∙ parts.1))))
      (or_cases (test n) (is_carried all test n) h)

  pub first_after : (f n : Node) → Contains all f → Contains all n → is_marked all test f ≡ true → IsTrue (before all f n) → is_after all test n ≡ true
  first_after f n cf cn marked h =
      let p = some_member (λ p. test p && (same_node p f || before all p f)) all (marked_after f cf marked) in
      let parts = and_parts (test p.0) (same_node p.0 f || before all p.0 f) p.2 in
      after_from p.0 n p.1 parts.0 (or_right (same_node p.0 n) (before all p.0 n) (⊎_elim
      (λ e. subst (λ (m : Node). IsTrue (before all m n)) (sym (unique all numbers p.0 f p.1 cf (eqb-true p.0.number f.number e))) h)
      (λ b. transitive p.0 f n p.1 cf cn b h)
      (or_cases (same_node p.0 f) (before all p.0 f) parts.1)))

  -- a marked node that is no element of a set
  abbrev pub IsPlain : Node → Node → Type 0
  IsPlain n m = Contains all m × (is_set_element m.act ≡ false) × (is_marked all test m ≡ true) × IsTrue (before all m n)

  pub after_found : (n : Node) → Contains all n → is_after all test n ≡ true → (is_marked all test n ≡ true) ⊎ ((m : Node) × IsPlain n m)
  after_found n cn h = found (some_member (λ p. test p && (same_node p n || before all p n)) all h)
    where
      carried : (p k : Node) → Contains all p → Contains all k → is_set_element p.act ≡ true → test p ≡ true → IsTrue (edge all p k) → is_marked all test k ≡ true
      carried p k cp ck is t e = or_right (test k) (is_carried all test k)
          (member_passes (λ s. is_set_element s.act && test s && (nat_lt s.number k.number && unsignaled s k)) all p cp
          (and_from (is_set_element p.act && test p) (nat_lt p.number k.number && unsignaled p k) (and_from (is_set_element p.act) (test p) is t) (sym (link p k cp ck is) ∙ e)))

      go : (p : Node) → Contains all p → test p ≡ true → IsTrue (before all p n) → (s : Bool) → is_set_element p.act ≡ s → (is_marked all test n ≡ true) ⊎ ((m : Node) × IsPlain n m)
      go p cp t b false is = inr (p, (cp, is, or_left (test p) (is_carried all test p) t, b))
      go p cp t b true is = further (by_first all numbers p cp n cn b)
        where
          further : ((k : Node) × Contains all k × IsTrue (edge all p k) × ((k ≡ n) ⊎ IsTrue (before all k n))) → (is_marked all test n ≡ true) ⊎ ((m : Node) × IsPlain n m)
          further (k, ck, e, inl same) = inl (ap (λ (m : Node). is_marked all test m) (sym same) ∙ carried p k cp ck is t e)
          further (k, ck, e, inr h) =
              let leads = and_parts (nat_lt p.number k.number) (unsignaled p k) (sym (link p k cp ck is) ∙ e) in
              inr (k, (ck, not_set k.point.queue k.act (class_of k) (set_to_line p k (set_of p.act is) leads.1), carried p k cp ck is t e, h))

      found : ((p : Node) × Contains all p × IsTrue (test p && (same_node p n || before all p n))) → (is_marked all test n ≡ true) ⊎ ((m : Node) × IsPlain n m)
      found (p, cp, is) =
          let parts = and_parts (test p) (same_node p n || before all p n) is in
          ⊎_elim
          (λ e. inl (or_left (test n) (is_carried all test n) (ap test (sym (unique all numbers p n cp cn (eqb-true p.number n.number e))) ∙ parts.0)))
          (λ b. go p cp parts.0 b (is_set_element p.act) refl)
          (or_cases (same_node p n) (before all p n) parts.1)

-- where a node of a line is before another one, so is each earlier one of the line
pub stamped_prefix : (rows : List Row) (stamps : List Stamp) (ls : List Line) → IsStamped rows stamps ls → (i j n : ℕ) (x y r : Row) (l : Line) → slice_get rows i ≡ Some x → slice_get rows j ≡ Some y → slice_get rows n ≡ Some r
    → line_of (node_of i x) ≡ Some l → line_of (node_of j y) ≡ Some l → i ≤ j → IsTrue (before (nodes_after [] rows) (node_of j y) (node_of n r)) → IsTrue (before (nodes_after [] rows) (node_of i x) (node_of n r))
stamped_prefix rows stamps ls kept i j n x y r l at_i at_j at_n li lj le h =
    let stamp = item_at stamps n (let lt = slice_get_within rows n r at_n in let e = kept.lengths in omega arith) in
    let clock = (kept.stamped n r stamp.0 at_n stamp.1).clock in
    let late = (clock.counts l (node_of j y) (node_there rows j y at_j) lj).0 h in
    let up = place-grows (nodes_after [] rows) l i j le in
    (clock.counts l (node_of i x) (node_there rows i x at_i) li).1 (omega arith)

-- so the first marked node of the line is before it too
pub first_before : (rows : List Row) (stamps : List Stamp) (ls : List Line) → IsStamped rows stamps ls → (test : Node → Bool) (firsts : List First) → AreFirsts rows test firsts → (n : ℕ) (r : Row) → slice_get rows n ≡ Some r
    → (m : Node) → Contains (nodes_after [] rows) m → is_set_element m.act ≡ false → test m ≡ true → IsTrue (before (nodes_after [] rows) m (node_of n r))
    → (f : First) × (x : Row) × Contains firsts f × (slice_get rows f.number ≡ Some x) × IsTrue (before (nodes_after [] rows) (node_of f.number x) (node_of n r))
first_before rows stamps ls kept test firsts are n r at m cm plain marked h =
    let found = node_row rows m m.number cm refl in
    let y : Row = found.0 in
    let own = are.all m.number y found.1 (ap test (sym found.2) ∙ marked) (ap (λ (k : Node). is_set_element k.act) (sym found.2) ∙ plain) in
    let f : First = own.0 in
    let each = are.each f own.1 in
    (f, each.0, own.1, each.1, stamped_prefix rows stamps ls kept f.number m.number n each.0 y r f.line each.1 found.1 at each.2 own.2 own.3 (ap (λ (k : Node). before (nodes_after [] rows) k (node_of n r)) (sym found.2) ∙ h))
