-- To what an element of a set leads.
use Rattle.std.proofs.Common.{◌≡◌, ◌⊎◌, inl, inr, ⊎_elim, ℕ, ◌<◌, ◌≤◌, List, [], length, get_or, Bool, true, false, ◌&&◌, ◌||◌, IsTrue, Some, refl, ap, sym, ◌∙◌, subst, arith}
use Rattle.std.specs.Prelude.{◌==◌, nat_lt, Contains, slice_get}
use Rattle.std.proofs.lemmas.Bool.{lt-ltb, eqb-true, eq-eqb, and_parts, and_from, or_left, or_right}
use Rattle.std.proofs.lemmas.Option.{slice_get_within, slice_get-get_or, get_or_from_slice_get}
use Rattle.std.proofs.Math.Bool.{and-false, or-false}
use Rattle.vk_model.specs.Sync.Node.{Node, Act, Hosts, Waits, Signals, Runs, Depends, Barrier, SetOf, AwaitOf}
use Rattle.vk_model.specs.Sync.Edge.{edge, by_semaphore, signaled_by}
use Rattle.vk_model.specs.Sync.Before.{before, IsNumbered}
use Rattle.vk_model.proofs.Lists.Truths.{no}
use Rattle.vk_model.proofs.Sync.Numbers.{number_below}
use Rattle.vk_model.proofs.Sync.Paths.{edge_forward, leads_on}
use Rattle.vk_order.specs.declared.acts.Row.{Row}
use Rattle.vk_order.specs.NodeViews.{act_of, node_of, nodes_after}
use Rattle.vk_order.specs.Lines.{line_of, class_of}
use Rattle.vk_order.specs.Edges.{unsignaled}
use Rattle.vk_order.specs.Inner.Kept.{IsSet}
use Rattle.vk_order.proofs.RowLemmas.{numbered_after, length-nodes_after}
use Rattle.vk_order.proofs.EdgeLemmas.{edge-at, first_nodes, row_is}
use Rattle.vk_order.proofs.NamedLemmas.{node_there}
use Rattle.vk_order.proofs.BeforeLemmas.{by_first, from_first}
use Rattle.vk_model.proofs.Lists.Items.{some_same}

set_to : (m : Node) (v i : ℕ) (e : Rattle.vk_model.specs.declared.command.Element.Element) → m.act ≡ Depends (SetOf v i) e → (j : ℕ) (q : Rattle.vk_model.specs.Trace.Point.Point) (a : Act) → unsignaled m (record { number = j; point = q; act = a }) ≡ true → Rattle.vk_order.specs.Lines.line_on q.queue a ≡ Some (Rattle.vk_order.specs.Lines.class_on q.queue a)
set_to m v i e is j q (Hosts x) h = refl
set_to m v i e is j q (Waits s) h = refl
set_to m v i e is j q (Signals s) h = refl
set_to m v i e is j q (Runs c) h = refl
set_to m v i e is j q (Depends Barrier d) h = refl
set_to m v i e is j q (Depends (AwaitOf u k) d) h = refl
set_to m v i e is j q (Depends (SetOf u k) d) h = no (sym (quiet m.number m.point) ∙ ap (λ (a : Act). unsignaled (record { number = m.number; point = m.point; act = a }) (record { number = j; point = q; act = Depends (SetOf u k) d })) (sym is) ∙ h)
  where
    quiet : (i' : ℕ) (p : Rattle.vk_model.specs.Trace.Point.Point) → unsignaled (record { number = i'; point = p; act = Depends (SetOf v i) e }) (record { number = j; point = q; act = Depends (SetOf u k) d }) ≡ false
    quiet i' p = simp (and-false, or-false)

-- what a set's element leads to is of a line
pub set_to_line : (m k : Node) → IsSet m.act → unsignaled m k ≡ true → line_of k ≡ Some (class_of k)
set_to_line m k is h = set_to m is.0 is.1 is.2 is.3 k.number k.point k.act h

no_signal : (a : Act) → IsSet a → signaled_by a ≡ Rattle.std.proofs.Common.None
no_signal a is = ap signaled_by is.3

module _ (rows : List Row) (first : ℕ) (q : Row) (at : slice_get rows first ≡ Some q) (set : IsSet (act_of q.act)) where
  abbrev all : List Node
  all = nodes_after [] rows

  abbrev m : Node
  m = node_of first q

  numbers : IsNumbered (nodes_after [] rows)
  numbers = numbered_after [] rows tt

  pub set_edge : (k : ℕ) (x : Row) → slice_get rows k ≡ Some x → edge all m (node_of k x) ≡ (nat_lt first k && unsignaled m (node_of k x))
  set_edge k x e =
      let lt = slice_get_within rows k x e in
      let here : get_or rows k x ≡ x = get_or_from_slice_get rows k x x e in
      let silent : by_semaphore (first_nodes k rows) m (node_of k x) ≡ false = rw (no_signal (act_of q.act) set) refl in
      subst (λ (y : Row). edge all m (node_of k y) ≡ (nat_lt first k && (unsignaled m (node_of k y) || by_semaphore (first_nodes k rows) m (node_of k y)))) here (edge-at rows k x m lt)
      ∙ rw (silent, or-false (unsignaled m (node_of k x))) refl

  pub links_on : (k second : ℕ) (x r : Row) → slice_get rows k ≡ Some x → slice_get rows second ≡ Some r → first < k → unsignaled m (node_of k x) ≡ true → (k ≡ second) ⊎ IsTrue (before all (node_of k x) (node_of second r)) → before all m (node_of second r) ≡ true
  links_on k second x r at_k at_n lt leads way =
      from_first all numbers m (node_there rows first q at) (node_of second r) (node_there rows second r at_n)
      (node_of k x, node_there rows k x at_k, set_edge k x at_k ∙ rw (lt-ltb first k lt, leads) refl, ⊎_elim (λ e. inl (same k second x r at_k at_n e)) (λ h. inr h) way)
    where
      same : (k second : ℕ) (x r : Row) → slice_get rows k ≡ Some x → slice_get rows second ≡ Some r → k ≡ second → node_of k x ≡ node_of second r
      same k second x r e f is = let a : Some x ≡ Some r = sym e ∙ ap (slice_get rows) is ∙ f in rw is (ap (node_of second) (some_same x r a))

  -- whether row k is the first step of a path
  abbrev pub is_step : ℕ → Row → ℕ → Row → Bool
  is_step k x second r = unsignaled m (node_of k x) && (k == second || before all (node_of k x) (node_of second r))

  pub links_end : (second : ℕ) (r : Row) → slice_get rows second ≡ Some r → ((k : ℕ) (x : Row) → first < k → k ≤ second → slice_get rows k ≡ Some x → is_step k x second r ≡ false) → before all m (node_of second r) ≡ false
  links_end second r at_n none = go (before all m (node_of second r)) refl
    where
      there : Contains all (node_of second r)
      there = node_there rows second r at_n

      go : (b : Bool) → before all m (node_of second r) ≡ b → before all m (node_of second r) ≡ false
      go false e = e
      go true e =
          let s = by_first all numbers m (node_there rows first q at) (node_of second r) there e in
          let k = s.0 in
          let up = edge_forward all m k s.2 in
          let low : k.number < length rows = (let a = number_below all numbers k s.1 in let b = length-nodes_after [] rows in omega arith) in
          let x : Row = get_or rows k.number q in
          let f : slice_get rows k.number ≡ Some x = slice_get-get_or rows k.number q low in
          let is : k ≡ node_of k.number x = row_is k.number rows q low k s.1 refl in
          let last : (k ≡ node_of second r) ⊎ IsTrue (before all k (node_of second r)) = s.3 in
          let edge_is : (nat_lt first k.number && unsignaled m (node_of k.number x)) ≡ true = sym (set_edge k.number x f) ∙ ap (edge all m) (sym is) ∙ s.2 in
          let leads : unsignaled m (node_of k.number x) ≡ true = (and_parts (nat_lt first k.number) (unsignaled m (node_of k.number x)) edge_is).1 in
          let arrives : (k.number == second || before all (node_of k.number x) (node_of second r)) ≡ true =
          ⊎_elim (λ h. or_left (k.number == second) (before all (node_of k.number x) (node_of second r)) (eq-eqb k.number second (ap (λ (y : Node). y.number) h)))
          (λ h. or_right (k.number == second) (before all (node_of k.number x) (node_of second r)) (ap (λ (y : Node). before all y (node_of second r)) (sym is) ∙ h)) last in
          let within : k.number ≤ second = ⊎_elim (λ h. let g : k.number ≡ second = ap (λ (y : Node). y.number) h in omega arith) (λ h. let g = leads_on all k (node_of second r) h in omega arith) last in
          no (sym (none k.number x up within f) ∙ and_from (unsignaled m (node_of k.number x)) (k.number == second || before all (node_of k.number x) (node_of second r)) leads arrives)

  pub step_on : (k second : ℕ) (x r : Row) → slice_get rows k ≡ Some x → slice_get rows second ≡ Some r → first < k → is_step k x second r ≡ true → before all m (node_of second r) ≡ true
  step_on k second x r at_k at_n lt h =
      let parts = and_parts (unsignaled m (node_of k x)) (k == second || before all (node_of k x) (node_of second r)) h in
      links_on k second x r at_k at_n lt parts.0 (⊎_elim (λ e. inl (eqb-true k second e)) (λ e. inr e) (Rattle.std.proofs.lemmas.Bool.or_cases (k == second) (before all (node_of k x) (node_of second r)) parts.1))
