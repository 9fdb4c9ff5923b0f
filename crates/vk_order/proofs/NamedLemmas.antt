-- Nodes that are known by themselves come after all earlier ones of their line; nodes of rows.
use Rattle.std.proofs.Common.{◌≡◌, ℕ, ◌<◌, List, [], IsTrue, Some, ap, sym, ◌∙◌, subst}
use Rattle.std.specs.Prelude.{Contains, slice_get}
use Rattle.std.proofs.lemmas.Option.{slice_get_within, get_or_from_slice_get}
use Rattle.vk_model.specs.Sync.Node.{Node, Act, Hosts, Waits, Signals, Runs, Depends, Barrier, SetOf, AwaitOf}
use Rattle.vk_model.specs.Sync.Edge.{is_host}
use Rattle.vk_model.specs.Sync.Before.{before, direct, IsNumbered}
use Rattle.vk_model.proofs.Lists.Truths.{no}
use Rattle.vk_model.proofs.Sync.Paths.{before_of_path}
use Rattle.vk_order.specs.declared.acts.Row.{Row}
use Rattle.vk_order.specs.declared.lines.Line.{Line}
use Rattle.vk_order.specs.NodeViews.{node_of, nodes_after}
use Rattle.vk_order.specs.Lines.{line_of, line_on}
use Rattle.vk_order.specs.Inner.Kept.{is_alone}
use Rattle.vk_order.proofs.LinePrefixes.{host_line, signal_line, host_edge, signal_edge}
use Rattle.vk_order.proofs.EdgeLemmas.{row_there}

-- ---- nodes that are known by themselves come after all earlier ones of their line

module _ (ns : List Node) (n : Node) (numbers : IsNumbered ns) (hn : Contains ns n) (c : Node) (hc : Contains ns c) (lt : c.number < n.number) where
  pub after_earlier : (a : Act) (l : Line) → n.act ≡ a → IsTrue (is_alone a) → line_of c ≡ Some l → line_on n.point.queue a ≡ Some l → IsTrue (before ns c n)
  after_earlier (Hosts x) l is h lc ln =
      let first = host_line c.point.queue c.act (lc ∙ sym ln) in
      before_of_path ns numbers c n hc hn (direct hc hn (host_edge ns c n lt (ap is_host first.1) (ap is_host is)))
  after_earlier (Signals s) l is h lc ln =
      let first = signal_line c.point.queue n.point.queue c.act (lc ∙ sym ln) in
      before_of_path ns numbers c n hc hn (direct hc hn (signal_edge ns c n lt first.0 s first.1 is first.2))
  after_earlier (Waits s) l is h lc ln = no h
  after_earlier (Runs x) l is h lc ln = no h
  after_earlier (Depends Barrier e) l is h lc ln = no h
  after_earlier (Depends (SetOf v k) e) l is h lc ln = absurd cc
  after_earlier (Depends (AwaitOf v k) e) l is h lc ln = no h

-- ---- a row

pub node_there : (rows : List Row) (i : ℕ) (r : Row) → slice_get rows i ≡ Some r → Contains (nodes_after [] rows) (node_of i r)
node_there rows i r e =
    let lt = slice_get_within rows i r e in
    subst (λ (x : Row). Contains (nodes_after [] rows) (node_of i x)) (get_or_from_slice_get rows i r r e) (row_there i rows r lt)
