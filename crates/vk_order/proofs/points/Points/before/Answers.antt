use Rattle.std.proofs.Common.{◌≡◌, [], List, Some, sym, ap, ◌∙◌, subst}
use Rattle.std.specs.Prelude.{Contains, slice_get}
use Rattle.vk_model.specs.Sync.Node.{Node}
use Rattle.vk_model.specs.Sync.Before.{before}
use Rattle.vk_order.specs.declared.acts.Row.{Row}
use Rattle.vk_order.specs.declared.clocks.Stamp.{Stamp}
use Rattle.vk_order.specs.declared.lines.Line.{Line}
use Rattle.vk_order.specs.NodeViews.{node_of, nodes_after}
use Rattle.vk_order.specs.Inner.Kept.{IsStamped}
use Rattle.vk_order.proofs.BeforeLemmas.{node_row}
use Rattle.vk_order.proofs.points.Points.before.Goals as goal

pub returns : goal.returns
returns c = λ m n hm hn at_m at_n.
    let rows = c.self.inside.rows.items in
    let first = node_row rows m c.args.first (subst (λ (l : List Node). Contains l m) (sym c.self.view_is) hm) at_m in
    let second = node_row rows n c.args.second (subst (λ (l : List Node). Contains l n) (sym c.self.view_is) hn) at_n in
    let known : (q r : Row) → slice_get rows c.args.first ≡ Some q → slice_get rows c.args.second ≡ Some r → IsStamped rows c.self.inside.stamps.items c.self.inside.lines.items
    → c.is_before.result ≡ before (nodes_after [] rows) (node_of c.args.first q) (node_of c.args.second r) =
    subst (λ (l : List Row). (q r : Row) → slice_get l c.args.first ≡ Some q → slice_get l c.args.second ≡ Some r → IsStamped l c.self.inside.stamps.items c.self.inside.lines.items
    → c.is_before.result ≡ before (nodes_after [] l) (node_of c.args.first q) (node_of c.args.second r)) c.as_slice.ensures.value
    (subst (λ (l : List Stamp). (q r : Row) → slice_get c.as_slice.result.now c.args.first ≡ Some q → slice_get c.as_slice.result.now c.args.second ≡ Some r → IsStamped c.as_slice.result.now l c.self.inside.lines.items
    → c.is_before.result ≡ before (nodes_after [] c.as_slice.result.now) (node_of c.args.first q) (node_of c.args.second r)) c.as_slice-2.ensures.value
    (subst (λ (l : List Line). (q r : Row) → slice_get c.as_slice.result.now c.args.first ≡ Some q → slice_get c.as_slice.result.now c.args.second ≡ Some r → IsStamped c.as_slice.result.now c.as_slice-2.result.now l
    → c.is_before.result ≡ before (nodes_after [] c.as_slice.result.now) (node_of c.args.first q) (node_of c.args.second r)) c.as_slice-3.ensures.value
    c.is_before.ensures)) in
    known first.0 second.0 first.1 second.1 c.self.invariant.stamped
    ∙ ap (λ (x : Node). before (nodes_after [] rows) x (node_of c.args.second second.0)) (sym first.2)
    ∙ ap (before (nodes_after [] rows) m) (sym second.2)
    ∙ ap (λ (l : List Node). before l m n) c.self.view_is
