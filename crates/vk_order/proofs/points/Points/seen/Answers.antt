use Rattle.std.proofs.Common.{◌≡◌, [], List, Some, sym, ap, ◌∙◌, subst}
use Rattle.std.specs.Prelude.{Contains, slice_get}
use Rattle.vk_model.specs.Sync.Node.{Node}
use Rattle.vk_model.specs.Sync.Seen.{seen}
use Rattle.vk_order.specs.declared.acts.Row.{Row}
use Rattle.vk_order.specs.declared.clocks.Stamp.{Stamp}
use Rattle.vk_order.specs.declared.lines.Line.{Line}
use Rattle.vk_order.specs.NodeViews.{node_of, nodes_after}
use Rattle.vk_order.specs.Bytes.{byte_of}
use Rattle.vk_order.specs.Wide.{access_of}
use Rattle.vk_order.specs.Inner.Kept.{IsStamped}
use Rattle.vk_order.proofs.BeforeLemmas.{node_row}
use Rattle.vk_order.proofs.points.Points.seen.Goals as goal

pub returns : goal.returns
returns c = λ cached w a hw ha at_w at_a same.
    let rows = c.self.inside.rows.items in
    let b = byte_of c.args.access.byte in
    let k = access_of c.args.access.access in
    let first = node_row rows w c.args.writer (subst (λ (l : List Node). Contains l w) (sym c.self.view_is) hw) at_w in
    let second = node_row rows a c.args.reader (subst (λ (l : List Node). Contains l a) (sym c.self.view_is) ha) at_a in
    let given = c.in_ok-sees.ensures cached first.0 second.0 in
    let known : slice_get rows c.args.writer ≡ Some first.0 → slice_get rows c.args.reader ≡ Some second.0 → IsStamped rows c.self.inside.stamps.items c.self.inside.lines.items
    → c.in_ok-sees.sees ≡ seen cached (nodes_after [] rows) (node_of c.args.writer first.0) (node_of c.args.reader second.0) k b =
    subst (λ (l : List Row). slice_get l c.args.writer ≡ Some first.0 → slice_get l c.args.reader ≡ Some second.0 → IsStamped l c.self.inside.stamps.items c.self.inside.lines.items
    → c.in_ok-sees.sees ≡ seen cached (nodes_after [] l) (node_of c.args.writer first.0) (node_of c.args.reader second.0) k b) c.as_slice.ensures.value
    (λ e f kept. given e f same (subst (λ (s : List Stamp). IsStamped c.as_slice.result.now s c.as_slice-3.result.now) (sym c.as_slice-2.ensures.value) (subst (λ (l : List Line). IsStamped c.as_slice.result.now c.self.inside.stamps.items l) (sym c.as_slice-3.ensures.value) kept))) in
    known first.1 second.1 c.self.invariant.stamped
    ∙ ap (λ (x : Node). seen cached (nodes_after [] rows) x (node_of c.args.reader second.0) k b) (sym first.2)
    ∙ ap (λ (x : Node). seen cached (nodes_after [] rows) w x k b) (sym second.2)
    ∙ ap (λ (l : List Node). seen cached l w a k b) c.self.view_is
