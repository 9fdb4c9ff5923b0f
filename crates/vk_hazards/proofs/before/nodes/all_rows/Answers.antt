use Rattle.std.proofs.Common.{[], List, sym, ap, ◌∙◌}
use Rattle.vk_model.specs.Sync.Node.{nodes, acts, with_acts}
use Rattle.vk_order.specs.declared.acts.Row.{Row}
use Rattle.vk_model.specs.Trace.PointViews.{action_of, point_of}
use Rattle.vk_order.specs.NodeViews.{nodes_after}
use Rattle.vk_order.proofs.RowLemmas.{nodes_after-append}
use Rattle.vk_hazards.proofs.PastLemmas.{past_item}
use Rattle.vk_hazards.proofs.before.nodes.all_rows.Goals as goal

pub loop-point-preserved : goal.loop-point-preserved
loop-point-preserved c =
    let ps = c.args.points.now in
    let k = c.loop-point.point-index in
    let old = c.loop-point.rows.items in
    let fresh = c.in_ok-fresh.fresh.items in
    let p = c.point-item.result in
    ap (λ (l : List Row). nodes_after [] l) c.in_ok-append.ensures.items ∙ nodes_after-append [] old fresh ∙ c.in_ok-fresh.ensures.nodes (nodes_after [] old)
    ∙ ap (with_acts (point_of p) (acts (action_of p.action))) c.loop-point.invariant ∙ sym (ap nodes (past_item ps k p c.loop-point-test.true c.point-item.is))
