use Rattle.std.proofs.Common.{sym, ap, ◌∙◌}
use Rattle.vk_model.specs.Sync.Node.{nodes, acts, with_acts}
use Rattle.vk_model.specs.Trace.PointViews.{action_of, point_of}
use Rattle.vk_hazards.proofs.PastLemmas.{past_item}
use Rattle.vk_hazards.proofs.before.nodes.order_of.Goals as goal

pub loop-point-preserved : goal.loop-point-preserved
loop-point-preserved c =
    let p = c.point-item.result in
    c.in_ok-add.ensures.ok ∙ ap (with_acts (point_of p) (acts (action_of p.action))) c.loop-point.invariant ∙ sym (ap nodes (past_item c.args.points.now c.loop-point.point-index p c.loop-point-test.true c.point-item.is))
