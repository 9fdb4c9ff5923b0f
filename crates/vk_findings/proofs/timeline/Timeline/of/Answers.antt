use Rattle.std.proofs.Common.{◌≡◌, length, ap, ◌∙◌}
use Rattle.vk_model.specs.Sync.Node.{nodes, acts, with_acts}
use Rattle.vk_model.specs.Trace.PointViews.{point_of}
use Rattle.vk_queues.specs.PointViews.{past_of}
use Rattle.vk_history.specs.PointViews.{past}
use Rattle.vk_findings.proofs.TimelineLemmas.{ordered_points, host_new}
use Rattle.vk_findings.proofs.timeline.Timeline.of.Goals as goal

pub order_of-requires : goal.order_of-requires
order_of-requires c = λ k p at. ordered_points (past c.args.history.now) c.happened-points.result.now k p c.happened-points.ensures c.is_judged.ensures.ordered at

pub add-requires : goal.add-requires
add-requires c = host_new (point_of c.args.point.now) c.in_ok-order.order c.requires

pub returns : goal.returns
returns c =
    let older = past c.args.history.now in
    let p = point_of c.args.point.now in
    let same : past_of c.happened-points.result.now ≡ older = c.happened-points.ensures in
    let before : c.in_ok-order.order ≡ nodes older = c.in_ok-order.ensures ∙ ap nodes same in
    record {
      rows = c.in_ok-rows.ensures ∙ ap nodes same;
      order = c.in_ok-add.ensures.ok ∙ ap (with_acts p (acts p.action)) before;
      last = c.len-last.ensures ∙ ap length before;
    }
