use Rattle.vk_model.specs.Trace.PointViews.{point_of}
use Rattle.vk_queues.specs.PointViews.{past_of}
use Rattle.vk_hazards.proofs.PastLemmas.{past_has}
use Rattle.vk_findings.proofs.CommandLemmas.{submits_it}
use Rattle.vk_findings.proofs.submitted.is_submitted.Goals as goal

pub returns-then-submits : goal.returns-then-submits
returns-then-submits c = λ yes.
    let ps = c.args.points.now in
    let p = c.point-item.result in
    submits_it (past_of ps) (point_of p) c.args.spot c.args.resource (past_has ps c.loop-point.point-index p c.loop-point-test.true c.point-item.is) (c.submits.ensures c.if-submits.true)
