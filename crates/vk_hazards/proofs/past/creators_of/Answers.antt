use Rattle.std.proofs.Common.{take, sym, subst}
use Rattle.vk_model.specs.Trace.Point.{Past}
use Rattle.vk_queues.specs.PointViews.{past_of}
use Rattle.vk_hazards.specs.Creators.{AreCreators}
use Rattle.vk_hazards.proofs.PastLemmas.{past_item}
use Rattle.vk_hazards.proofs.past.creators_of.Goals as goal

pub loop-point-preserved : goal.loop-point-preserved
loop-point-preserved c =
    let ps = c.args.points.now in
    let k = c.loop-point.point-index in
    subst (λ (past : Past). AreCreators c.note.new.self past) (sym (past_item ps k c.point-item.result c.loop-point-test.true c.point-item.is)) (c.in_ok-note.ensures (past_of (take k ps)) c.loop-point.invariant)
