use Rattle.std.proofs.Common.{◌≡◌, ◌∷◌, take, length, sym, ap, ◌∙◌}
use Rattle.vk_model.specs.Trace.Point.{Past}
use Rattle.vk_model.specs.Sync.Node.{nodes, acts, with_acts}
use Rattle.vk_model.specs.Trace.PointViews.{action_of, point_of}
use Rattle.vk_queues.specs.PointViews.{past_of}
use Rattle.vk_hazards.proofs.PastLemmas.{past_item}
use Rattle.vk_hazards.proofs.past.order_of.Goals as goal

pub loop-point-preserved : goal.loop-point-preserved
loop-point-preserved c =
    let ps = c.args.points.now in
    let k = c.loop-point.point-index in
    let p = c.point-item.result in
    let more = past_item ps k p c.loop-point-test.true c.point-item.is in
    record {
      order = c.in_ok-add.ensures.ok ∙ ap (with_acts (point_of p) (acts (action_of p.action))) c.loop-point.invariant.order ∙ sym (ap nodes more);
      before = λ past q e.
          let both : (point_of p ∷ past_of (take k ps)) ≡ q ∷ past = sym more ∙ e in
          let same : past_of (take k ps) ≡ past = cc in
          c.len-before.ensures ∙ ap length c.loop-point.invariant.order ∙ ap (λ (l : Past). length (nodes l)) same;
    }
