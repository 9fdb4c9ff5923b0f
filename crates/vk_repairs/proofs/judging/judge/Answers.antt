use Rattle.std.proofs.Common.{◌≡◌, ◌∙◌, ap}
use Rattle.vk_model.specs.Trace.Order.{order}
use Rattle.vk_model.specs.Rules.Table.{first_fault}
use Rattle.vk_queues.specs.PointViews.{past_of}
use Rattle.vk_repairs.specs.declared.judging.Judged.{Judged}
use Rattle.vk_repairs.specs.Starts.{sound_start}
use Rattle.vk_repairs.proofs.Starts.{ordered_points, fault_of_points, if_some}
use Rattle.vk_repairs.proofs.judging.judge.Goals as goal

pub with_start-requires-clause-ordered : goal.with_start-requires-clause-ordered
with_start-requires-clause-ordered c = ordered_points c.args.trace.now c.in_ok-points.points.items c.in_ok-points.ensures.order

pub with_start-requires-clause-fault : goal.with_start-requires-clause-fault
with_start-requires-clause-fault c =
    fault_of_points c.args.trace.now c.in_ok-points.points.items c.in_ok-points.ensures.order c.fault_in-next.result
    (c.fault_in-next.ensures ∙ c.in_ok-verdict.ensures.exact)

pub returns-clause-next : goal.returns-clause-next
returns-clause-next c =
    if_some (λ (j : Judged). j.next ≡ c.fault_in-next.result) (λ (j : Judged). j.next ≡ first_fault c.args.trace.now) c.with_start.result
    (λ j is. is ∙ c.fault_in-next.ensures ∙ c.in_ok-verdict.ensures.exact)
    c.with_start.ensures.next

pub returns-clause-sound : goal.returns-clause-sound
returns-clause-sound c =
    if_some (λ (j : Judged). past_of j.sound.items ≡ sound_start (past_of c.in_ok-points.points.items)) (λ (j : Judged). past_of j.sound.items ≡ sound_start (order c.args.trace.now)) c.with_start.result
    (λ j is. is ∙ ap sound_start c.in_ok-points.ensures.order)
    c.with_start.ensures.sound
