use Rattle.std.proofs.Common.{◌≡◌, ℕ, List, subst, arith}
use Rattle.vk_model.specs.Trace.Order.{order}
use Rattle.vk_model.specs.Rules.Table.{first_fault}
use Rattle.vk_model.specs.declared.point.Point.{Point}
use Rattle.vk_queues.specs.PointViews.{past_of}
use Rattle.vk_repairs.specs.declared.judging.Judged.{Judged}
use Rattle.vk_repairs.specs.Starts.{sound_start, all_points, IsAmong}
use Rattle.vk_repairs.proofs.Helping.{helps, of_some, on_true}
use Rattle.vk_repairs.proofs.repairs.outcome_of.Goals as goal

pub returns-then-is_among : goal.returns-then-is_among
returns-then-is_among c =
    helps c.args.refused.now c.requires c.args.changed.now c.args.place c.in-Some-found.judged c.in-Some.size
    (of_some (λ (n : ℕ). n ≡ all_points c.args.changed.now) c.all_points.result c.in-Some.size c.in-Some.is c.all_points.ensures)
    (of_some (λ (j : Judged). j.next ≡ first_fault c.args.changed.now) c.in_ok-found.found c.in-Some-found.judged c.in-Some-found.is c.in_ok-found.ensures.next)
    (of_some (λ (j : Judged). past_of j.sound.items ≡ sound_start (order c.args.changed.now)) c.in_ok-found.found c.in-Some-found.judged c.in-Some-found.is c.in_ok-found.ensures.sound)
    (let later = c.if-before-after.true in let long = c.len.ensures in let items = c.in-Some-found.judged.sound.ok.0 in omega (arith, later, long, items))
    (subst (λ (ps : List Point). IsAmong (past_of ps) c.args.place) c.as_slice.ensures.value (on_true _ c.is_among.result c.if-is_among.true c.is_among.ensures))
