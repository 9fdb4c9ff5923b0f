use Rattle.std.proofs.Common.{◌≡◌, ◌∙◌, ℕ, sym, Some}
use Rattle.vk_queues.specs.PointViews.{past_of}
use Rattle.vk_repairs.specs.declared.judging.Judged.{Judged}
use Rattle.vk_repairs.specs.Starts.{sound_start, all_points}
use Rattle.vk_repairs.proofs.Starts.{ordered_points, fault_of_points, length_start}
use Rattle.vk_repairs.proofs.Helping.{of_some}
use Rattle.vk_repairs.proofs.repairs.repair.Goals as goal

pub with_start-requires-clause-ordered : goal.with_start-requires-clause-ordered
with_start-requires-clause-ordered c = ordered_points c.args.trace.now c.in_ok-points.points.items c.in_ok-points.ensures.order

pub with_start-requires-clause-fault : goal.with_start-requires-clause-fault
with_start-requires-clause-fault c = fault_of_points c.args.trace.now c.in_ok-points.points.items c.in_ok-points.ensures.order (Some (c.args.at, c.args.rule)) (sym c.requires)

pub answered-requires-clause-measured : goal.answered-requires-clause-measured
answered-requires-clause-measured c = record {
  sound =
      c.len.ensures ∙ c.in-Some.start.sound.ok.0
      ∙ length_start c.args.trace.now c.in_ok-points.points.items c.in_ok-points.ensures.order c.in-Some.start.sound.items
      (of_some (λ (j : Judged). past_of j.sound.items ≡ sound_start (past_of c.in_ok-points.points.items)) c.with_start.result c.in-Some.start c.in-Some.is c.with_start.ensures.sound);
  size = of_some (λ (n : ℕ). n ≡ all_points c.args.trace.now) c.all_points.result c.in-Some-all_points.size c.in-Some-all_points.is c.all_points.ensures;
}
