use Rattle.std.proofs.Common.{◌≡◌, drop}
use Rattle.std.specs.List.{find}
use Rattle.vk_model.specs.Trace.PointViews.{point_of}
use Rattle.vk_history.specs.PointViews.{past}
use Rattle.vk_validate.specs.Inner.Early.{breaks_early}
use Rattle.vk_validate.proofs.rules.first_of.Given as goal

abbrev pub invariant-loop-rule : goal.invariant-loop-rule
invariant-loop-rule l = find (λ r. breaks_early r (past l.history) (point_of l.point)) (drop l.rule-index l.rules) ≡ find (λ r. breaks_early r (past l.history) (point_of l.point)) l.rules
