use Rattle.std.proofs.Common.{false, take}
use Rattle.vk_model.specs.Trace.PointViews.{point_of}
use Rattle.vk_touches.specs.Conflicts.{FoundAmong}
use Rattle.vk_history.specs.PointViews.{past}
use Rattle.vk_validate.specs.Inner.Transitions.{FindsEarly}
use Rattle.vk_validate.proofs.rules.hazards.barriers.has_early_transition.Given as goal

abbrev pub invariant-loop-element : goal.invariant-loop-element
invariant-loop-element l = FoundAmong (FindsEarly (past l.history) (point_of l.point)) false (take l.element-index l.elements)
