use Rattle.std.proofs.Common.{false, take}
use Rattle.vk_model.specs.Trace.PointViews.{point_of}
use Rattle.vk_touches.specs.Conflicts.{FoundAmong}
use Rattle.vk_history.specs.PointViews.{past}
use Rattle.vk_validate.specs.Inner.Transitions.{FindsMissed}
use Rattle.vk_validate.proofs.rules.hazards.barriers.has_missed_transition.Given as goal

abbrev pub invariant-loop-element : goal.invariant-loop-element
invariant-loop-element l = FoundAmong (FindsMissed (past l.history) (point_of l.point)) false (take l.element-index l.elements)
