use Rattle.std.proofs.Common.{◌≡◌, ℕ, ◌+◌, ◌<◌}
use Rattle.vk_queues.specs.PointViews.{past_of}
use Rattle.vk_findings.specs.Inner.LayoutSteps.{layout_in}
use Rattle.vk_findings.proofs.subresources.other_in_level.Given as goal

abbrev pub invariant-loop-step : goal.invariant-loop-step
invariant-loop-step l = (m : ℕ) → m < l.step → layout_in l.image l.level (l.range.first_layer + m) (past_of l.points) ≡ l.layout
