use Rattle.std.proofs.Common.{◌≡◌, ℕ, ◌+◌, ◌<◌}
use Rattle.vk_queues.specs.PointViews.{past_of}
use Rattle.vk_findings.specs.Inner.LayoutSteps.{layout_in}
use Rattle.vk_findings.proofs.subresources.first_other.Given as goal

abbrev pub invariant-loop-step : goal.invariant-loop-step
invariant-loop-step l = (k m : ℕ) → k < l.step → m < l.range.layers → layout_in l.image (l.range.first_level + k) (l.range.first_layer + m) (past_of l.points) ≡ l.layout
