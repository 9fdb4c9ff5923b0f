use Rattle.std.proofs.Common.{◌≡◌, take}
use Rattle.std.specs.Option.{option_map}
use Rattle.std.specs.List.{find}
use Rattle.vk_model.specs.Trace.PointViews.{point_of}
use Rattle.vk_queues.specs.PointViews.{past_of}
use Rattle.vk_findings.specs.Layouts.{transitions}
use Rattle.vk_findings.specs.Inner.LayoutSteps.{layout_in}
use Rattle.vk_findings.proofs.subresources.current_at.Given as goal

abbrev pub invariant-loop-point : goal.invariant-loop-point
invariant-loop-point l = record {
  layout : l.layout ≡ layout_in l.at.image l.at.level l.at.layer (past_of (take l.point-index l.points));
  since : option_map point_of l.since ≡ find (transitions l.at.image l.at.level l.at.layer) (past_of (take l.point-index l.points));
}
