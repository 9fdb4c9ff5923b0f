use Rattle.std.proofs.Common.{◌≡◌, take}
use Rattle.std.specs.Option.{option_map}
use Rattle.std.specs.List.{find}
use Rattle.vk_model.specs.Trace.Point.{on_host}
use Rattle.vk_model.specs.Trace.PointViews.{point_of}
use Rattle.vk_queues.specs.PointViews.{past_of}
use Rattle.vk_history.specs.PointViews.{past}
use Rattle.vk_findings.specs.Inner.Begun.{begins_sought}
use Rattle.vk_findings.proofs.begun.newest.Given as goal

abbrev pub invariant-loop-point : goal.invariant-loop-point
invariant-loop-point l = option_map point_of l.found ≡ find (on_host (begins_sought (past l.history) l.sought)) (past_of (take l.point-index l.points))
