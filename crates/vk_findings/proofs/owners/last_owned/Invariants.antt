use Rattle.std.proofs.Common.{◌≡◌, take}
use Rattle.std.specs.Option.{option_map}
use Rattle.vk_model.specs.Trace.Objects.{is_exclusive}
use Rattle.vk_model.specs.Trace.PointViews.{point_of}
use Rattle.vk_queues.specs.PointViews.{past_of}
use Rattle.vk_findings.specs.Owners.{owned_since}
use Rattle.vk_findings.proofs.owners.last_owned.Given as goal

abbrev pub invariant-loop-point : goal.invariant-loop-point
invariant-loop-point l = record {
  since : option_map point_of l.since ≡ owned_since (past_of (take l.point-index l.points)) l.resource;
  exclusive : l.is_exclusive ≡ is_exclusive (past_of (take l.point-index l.points)) l.resource;
}
