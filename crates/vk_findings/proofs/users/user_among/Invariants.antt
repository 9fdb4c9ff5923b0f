use Rattle.std.proofs.Common.{take}
use Rattle.std.specs.Prelude.{Contains}
use Rattle.vk_model.specs.Trace.Point.{Point}
use Rattle.vk_queues.specs.PointViews.{past_of}
use Rattle.vk_findings.specs.Inner.Users.{IsPointDone}
use Rattle.vk_findings.proofs.users.user_among.Given as goal

abbrev pub invariant-loop-point : goal.invariant-loop-point
invariant-loop-point l = (w : Point) → Contains (past_of (take l.point-index l.points)) w → IsPointDone l.timeline l.resource w
