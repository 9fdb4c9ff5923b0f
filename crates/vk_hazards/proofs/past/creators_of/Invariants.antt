use Rattle.std.proofs.Common.{take}
use Rattle.vk_queues.specs.PointViews.{past_of}
use Rattle.vk_hazards.specs.Creators.{AreCreators}
use Rattle.vk_hazards.proofs.past.creators_of.Given as goal

abbrev pub invariant-loop-point : goal.invariant-loop-point
invariant-loop-point l = AreCreators l.creators (past_of (take l.point-index l.points))
