use Rattle.std.proofs.Common.{take}
use Rattle.vk_queues.specs.PointViews.{past_of}
use Rattle.vk_hazards.specs.Until.{IsNowhere}
use Rattle.vk_hazards.proofs.before.until.index_of.Given as goal

abbrev pub invariant-loop-index : goal.invariant-loop-index
invariant-loop-index l = IsNowhere (past_of (take l.index l.points)) l.at
