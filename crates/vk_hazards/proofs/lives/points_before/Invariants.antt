use Rattle.std.proofs.Common.{◌≡◌, ◌≤◌, take}
use Rattle.vk_model.specs.Rules.Ids.{until}
use Rattle.vk_queues.specs.PointViews.{past_of}
use Rattle.vk_hazards.proofs.lives.points_before.Given as goal

abbrev pub invariant-loop-index : goal.invariant-loop-index
invariant-loop-index l = record {
  within : l.count ≤ l.index;
  is : past_of (take l.count l.points) ≡ until l.number (past_of (take l.index l.points));
}
