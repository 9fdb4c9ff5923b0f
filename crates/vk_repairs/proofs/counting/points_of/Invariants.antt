use Rattle.std.proofs.Common.{◌≡◌, take}
use Rattle.std.specs.Prelude.{sum_by}
use Rattle.vk_repairs.specs.Starts.{batch_points}
use Rattle.vk_repairs.proofs.counting.points_of.Given as goal

-- the points of the batches so far
abbrev pub invariant-loop-batch : goal.invariant-loop-batch
invariant-loop-batch l = l.count ≡ sum_by batch_points (take l.batch-index l.batches)
