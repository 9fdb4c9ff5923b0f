use Rattle.std.proofs.Common.{◌≡◌, ◌+◌}
use Rattle.std.specs.List.{sum_by}
use Rattle.vk_model.specs.Basics.{below}
use Rattle.vk_image_transfer.specs.Pieces.{level_rows}
use Rattle.vk_image_transfer.proofs.ranges.Clear.level_of.Given as goal

abbrev pub invariant-loop-step : goal.invariant-loop-step
invariant-loop-step l = sum_by (level_rows l.image l.range) (below l.step) + l.left ≡ l.number
