use Rattle.std.proofs.Common.{◌≡◌, ◌+◌, take}
use Rattle.std.specs.List.{sum_by}
use Rattle.vk_image_transfer.specs.Pieces.{range_rows}
use Rattle.vk_image_transfer.proofs.ranges.Clear.find.Given as goal

abbrev pub invariant-loop-range : goal.invariant-loop-range
invariant-loop-range l = sum_by (range_rows l.image) (take l.range-index l.self.ranges.now) + l.left ≡ l.number
