use Rattle.std.proofs.Common.{◌≡◌, ◌*◌, ◌≤◌}
use Rattle.std.specs.List.{sum_by}
use Rattle.vk_model.specs.Basics.{below}
use Rattle.vk_image_transfer.specs.Pieces.{level_rows}
use Rattle.vk_image_transfer.proofs.ranges.rows_of.Given as goal

abbrev pub invariant-loop-step : goal.invariant-loop-step
invariant-loop-step l = record {
  sum : l.rows ≡ sum_by (level_rows l.image l.range) (below l.step);
  few : l.rows ≤ 1048576 * l.step;
}
