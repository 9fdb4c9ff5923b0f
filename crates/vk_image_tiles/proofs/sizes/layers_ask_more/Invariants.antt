use Rattle.std.proofs.Common.{◌≡◌, ◌≤◌}
use Rattle.std.specs.List.{sum_by}
use Rattle.vk_model.specs.Basics.{below}
use Rattle.vk_model.specs.Trace.Image.{level_size}
use Rattle.vk_image_tiles.proofs.sizes.layers_ask_more.Given as goal

abbrev pub invariant-loop-level : goal.invariant-loop-level
invariant-loop-level l = record { is : l.total ≡ sum_by (level_size l.info) (below l.level); within : l.total ≤ l.limit }
