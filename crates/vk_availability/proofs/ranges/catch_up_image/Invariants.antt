use Rattle.std.proofs.Common.{◌&&◌}
use Rattle.vk_model.specs.Basics.{within}
use Rattle.vk_image_transfer.specs.Held.{ImageOf}
use Rattle.vk_lag.specs.Lags.{is_between}
use Rattle.vk_availability.specs.Inner.CatchingUp.{CatchesUp, is_in_part}
use Rattle.vk_availability.proofs.ranges.catch_up_image.Given as goal

-- Memory has caught up with the levels so far.
abbrev pub invariant-loop-level : goal.invariant-loop-level
invariant-loop-level l = CatchesUp l.image (ImageOf l.shape) (is_in_part (λ n a. is_between l.first l.level n && within l.range.first_layer l.range.layers a)) l.due l.initial.lags l.lags
