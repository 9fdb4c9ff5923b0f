use Rattle.std.proofs.Common.{◌&&◌, ◌==◌}
use Rattle.vk_image_transfer.specs.Held.{ImageOf}
use Rattle.vk_lag.specs.Lags.{is_between}
use Rattle.vk_availability.specs.Inner.CatchingUp.{CatchesUp, is_in_part}
use Rattle.vk_availability.proofs.ranges.catch_up_level.Given as goal

-- Memory has caught up with the layers so far.
abbrev pub invariant-loop-layer : goal.invariant-loop-layer
invariant-loop-layer l = CatchesUp l.image (ImageOf l.shape) (is_in_part (λ n a. n == l.level && is_between l.first l.layer a)) l.due l.initial.lags l.lags
