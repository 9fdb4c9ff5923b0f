use Rattle.std.proofs.Common.{◌≡◌, take}
use Rattle.vk_cached_device.specs.Inner.{CatchesUpMoving}
use Rattle.vk_cached_device.proofs.device.CachedDevice.catch_up_moving.Given as goal

-- Memory has caught up with so many of the resources.
abbrev pub invariant-loop-index : goal.invariant-loop-index
invariant-loop-index l = record {
  same : l.self ≡ record l.fn.self { lags = l.self.lags };
  caught : CatchesUpMoving (take l.index l.fn.self.device.passes.moving) l.fn.self.lags l.self.lags;
}
