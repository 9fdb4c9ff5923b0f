use Rattle.std.proofs.Common.{◌≡◌, take}
use Rattle.vk_cached_device.proofs.Moving.{StayBut}
use Rattle.vk_cached_device.proofs.device.CachedDevice.follow.Given as goal

-- So many of the destroyed resources are forgotten.
abbrev pub invariant-loop-id : goal.invariant-loop-id
invariant-loop-id l = record {
  same : l.self ≡ record l.fn.self { lags = l.self.lags };
  stay : StayBut (take l.id-index l.id-items) l.fn.self.lags l.self.lags;
}
