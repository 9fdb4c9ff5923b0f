use Rattle.std.proofs.Common.{◌≡◌, ℕ, length}
use Rattle.vk_events.specs.IsEvents.{untaken}
use Rattle.vk_lag.specs.Lags.{resource_in}
use Rattle.vk_cached_device.proofs.Settling.{Walks}
use Rattle.vk_cached_device.proofs.device.CachedDevice.settle.Given as goal

-- What was taken has been made available.
abbrev pub invariant-loop-event : goal.invariant-loop-event
invariant-loop-event l = record {
  same : l.self ≡ record l.initial.self { happenings = l.self.happenings; lags = l.self.lags };
  room : (id : ℕ) → length (resource_in l.self.lags id) ≡ length (resource_in l.initial.self.lags id);
  walks : Walks l.initial.self l.self;
}

abbrev pub decreases-loop-event : goal.decreases-loop-event
decreases-loop-event l = untaken l.self.happenings.events
