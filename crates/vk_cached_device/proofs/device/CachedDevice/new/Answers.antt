use Rattle.std.proofs.Common.{refl}
use Rattle.vk_cached_device.proofs.Beginning.{begins}
use Rattle.vk_cached_device.proofs.device.CachedDevice.new.Goals as goal

pub returns-clause-led : goal.returns-clause-led
returns-clause-led c = λ t first. begins t first _ (c.new.ensures.led t) c.new.ensures.works (c.late_runs_go_on.ensures.begins t first) c.new-2.ensures refl c.new-3.ensures c.new-4.ensures.items
