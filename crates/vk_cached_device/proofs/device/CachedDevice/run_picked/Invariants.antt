use Rattle.std.proofs.Common.{◌≡◌}
use Rattle.vk_backing.specs.PassAllots.{StaysAllotted}
use Rattle.vk_resources.specs.Allocating.{allotted}
use Rattle.vk_device.proofs.Picking.{left_on}
use Rattle.vk_cached_device.proofs.Turning.{TurnsLate}
use Rattle.vk_cached_device.proofs.device.CachedDevice.run_picked.Given as goal

-- Each turn goes on from what was picked before it, and changes nothing of what is allocated.
abbrev pub invariant-loop-commands : goal.invariant-loop-commands
invariant-loop-commands g l = record {
  turns : TurnsLate g.S.Scheduler.answer g.S.Scheduler.next l.fn.self (g.S.Scheduler.held l.fn.sched) l.entry l.self (g.S.Scheduler.held l.sched);
  placed : l.self.device.resources.resources ≡ l.fn.self.device.resources.resources;
  shapes : l.self.device.resources.shapes ≡ l.fn.self.device.resources.shapes;
  same_allotted : allotted l.self.device.resources ≡ allotted l.fn.self.device.resources;
  stays : StaysAllotted (allotted l.fn.self.device.resources) l.fn.self.device.passes (allotted l.self.device.resources) l.self.device.passes;
  failed : l.self.failed ≡ l.fn.self.failed;
}

-- The steps that are left.
abbrev pub decreases-loop-commands : goal.decreases-loop-commands
decreases-loop-commands g l = left_on l.self.device
