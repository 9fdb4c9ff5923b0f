use Rattle.std.proofs.Common.{◌≡◌}
use Rattle.vk_backing.specs.PassAllots.{StaysAllotted}
use Rattle.vk_resources.specs.Allocating.{allotted}
use Rattle.vk_device.specs.Inner.Ready.{Between}
use Rattle.vk_device.proofs.Picking.{Turns, left_on}
use Rattle.vk_device.proofs.device.Device.run_picked.Given as goal

-- Each turn goes on from what was picked before it, and changes nothing of what is allocated.
abbrev pub invariant-loop-commands : goal.invariant-loop-commands
invariant-loop-commands g l = record {
  turns : Turns g.S.Scheduler.answer g.S.Scheduler.next l.fn.self (g.S.Scheduler.held l.fn.sched) l.entry l.self (g.S.Scheduler.held l.sched);
  same_allotted : allotted l.self.resources ≡ allotted l.fn.self.resources;
  stays : StaysAllotted (allotted l.fn.self.resources) l.fn.self.passes (allotted l.self.resources) l.self.passes;
  between : Between l.fn.self l.self;
  failed : l.self.failed ≡ l.fn.self.failed;
}

-- The steps that are left.
abbrev pub decreases-loop-commands : goal.decreases-loop-commands
decreases-loop-commands g l = left_on l.self
