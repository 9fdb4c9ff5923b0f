use Rattle.std.proofs.Common.{◌≡◌}
use Rattle.vk_resources.specs.Allocating.{allotted}
use Rattle.vk_device.specs.Inner.Ready.{Rests}
use Rattle.vk_device.proofs.Touching.{SoFar}
use Rattle.vk_device.proofs.device.Device.touch.Given as goal

abbrev pub invariant-loop-atom : goal.invariant-loop-atom
invariant-loop-atom g l = record {
  same : l.self ≡ record l.initial.self { resources = l.self.resources };
  allotted : allotted l.self.resources ≡ allotted l.initial.self.resources;
  rests : Rests l.initial.self.resources l.self.resources;
  so_far : SoFar g.S.Scheduler.answer g.S.Scheduler.next l.entry l.atoms l.atom (g.S.Scheduler.held l.initial.sched) (g.S.Scheduler.held l.sched) l.initial.self.resources l.self.resources;
}
