use Rattle.vk_device.proofs.WholeTraces.{Replays}
use Rattle.vk_device.proofs.replaying.replay_entries.Given as goal

abbrev pub invariant-loop-index : goal.invariant-loop-index
invariant-loop-index g l = Replays g.S.Scheduler.answer g.S.Scheduler.next l.fn.config l.entries (g.S.Scheduler.held l.fn.sched) l.index l.reads.items l.device (g.S.Scheduler.held l.sched)
