use Rattle.vk_cached_device.proofs.ReplayedTraces.{Replays}
use Rattle.cache_tests.proofs.touching.read_after_load.Given as goal

abbrev pub invariant-loop-index : goal.invariant-loop-index
invariant-loop-index g l = Replays g.S.Scheduler.answer g.S.Scheduler.next l.fn.config l.entries (g.S.Scheduler.held l.fn.sched) l.index l.reads.items l.device (g.S.Scheduler.held l.sched)
