use Rattle.vk_places.proofs.WalkedEntries.{Walks}
use Rattle.vk_places.proofs.walking.walk_entries.Given as goal

abbrev pub invariant-loop-index : goal.invariant-loop-index
invariant-loop-index g l = Walks g.S.Scheduler.answer g.S.Scheduler.next l.fn.config l.entries (g.S.Scheduler.held l.fn.sched) l.index l.states.items l.device (g.S.Scheduler.held l.sched)
