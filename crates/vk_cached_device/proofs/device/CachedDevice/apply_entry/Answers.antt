use Rattle.vk_device.proofs.Allocating.{rooms_before, allots_through}
use Rattle.vk_cached_device.proofs.Joining.{joined, read_joined, may_next}
use Rattle.vk_cached_device.proofs.device.CachedDevice.apply_entry.Goals as goal

pub apply_next-requires : goal.apply_next-requires
apply_next-requires g c = may_next g.S.Scheduler.answer g.S.Scheduler.next c.direct_runs_are_runs.ensures c.picks_are_runs.ensures.lead_on (g.S.Scheduler.held c.args.sched.now) (g.S.Scheduler.held c.run_picked.new.sched) (g.S.Scheduler.held c.run_picked.new.sched) c.args.entry.now c.args.self.now c.run_picked.new.self c.in_ok-run_picked.ensures.picked c.requires

pub returns-clause-applied : goal.returns-clause-applied
returns-clause-applied g c t steps s memory late xs is =
    joined g.S.Scheduler.answer g.S.Scheduler.next c.direct_runs_are_runs.ensures c.picks_are_runs.ensures.lead_on (g.S.Scheduler.held c.args.sched.now) (g.S.Scheduler.held c.run_picked.new.sched) (g.S.Scheduler.held c.apply_next.new.sched) c.args.entry.now c.args.self.now c.run_picked.new.self c.in_ok-run_picked.ensures.picked t steps s memory late xs is c.apply_next.new.self c.in_ok-applied.applied c.in_ok-applied.ensures.applied

pub returns-clause-reads : goal.returns-clause-reads
returns-clause-reads g c t steps s memory late xs is =
    read_joined g.S.Scheduler.answer g.S.Scheduler.next c.direct_runs_are_runs.ensures c.picks_are_runs.ensures.lead_on (g.S.Scheduler.held c.args.sched.now) (g.S.Scheduler.held c.run_picked.new.sched) (g.S.Scheduler.held c.apply_next.new.sched) c.args.entry.now c.args.self.now c.run_picked.new.self c.in_ok-run_picked.ensures.picked t steps s memory late xs is c.in_ok-applied.applied c.in_ok-applied.ensures.reads

pub returns-clause-rooms : goal.returns-clause-rooms
returns-clause-rooms g c = rooms_before c.in_ok-applied.applied c.args.entry.now c.args.self.now.device.resources c.run_picked.new.self.device.resources c.in_ok-run_picked.ensures.allotted c.in_ok-applied.ensures.rooms

pub returns-clause-allots : goal.returns-clause-allots
returns-clause-allots g c =
    let mid = c.run_picked.new.self.device in
    allots_through c.in_ok-applied.applied c.args.entry.now c.args.self.now.device.resources c.args.self.now.device.passes mid.resources mid.passes c.apply_next.new.self.device.resources c.apply_next.new.self.device.passes c.in_ok-run_picked.ensures.stays c.in_ok-applied.ensures.allots
