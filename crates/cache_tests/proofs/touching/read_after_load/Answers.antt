use Rattle.vk_cached_device.proofs.ReplayedTraces.{replays_start, entry_ready, after_done, after_bytes, replays_stay}
use Rattle.cache_tests.proofs.touching.read_after_load.Goals as goal
use Rattle.cache_tests.proofs.touching.read_after_load.Goals.{in-Done, in-Bytes+in_ok-push-in-Bytes}

pub apply-requires : goal.apply-requires
apply-requires g c = entry_ready g.S.Scheduler.answer g.S.Scheduler.next c.args.config c.args.entries.now (g.S.Scheduler.held c.args.sched.now) c.loop-index.index c.loop-index.reads.items c.loop-index.device (g.S.Scheduler.held c.loop-index.sched) c.index-entries-index.result c.loop-index.invariant c.index-entries-index.is c.loop-index-test.true c.requires

pub loop-index-init : goal.loop-index-init
loop-index-init g c = rw c.new-reads.ensures.items (replays_start g.S.Scheduler.answer g.S.Scheduler.next c.args.config c.args.entries.now (g.S.Scheduler.held c.args.sched.now) c.new-device.result c.new-device.ensures.led c.new-device.ensures.allocated c.new-device.ensures.works)

pub loop-index-preserved : goal.loop-index-preserved
loop-index-preserved g c =
    replays_stay g.S.Scheduler.answer g.S.Scheduler.next c.args.config c.args.entries.now (g.S.Scheduler.held c.args.sched.now) _ _ c.apply.new.self c.load_after.new.device (g.S.Scheduler.held c.apply.new.sched) (elim c.match-branch-2.branch [
      | in-Done w ↦ rw w.reads-is (after_done g.S.Scheduler.answer g.S.Scheduler.next c.args.config c.args.entries.now (g.S.Scheduler.held c.args.sched.now) c.loop-index.index c.loop-index.reads.items c.loop-index.device (g.S.Scheduler.held c.loop-index.sched) c.index-entries-index.result c.loop-index.invariant c.index-entries-index.is c.loop-index-test.true c.requires
          c.direct_runs_are_runs.ensures c.defined_runs_follow.ensures c.picks_are_runs.ensures.lead_on c.apply.new.self (g.S.Scheduler.held c.apply.new.sched) c.in_ok-apply.field-0 c.in_ok-apply.ensures.applied c.in_ok-apply.ensures.reads c.in_ok-apply.ensures.rooms c.in_ok-apply.ensures.allots c.in_ok-apply.ensures.works.1 w.in-Done.is)
      | in-Bytes+in_ok-push-in-Bytes w ↦ rw (w.reads-is, w.in_ok-push-in-Bytes.ensures.items) (after_bytes g.S.Scheduler.answer g.S.Scheduler.next c.args.config c.args.entries.now (g.S.Scheduler.held c.args.sched.now) c.loop-index.index c.loop-index.reads.items c.loop-index.device (g.S.Scheduler.held c.loop-index.sched) c.index-entries-index.result c.loop-index.invariant c.index-entries-index.is c.loop-index-test.true c.requires
          c.direct_runs_are_runs.ensures c.defined_runs_follow.ensures c.picks_are_runs.ensures.lead_on c.apply.new.self (g.S.Scheduler.held c.apply.new.sched) c.in_ok-apply.field-0 c.in_ok-apply.ensures.applied c.in_ok-apply.ensures.reads c.in_ok-apply.ensures.rooms c.in_ok-apply.ensures.allots c.in_ok-apply.ensures.works.1 w.in-Bytes.bytes w.in-Bytes.is)
    ]) c.in_ok-load_after.ensures.led c.in_ok-load_after.ensures.same c.load_after.ensures.failed
