use Rattle.std.proofs.Common.{◌+◌, ◌++◌, ◌∷◌, []}
use Rattle.vk_device.proofs.WholeTraces.{replays_start, entry_ready, after_done, after_bytes}
use Rattle.vk_places.proofs.WalkedEntries.{walks_start, is_after}
use Rattle.vk_places.proofs.walking.walk_entries.Goals as goal
use Rattle.vk_places.proofs.walking.walk_entries.Goals.{in-Done, in-Bytes}

pub apply-requires : goal.apply-requires
apply-requires g c = entry_ready g.S.Scheduler.answer g.S.Scheduler.next c.args.config c.args.entries.now (g.S.Scheduler.held c.args.sched.now) c.loop-index.index c.loop-index.invariant.reported c.loop-index.device (g.S.Scheduler.held c.loop-index.sched) c.index-entries-index.result c.loop-index.invariant.replays c.index-entries-index.is c.loop-index-test.true c.requires

pub loop-index-preserved : goal.loop-index-preserved
loop-index-preserved g c =
    let run = c.direct_runs_are_runs.ensures c.args.entries.now c.loop-index.invariant.replays.steps c.loop-index.invariant.replays.stage _ c.loop-index.invariant.replays.led.run in
    let st = c.defined_runs_follow.ensures c.args.entries.now c.loop-index.invariant.replays.steps c.loop-index.invariant.replays.stage run in
    elim c.match-branch-2.branch [
      | in-Done w ↦ (let replays = after_done g.S.Scheduler.answer g.S.Scheduler.next c.args.config c.args.entries.now (g.S.Scheduler.held c.args.sched.now) c.loop-index.index c.loop-index.invariant.reported c.loop-index.device (g.S.Scheduler.held c.loop-index.sched) c.index-entries-index.result c.loop-index.invariant.replays c.index-entries-index.is c.loop-index-test.true c.requires
          c.picks_are_runs.ensures.lead_on run st c.apply.new.self (g.S.Scheduler.held c.apply.new.sched) c.in_ok-apply.field-0 w.in-Done.is c.in_ok-apply.ensures.applied c.in_ok-apply.ensures.reads c.in_ok-apply.ensures.rooms c.in_ok-apply.ensures.allots c.in_ok-apply.ensures.works.1 in
          record {
            reported = c.loop-index.invariant.reported;
            replays = replays;
            are = c.in_ok-push_state.ensures c.args.config c.args.entries.now (is_after g.S.Scheduler.answer g.S.Scheduler.next c.args.config c.args.entries.now (g.S.Scheduler.held c.args.sched.now) (c.loop-index.index + 1) c.loop-index.invariant.reported c.apply.new.self (g.S.Scheduler.held c.apply.new.sched) replays) c.loop-index.invariant.are;
          })
      | in-Bytes w ↦ (let replays = after_bytes g.S.Scheduler.answer g.S.Scheduler.next c.args.config c.args.entries.now (g.S.Scheduler.held c.args.sched.now) c.loop-index.index c.loop-index.invariant.reported c.loop-index.device (g.S.Scheduler.held c.loop-index.sched) c.index-entries-index.result c.loop-index.invariant.replays c.index-entries-index.is c.loop-index-test.true c.requires
          c.picks_are_runs.ensures.lead_on run st c.apply.new.self (g.S.Scheduler.held c.apply.new.sched) c.in_ok-apply.field-0 w.in-Bytes._bytes w.in-Bytes.is c.in_ok-apply.ensures.applied c.in_ok-apply.ensures.reads c.in_ok-apply.ensures.rooms c.in_ok-apply.ensures.allots c.in_ok-apply.ensures.works.1 in
          record {
            reported = c.loop-index.invariant.reported ++ (c.loop-index.index, w.in-Bytes._bytes) ∷ [];
            replays = replays;
            are = c.in_ok-push_state.ensures c.args.config c.args.entries.now (is_after g.S.Scheduler.answer g.S.Scheduler.next c.args.config c.args.entries.now (g.S.Scheduler.held c.args.sched.now) (c.loop-index.index + 1) (c.loop-index.invariant.reported ++ (c.loop-index.index, w.in-Bytes._bytes) ∷ []) c.apply.new.self (g.S.Scheduler.held c.apply.new.sched) replays) c.loop-index.invariant.are;
          })
    ]

pub loop-index-init : goal.loop-index-init
loop-index-init g c =
    walks_start g.S.Scheduler.answer g.S.Scheduler.next c.args.config c.args.entries.now (g.S.Scheduler.held c.args.sched.now) c.new-device.result (g.S.Scheduler.held c.args.sched.now) c.new-states.result.items c.new-states.ensures.items
    (replays_start g.S.Scheduler.answer g.S.Scheduler.next c.args.config c.args.entries.now (g.S.Scheduler.held c.args.sched.now) c.new-device.result (c.new-device.ensures.led c.args.entries.now) c.new-device.ensures.allocated c.new-device.ensures.works)
