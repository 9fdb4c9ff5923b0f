use Rattle.std.proofs.Common.{[], ◌++◌, ◌∙◌, refl, sym, ap, subst}
use Rattle.vk_resources.specs.declared.applied.Applied.{Applied}
use Rattle.vk_resources.specs.declared.applied.Applied.TheVariants as applied
use Rattle.vk_resources.specs.Allocating.{NoRoomIsExact, allotted}
use Rattle.vk_model.specs.Run.Picks.{before_entry}
use Rattle.vk_resources.specs.Held.{Held}
use Rattle.vk_backing.specs.PassAllots.{StaysAllotted}
use Rattle.vk_backing.specs.Passing.{Passing}
use Rattle.vk_device.specs.declared.device.Device.{Device}
use Rattle.vk_device.specs.Becomes.{Becomes, memory_after}
use Rattle.vk_device.specs.Passes.{AllotsAll}
use Rattle.vk_device.specs.Inner.Ready.{AdvanceReady, HasDone, HostDone, MayChange}
use Rattle.vk_device.specs.Led.{Led}
use Rattle.vk_device.proofs.WholeEntries.{Laws, next_then, may_change, advance_ready, applied_then, bare_then, changes_then, read_then, refused}
use Rattle.vk_device.proofs.Allocating.{rooms_before, allots_through, stays_same}
use Rattle.vk_device.proofs.Resting.{entry_padding, padding_same}
use Rattle.vk_device.proofs.device.Device.apply_entry.Goals as goal

pub touch-requires : goal.touch-requires
touch-requires g c =
    let laws : Laws = record { sound = c.no_fault_is_sound.ensures; runs = c.direct_runs_are_runs.ensures; following = c.defined_runs_follow.ensures; lead_on = c.picks_are_runs.ensures.lead_on; anything = c.new_memory_holds_anything.ensures; entries_go = c.direct_runs_go_on.ensures.entries; reads_trace = c.direct_runs_are_fresh.ensures.reads } in
    next_then laws g.S.Scheduler.answer g.S.Scheduler.next (g.S.Scheduler.held c.args.sched.now) (g.S.Scheduler.held c.run_picked.new.sched) (g.S.Scheduler.held c.run_picked.new.sched) c.args.entry.now c.args.self.now c.run_picked.new.self c.run_picked.new.self.resources c.in_ok-run_picked.ensures.picked c.requires

pub change-requires : goal.change-requires
change-requires g c =
    let laws : Laws = record { sound = c.no_fault_is_sound.ensures; runs = c.direct_runs_are_runs.ensures; following = c.defined_runs_follow.ensures; lead_on = c.picks_are_runs.ensures.lead_on; anything = c.new_memory_holds_anything.ensures; entries_go = c.direct_runs_go_on.ensures.entries; reads_trace = c.direct_runs_are_fresh.ensures.reads } in
    subst (λ (d : Device). MayChange d c.args.entry.now) (sym c.touch.ensures.same) (may_change laws g.S.Scheduler.answer g.S.Scheduler.next (g.S.Scheduler.held c.args.sched.now) (g.S.Scheduler.held c.run_picked.new.sched) (g.S.Scheduler.held c.touch.new.sched) c.args.entry.now c.args.self.now c.run_picked.new.self c.touch.new.self.resources c.in_ok-run_picked.ensures.picked c.in_ok-touch.ensures.touched c.requires)

pub advance-requires : goal.advance-requires
advance-requires g c =
    let laws : Laws = record { sound = c.no_fault_is_sound.ensures; runs = c.direct_runs_are_runs.ensures; following = c.defined_runs_follow.ensures; lead_on = c.picks_are_runs.ensures.lead_on; anything = c.new_memory_holds_anything.ensures; entries_go = c.direct_runs_go_on.ensures.entries; reads_trace = c.direct_runs_are_fresh.ensures.reads } in
    let done : HasDone c.in_ok-applied.applied c.args.entry.now (record c.run_picked.new.self { resources = c.touch.new.self.resources }) c.change.new.self = subst (λ (d : Device). HasDone c.in_ok-applied.applied c.args.entry.now d c.change.new.self) c.touch.ensures.same c.in_ok-applied.ensures.done in
    subst (λ (d : Device). AdvanceReady d c.args.entry.now) (sym (c.change.ensures.same ∙ ap (λ (d : Device). record d { resources = c.change.new.self.resources; passes = c.change.new.self.passes }) c.touch.ensures.same))
    (advance_ready laws g.S.Scheduler.answer g.S.Scheduler.next (g.S.Scheduler.held c.args.sched.now) (g.S.Scheduler.held c.run_picked.new.sched) (g.S.Scheduler.held c.touch.new.sched) c.args.entry.now c.args.self.now c.run_picked.new.self c.touch.new.self.resources c.in_ok-run_picked.ensures.picked c.in_ok-touch.ensures.touched c.change.new.self c.in_ok-applied.applied done c.in_default.not-NoRoom c.requires)

pub returns-in-NoRoom-clause-applied : goal.returns-in-NoRoom-clause-applied
returns-in-NoRoom-clause-applied g c t steps s xs h =
    let laws : Laws = record { sound = c.no_fault_is_sound.ensures; runs = c.direct_runs_are_runs.ensures; following = c.defined_runs_follow.ensures; lead_on = c.picks_are_runs.ensures.lead_on; anything = c.new_memory_holds_anything.ensures; entries_go = c.direct_runs_go_on.ensures.entries; reads_trace = c.direct_runs_are_fresh.ensures.reads } in
    let p = before_entry g.S.Scheduler.answer g.S.Scheduler.next s (g.S.Scheduler.held c.args.sched.now) c.args.entry.now in
    let picks = c.in_ok-run_picked.ensures.picked t steps s xs h in
    let done : HasDone c.in_ok-applied.applied c.args.entry.now (record c.run_picked.new.self { resources = c.touch.new.self.resources }) c.change.new.self = subst (λ (d : Device). HasDone c.in_ok-applied.applied c.args.entry.now d c.change.new.self) c.touch.ensures.same c.in_ok-applied.ensures.done in
    let same = refused laws g.S.Scheduler.answer g.S.Scheduler.next (g.S.Scheduler.held c.args.sched.now) (g.S.Scheduler.held c.run_picked.new.sched) (g.S.Scheduler.held c.touch.new.sched) c.args.entry.now c.args.self.now c.run_picked.new.self c.touch.new.self.resources c.in_ok-run_picked.ensures.picked c.in_ok-touch.ensures.touched t steps s xs h c.change.new.self c.in_ok-applied.applied done c.in-NoRoom.is in (
      subst (λ (d : Device). Led t (steps ++ p.steps) p.stage d) (sym (c.change.ensures.same ∙ ap (λ (d : Device). record d { resources = c.change.new.self.resources; passes = c.change.new.self.passes }) c.touch.ensures.same))
          (subst (λ (r : Held). Led t (steps ++ p.steps) p.stage (record c.run_picked.new.self { resources = r; passes = c.change.new.self.passes })) (sym same.0) (subst (λ (q : Passing). Led t (steps ++ p.steps) p.stage (record c.run_picked.new.self { passes = q })) (sym same.1) picks.0)),
      same.2 ∙ picks.1,
    )

pub returns-in-NoRoom-clause-rooms : goal.returns-in-NoRoom-clause-rooms
returns-in-NoRoom-clause-rooms g c =
    rooms_before applied.NoRoom c.args.entry.now c.args.self.now.resources c.touch.new.self.resources (c.touch.ensures.allotted ∙ c.run_picked.ensures.allotted)
    (subst (λ (a : Applied). NoRoomIsExact a c.touch.new.self.resources c.args.entry.now) c.in-NoRoom.is c.in_ok-applied.ensures.rooms)

pub returns-in-NoRoom-clause-allots : goal.returns-in-NoRoom-clause-allots
returns-in-NoRoom-clause-allots g c =
    let mid = c.touch.new.self in
    let stays : StaysAllotted (allotted c.args.self.now.resources) c.args.self.now.passes (allotted mid.resources) mid.passes =
    λ d is. stays_same c.run_picked.new.self.resources mid.resources c.run_picked.new.self.passes mid.passes c.touch.ensures.allotted (ap (λ (d : Device). d.passes) c.touch.ensures.same) d (c.run_picked.ensures.stays d is) in
    allots_through applied.NoRoom c.args.entry.now c.args.self.now.resources c.args.self.now.passes mid.resources mid.passes c.change.new.self.resources c.change.new.self.passes stays
    (subst (λ (a : Applied). AllotsAll a c.args.entry.now mid.resources mid.passes c.change.new.self.resources c.change.new.self.passes) c.in-NoRoom.is c.in_ok-applied.ensures.allots)

pub returns-in-NoRoom-clause-rest : goal.returns-in-NoRoom-clause-rest
returns-in-NoRoom-clause-rest g c =
    entry_padding c.args.self.now c.run_picked.new.self c.touch.new.self c.change.new.self c.in_ok-run_picked.ensures.between c.run_picked.ensures.allotted c.touch.ensures.same c.touch.ensures.allotted c.in_ok-touch.ensures.rests c.in_ok-applied.ensures.rest

pub returns-in-NoRoom-clause-bytes : goal.returns-in-NoRoom-clause-bytes
returns-in-NoRoom-clause-bytes g c t steps s xs h =
    let laws : Laws = record { sound = c.no_fault_is_sound.ensures; runs = c.direct_runs_are_runs.ensures; following = c.defined_runs_follow.ensures; lead_on = c.picks_are_runs.ensures.lead_on; anything = c.new_memory_holds_anything.ensures; entries_go = c.direct_runs_go_on.ensures.entries; reads_trace = c.direct_runs_are_fresh.ensures.reads } in
    let done : HasDone c.in_ok-applied.applied c.args.entry.now (record c.run_picked.new.self { resources = c.touch.new.self.resources }) c.change.new.self = subst (λ (d : Device). HasDone c.in_ok-applied.applied c.args.entry.now d c.change.new.self) c.touch.ensures.same c.in_ok-applied.ensures.done in
    let same = refused laws g.S.Scheduler.answer g.S.Scheduler.next (g.S.Scheduler.held c.args.sched.now) (g.S.Scheduler.held c.run_picked.new.sched) (g.S.Scheduler.held c.touch.new.sched) c.args.entry.now c.args.self.now c.run_picked.new.self c.touch.new.self.resources c.in_ok-run_picked.ensures.picked c.in_ok-touch.ensures.touched t steps s xs h c.change.new.self c.in_ok-applied.applied done c.in-NoRoom.is in
    subst (λ (r : Held). Becomes c.args.self.now.resources r (memory_after s.front.past [] c.args.entry.now (before_entry g.S.Scheduler.answer g.S.Scheduler.next s (g.S.Scheduler.held c.args.sched.now) c.args.entry.now).steps)) (sym same.0) (c.in_ok-run_picked.ensures.becomes t steps s xs h [])

pub returns-in_ok-advance-in_default : goal.returns-in_ok-advance-in_default
returns-in_ok-advance-in_default g c =
    let laws : Laws = record { sound = c.no_fault_is_sound.ensures; runs = c.direct_runs_are_runs.ensures; following = c.defined_runs_follow.ensures; lead_on = c.picks_are_runs.ensures.lead_on; anything = c.new_memory_holds_anything.ensures; entries_go = c.direct_runs_go_on.ensures.entries; reads_trace = c.direct_runs_are_fresh.ensures.reads } in
    let mid = c.touch.new.self in
    let done : HasDone c.in_ok-applied.applied c.args.entry.now (record c.run_picked.new.self { resources = c.touch.new.self.resources }) c.change.new.self = subst (λ (d : Device). HasDone c.in_ok-applied.applied c.args.entry.now d c.change.new.self) c.touch.ensures.same c.in_ok-applied.ensures.done in
    let whole = c.change.ensures.same ∙ ap (λ (d : Device). record d { resources = c.change.new.self.resources; passes = c.change.new.self.passes }) c.touch.ensures.same in
    let stays : StaysAllotted (allotted c.args.self.now.resources) c.args.self.now.passes (allotted mid.resources) mid.passes =
    λ d is. stays_same c.run_picked.new.self.resources mid.resources c.run_picked.new.self.passes mid.passes c.touch.ensures.allotted (ap (λ (d : Device). d.passes) c.touch.ensures.same) d (c.run_picked.ensures.stays d is) in
    let last = c.in_ok-advance-in_default.ensures in
    record {
      applied = λ t steps s xs h. applied_then laws g.S.Scheduler.answer g.S.Scheduler.next (g.S.Scheduler.held c.args.sched.now) (g.S.Scheduler.held c.run_picked.new.sched) (g.S.Scheduler.held c.touch.new.sched) c.args.entry.now c.args.self.now c.run_picked.new.self c.touch.new.self.resources c.in_ok-run_picked.ensures.picked c.in_ok-touch.ensures.touched t steps s xs h c.change.new.self c.in_ok-applied.applied done c.in_default.not-NoRoom c.advance.new.self
          (λ t steps s xs atoms host. last.advanced t steps s xs atoms (subst (λ (d : Device). HostDone t steps s c.args.entry.now xs atoms d) (sym whole) host));
      reads = λ t steps s xs h. read_then laws g.S.Scheduler.answer g.S.Scheduler.next (g.S.Scheduler.held c.args.sched.now) (g.S.Scheduler.held c.run_picked.new.sched) (g.S.Scheduler.held c.touch.new.sched) c.args.entry.now c.args.self.now c.run_picked.new.self c.touch.new.self.resources c.in_ok-run_picked.ensures.picked c.in_ok-touch.ensures.touched t steps s xs h c.change.new.self c.in_ok-applied.applied done c.in_default.not-NoRoom;
      rooms = rooms_before c.in_ok-applied.applied c.args.entry.now c.args.self.now.resources mid.resources (c.touch.ensures.allotted ∙ c.run_picked.ensures.allotted) c.in_ok-applied.ensures.rooms;
      allots = subst (λ (q : Passing). AllotsAll c.in_ok-applied.applied c.args.entry.now c.args.self.now.resources c.args.self.now.passes c.advance.new.self.resources q) (sym last.passes)
          (subst (λ (r : Held). AllotsAll c.in_ok-applied.applied c.args.entry.now c.args.self.now.resources c.args.self.now.passes r c.change.new.self.passes) (sym last.resources)
          (allots_through c.in_ok-applied.applied c.args.entry.now c.args.self.now.resources c.args.self.now.passes mid.resources mid.passes c.change.new.self.resources c.change.new.self.passes stays c.in_ok-applied.ensures.allots));
      bytes = λ t steps s xs h. changes_then laws g.S.Scheduler.answer g.S.Scheduler.next (g.S.Scheduler.held c.args.sched.now) (g.S.Scheduler.held c.run_picked.new.sched) (g.S.Scheduler.held c.touch.new.sched) c.args.entry.now c.args.self.now c.run_picked.new.self c.touch.new.self.resources c.in_ok-run_picked.ensures.picked c.in_ok-touch.ensures.touched t steps s xs h c.change.new.self c.in_ok-applied.applied done c.in_default.not-NoRoom c.advance.new.self
          last.resources last.passes c.in_ok-run_picked.ensures.between (c.in_ok-run_picked.ensures.becomes t steps s xs h);
      bare = bare_then laws g.S.Scheduler.answer g.S.Scheduler.next (g.S.Scheduler.held c.args.sched.now) (g.S.Scheduler.held c.run_picked.new.sched) (g.S.Scheduler.held c.touch.new.sched) c.args.entry.now c.args.self.now c.run_picked.new.self c.touch.new.self.resources c.in_ok-run_picked.ensures.picked c.in_ok-touch.ensures.touched c.requires.0 c.requires.1 c.requires.2 c.requires.3 c.requires.4 c.change.new.self c.in_ok-applied.applied done c.advance.new.self last.resources c.in_ok-run_picked.ensures.between;
      rest = padding_same c.args.self.now c.change.new.self c.advance.new.self last.resources last.passes
          (entry_padding c.args.self.now c.run_picked.new.self c.touch.new.self c.change.new.self c.in_ok-run_picked.ensures.between c.run_picked.ensures.allotted c.touch.ensures.same c.touch.ensures.allotted c.in_ok-touch.ensures.rests c.in_ok-applied.ensures.rest);
      failed = c.advance.ensures.failed ∙ ap (λ (d : Device). d.failed) whole ∙ c.run_picked.ensures.failed;
      error = tt;
    }

pub returns-in-NoRoom-clause-bare : goal.returns-in-NoRoom-clause-bare
returns-in-NoRoom-clause-bare g c =
    let laws : Laws = record { sound = c.no_fault_is_sound.ensures; runs = c.direct_runs_are_runs.ensures; following = c.defined_runs_follow.ensures; lead_on = c.picks_are_runs.ensures.lead_on; anything = c.new_memory_holds_anything.ensures; entries_go = c.direct_runs_go_on.ensures.entries; reads_trace = c.direct_runs_are_fresh.ensures.reads } in
    let done : HasDone c.in_ok-applied.applied c.args.entry.now (record c.run_picked.new.self { resources = c.touch.new.self.resources }) c.change.new.self = subst (λ (d : Device). HasDone c.in_ok-applied.applied c.args.entry.now d c.change.new.self) c.touch.ensures.same c.in_ok-applied.ensures.done in
    bare_then laws g.S.Scheduler.answer g.S.Scheduler.next (g.S.Scheduler.held c.args.sched.now) (g.S.Scheduler.held c.run_picked.new.sched) (g.S.Scheduler.held c.touch.new.sched) c.args.entry.now c.args.self.now c.run_picked.new.self c.touch.new.self.resources c.in_ok-run_picked.ensures.picked c.in_ok-touch.ensures.touched c.requires.0 c.requires.1 c.requires.2 c.requires.3 c.requires.4 c.change.new.self c.in_ok-applied.applied done c.change.new.self refl c.in_ok-run_picked.ensures.between
