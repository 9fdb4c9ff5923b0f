use Rattle.std.proofs.Common.{◌≡◌, ◌-◌, ◌<◌, ◌++◌, List, true, refl, ap, sym, ◌∙◌, subst, arith}
use Rattle.vk_device.specs.declared.device.Device.{Device}
use Rattle.vk_model.proofs.Lists.Members.{place_has}
use Rattle.vk_backing.specs.Passing.{parts_left}
use Rattle.vk_backing.specs.PassAllots.{FulfilsAll}
use Rattle.vk_resources.specs.Allocating.{allotted}
use Rattle.vk_cached_device.specs.declared.device.CachedDevice.{CachedDevice}
use Rattle.vk_device.proofs.Picking.{left_on, may_ask, may_run, ready_count, goes_is, fewer_piece, fewer_part}
use Rattle.vk_cached_device.proofs.Turning.{plain_before, first_late, may_run_late, may_copy_late}
use Rattle.vk_cached_device.proofs.Taking.{piece_taken_late, part_taken_late, picked_late}
use Rattle.vk_cached_device.proofs.device.CachedDevice.run_picked.Goals as goal

pub loop-commands-init : goal.loop-commands-init
loop-commands-init g c = record { turns = first_late g.S.Scheduler.answer g.S.Scheduler.next c.args.self.now (g.S.Scheduler.held c.args.sched.now) c.args.entry.now; placed = refl; shapes = refl; same_allotted = refl; stays = λ d is. is; failed = refl }

pub may_go-goes-requires : goal.may_go-goes-requires
may_go-goes-requires g c =
    let r = c.requires in
    let turn = c.loop-commands.invariant.turns r.0 r.1 r.2 r.3 r.4 r.5 r.6 in
    may_ask g.S.Scheduler.answer g.S.Scheduler.next r.0 r.1 r.2 r.5 c.args.self.now.device (g.S.Scheduler.held c.args.sched.now) c.args.entry.now (plain_before r.6) c.loop-commands.self.device (g.S.Scheduler.held c.loop-commands.sched) turn.turn c.in_ok-commands.commands c.in_ok-commands.ensures

pub nth_offered-piece-requires : goal.nth_offered-piece-requires
nth_offered-piece-requires g c =
    let all = c.offered_count-pieces.ensures.ready in
    let low = c.if-picked-pieces.true in
    omega (arith, all, low)

pub command-command-requires : goal.command-command-requires
command-command-requires g c =
    let r = c.requires in
    let turn = c.loop-commands.invariant.turns r.0 r.1 r.2 r.3 r.4 r.5 r.6 in
    may_run g.S.Scheduler.answer g.S.Scheduler.next r.0 r.1 r.2 r.5 c.args.self.now.device (g.S.Scheduler.held c.args.sched.now) c.args.entry.now (plain_before r.6) c.loop-commands.self.device (g.S.Scheduler.held c.loop-commands.sched) turn.turn c.nth_offered-piece.result c.nth_offered-piece.ensures.ready

pub run-requires : goal.run-requires
run-requires g c =
    let r = c.requires in
    let turn = c.loop-commands.invariant.turns r.0 r.1 r.2 r.3 r.4 r.5 r.6 in
    may_run_late g.S.Scheduler.answer g.S.Scheduler.next r.6 turn c.nth_offered-piece.result c.nth_offered-piece.ensures.ready

pub copy_next-requires : goal.copy_next-requires
copy_next-requires g c =
    let r = c.requires in
    let turn = c.loop-commands.invariant.turns r.0 r.1 r.2 r.3 r.4 r.5 r.6 in
    may_copy_late g.S.Scheduler.answer g.S.Scheduler.next r.6 turn c.nth_copy-part.result (place_has (parts_left c.loop-commands.self.device.passes) (c.pick-picked.result - c.offered_count-pieces.result) c.nth_copy-part.result c.nth_copy-part.ensures)

pub loop-commands-smaller-then-picked-pieces : goal.loop-commands-smaller-then-picked-pieces
loop-commands-smaller-then-picked-pieces g c =
    let r = c.requires in
    let turn = c.loop-commands.invariant.turns r.0 r.1 r.2 r.3 r.4 r.5 r.6 in
    subst (λ (d : Device). left_on d < left_on c.loop-commands.self.device) (sym (ap (λ (d : CachedDevice). d.device) c.touch_named.ensures.same))
    (fewer_piece g.S.Scheduler.answer g.S.Scheduler.next r.0 r.1 r.2 r.5 c.args.self.now.device (g.S.Scheduler.held c.args.sched.now) c.args.entry.now (plain_before r.6) c.loop-commands.self.device (g.S.Scheduler.held c.loop-commands.sched) turn.turn c.nth_offered-piece.result c.nth_offered-piece.ensures.ready c.run.new.self.device c.run.ensures.plain.ran)

pub loop-commands-smaller : goal.loop-commands-smaller
loop-commands-smaller g c =
    let r = c.requires in
    let turn = c.loop-commands.invariant.turns r.0 r.1 r.2 r.3 r.4 r.5 r.6 in
    fewer_part g.S.Scheduler.answer g.S.Scheduler.next r.0 r.1 r.2 r.5 c.args.self.now.device (g.S.Scheduler.held c.args.sched.now) c.args.entry.now (plain_before r.6) c.loop-commands.self.device (g.S.Scheduler.held c.loop-commands.sched) turn.turn c.nth_copy-part.result
    (place_has (parts_left c.loop-commands.self.device.passes) (c.pick-picked.result - c.offered_count-pieces.result) c.nth_copy-part.result c.nth_copy-part.ensures) c.copy_next.new.self.device c.copy_next.ensures.plain.copied c.copy_next.ensures.plain.offers

pub loop-commands-preserved-then-picked-pieces : goal.loop-commands-preserved-then-picked-pieces
loop-commands-preserved-then-picked-pieces g c = record {
  turns = λ t steps s memory late xs is.
      let turn = c.loop-commands.invariant.turns t steps s memory late xs is in
      let may = goes_is g.S.Scheduler.answer g.S.Scheduler.next t steps s xs c.args.self.now.device (g.S.Scheduler.held c.args.sched.now) c.args.entry.now (plain_before is) c.loop-commands.self.device (g.S.Scheduler.held c.loop-commands.sched) turn.turn c.in_ok-commands.commands c.in_ok-commands.ensures c.may_go-goes.result c.may_go-goes.ensures in
      piece_taken_late g.S.Scheduler.answer g.S.Scheduler.next is turn c.offered_count-pieces.result c.copies_left-parts.result (c.offered_count-pieces.ensures.named t (steps ++ turn.turn.so_far) (record s { done = turn.turn.done; copied = turn.turn.copied }) turn.turn.led) c.copies_left-parts.ensures.counted c.may_go-goes.result may c.pick-picked.result (g.S.Scheduler.held c.pick-picked.new.sched) c.pick-picked.ensures.picked c.pick-picked.ensures.held
      c.nth_offered-piece.result (c.nth_offered-piece.ensures.named t (steps ++ turn.turn.so_far) (record s { done = turn.turn.done; copied = turn.turn.copied }) turn.turn.led) c.nth_offered-piece.ensures.ready c.run.new.self c.touch_named.new.self c.run.ensures.ran c.run.ensures.plain
      c.loop-commands.invariant.placed c.loop-commands.invariant.shapes c.command-command.result.now (c.command-command.ensures t (steps ++ turn.turn.so_far) (record s { done = turn.turn.done; copied = turn.turn.copied }) turn.turn.led) c.touch_named.ensures.touched c.touch_named.ensures.same (g.S.Scheduler.held c.touch_named.new.sched) c.touch_named.ensures.held;
  placed = ap (λ (d : CachedDevice). d.device.resources.resources) c.touch_named.ensures.same ∙ c.run.ensures.plain.placed ∙ c.loop-commands.invariant.placed;
  shapes = ap (λ (d : CachedDevice). d.device.resources.shapes) c.touch_named.ensures.same ∙ c.run.ensures.plain.shapes ∙ c.loop-commands.invariant.shapes;
  same_allotted = ap (λ (d : CachedDevice). allotted d.device.resources) c.touch_named.ensures.same ∙ c.run.ensures.plain.same_allotted ∙ c.loop-commands.invariant.same_allotted;
  stays = λ d is. subst (λ (n : CachedDevice). FulfilsAll (allotted n.device.resources) n.device.passes d) (sym c.touch_named.ensures.same) (c.run.ensures.plain.stays d (c.loop-commands.invariant.stays d is));
  failed = ap (λ (d : CachedDevice). d.failed) c.touch_named.ensures.same ∙ c.run.ensures.failed ∙ c.loop-commands.invariant.failed;
}

pub loop-commands-preserved : goal.loop-commands-preserved
loop-commands-preserved g c = record {
  turns = λ t steps s memory late xs is.
      let turn = c.loop-commands.invariant.turns t steps s memory late xs is in
      let may = goes_is g.S.Scheduler.answer g.S.Scheduler.next t steps s xs c.args.self.now.device (g.S.Scheduler.held c.args.sched.now) c.args.entry.now (plain_before is) c.loop-commands.self.device (g.S.Scheduler.held c.loop-commands.sched) turn.turn c.in_ok-commands.commands c.in_ok-commands.ensures c.may_go-goes.result c.may_go-goes.ensures in
      let high = c.if-picked-pieces.false in
      part_taken_late g.S.Scheduler.answer g.S.Scheduler.next is turn c.offered_count-pieces.result c.copies_left-parts.result (c.offered_count-pieces.ensures.named t (steps ++ turn.turn.so_far) (record s { done = turn.turn.done; copied = turn.turn.copied }) turn.turn.led) c.copies_left-parts.ensures.counted c.may_go-goes.result may c.pick-picked.result (g.S.Scheduler.held c.pick-picked.new.sched) c.pick-picked.ensures.picked c.pick-picked.ensures.held
      (c.pick-picked.result - c.offered_count-pieces.result) c.nth_copy-part.result (omega (arith, high)) c.nth_copy-part.ensures
      (place_has (parts_left c.loop-commands.self.device.passes) (c.pick-picked.result - c.offered_count-pieces.result) c.nth_copy-part.result c.nth_copy-part.ensures) c.copy_next.new.self c.copy_next.ensures.copied c.copy_next.ensures.plain c.loop-commands.invariant.placed c.loop-commands.invariant.shapes;
  placed = c.copy_next.ensures.plain.cells.resources ∙ c.loop-commands.invariant.placed;
  shapes = c.copy_next.ensures.plain.cells.shapes ∙ c.loop-commands.invariant.shapes;
  same_allotted = c.copy_next.ensures.plain.same_allotted ∙ c.loop-commands.invariant.same_allotted;
  stays = λ d is. c.copy_next.ensures.plain.stays d (c.loop-commands.invariant.stays d is);
  failed = c.copy_next.ensures.failed ∙ c.loop-commands.invariant.failed;
}

pub returns-else-picked-pieces-2-clause-picked : goal.returns-else-picked-pieces-2-clause-picked
returns-else-picked-pieces-2-clause-picked g c = λ t steps s memory late xs is.
    let turn = c.loop-commands.invariant.turns t steps s memory late xs is in
    let may = goes_is g.S.Scheduler.answer g.S.Scheduler.next t steps s xs c.args.self.now.device (g.S.Scheduler.held c.args.sched.now) c.args.entry.now (plain_before is) c.loop-commands.self.device (g.S.Scheduler.held c.loop-commands.sched) turn.turn c.in_ok-commands.commands c.in_ok-commands.ensures c.may_go-goes.result c.may_go-goes.ensures in
    let high = c.if-picked-pieces.false in
    let rest = c.if-picked-pieces-2.false in
    picked_late g.S.Scheduler.answer g.S.Scheduler.next is turn c.offered_count-pieces.result c.copies_left-parts.result (c.offered_count-pieces.ensures.named t (steps ++ turn.turn.so_far) (record s { done = turn.turn.done; copied = turn.turn.copied }) turn.turn.led) c.copies_left-parts.ensures.counted c.may_go-goes.result may c.pick-picked.result (g.S.Scheduler.held c.pick-picked.new.sched) c.pick-picked.ensures.picked c.pick-picked.ensures.held
    c.direct_runs_are_runs.ensures c.picks_are_runs.ensures.there (omega (arith, high, rest))
