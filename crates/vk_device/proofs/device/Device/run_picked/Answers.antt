use Rattle.std.proofs.Common.{◌-◌, true, refl, ap, ◌∙◌, arith}
use Rattle.vk_device.specs.declared.device.Device.{Device}
use Rattle.vk_model.proofs.Lists.Members.{place_has}
use Rattle.vk_backing.specs.Passing.{Passing, open_moves, parts_left}
use Rattle.vk_resources.proofs.RestThrough.{rest_any, rest_same}
use Rattle.vk_device.proofs.Allocating.{stays_same}
use Rattle.vk_device.proofs.Picking.{first_turn, may_ask, may_run, may_copy, ready_count, goes_is, entry_picked, fewer_piece, fewer_part, piece_taken, part_taken}
use Rattle.vk_device.proofs.Resting.{copy_padding, padding_then, rest_padding}
use Rattle.vk_device.proofs.device.Device.run_picked.Goals as goal

pub loop-commands-init : goal.loop-commands-init
loop-commands-init g c = record { turns = first_turn g.S.Scheduler.answer g.S.Scheduler.next c.args.self.now (g.S.Scheduler.held c.args.sched.now) c.args.entry.now; same_allotted = refl; stays = λ d is. is; between = record { padding = rest_padding c.args.self.now c.args.self.now (rest_same c.args.self.now.resources (λ b. true)); resources = refl; shapes = refl; moving = refl; moves = refl }; failed = refl }

pub may_go-goes-requires : goal.may_go-goes-requires
may_go-goes-requires g c =
    let r = c.requires in
    may_ask g.S.Scheduler.answer g.S.Scheduler.next r.0 r.1 r.2 r.3 c.args.self.now (g.S.Scheduler.held c.args.sched.now) c.args.entry.now r.4 c.loop-commands.self (g.S.Scheduler.held c.loop-commands.sched) (c.loop-commands.invariant.turns r.0 r.1 r.2 r.3 r.4) c.in_ok-commands.commands c.in_ok-commands.ensures

pub returns-else-picked-pieces-2-clause-picked : goal.returns-else-picked-pieces-2-clause-picked
returns-else-picked-pieces-2-clause-picked g c = λ t steps s xs is.
    let turn = c.loop-commands.invariant.turns t steps s xs is in
    let may = goes_is g.S.Scheduler.answer g.S.Scheduler.next t steps s xs c.args.self.now (g.S.Scheduler.held c.args.sched.now) c.args.entry.now is c.loop-commands.self (g.S.Scheduler.held c.loop-commands.sched) turn c.in_ok-commands.commands c.in_ok-commands.ensures c.may_go-goes.result c.may_go-goes.ensures in
    let high = c.if-picked-pieces.false in
    let rest = c.if-picked-pieces-2.false in
    (entry_picked g.S.Scheduler.answer g.S.Scheduler.next t steps s xs c.args.self.now (g.S.Scheduler.held c.args.sched.now) c.args.entry.now is c.loop-commands.self (g.S.Scheduler.held c.loop-commands.sched) turn
    c.count-pieces.result c.parts_left-parts.result (c.count-pieces.ensures.named s.front.past turn.done turn.led.offers) c.parts_left-parts.ensures c.may_go-goes.result may c.pick-picked.result (g.S.Scheduler.held c.pick-picked.new.sched) c.pick-picked.ensures.picked
    c.pick-picked.ensures.held c.direct_runs_are_runs.ensures c.picks_are_runs.ensures.there (omega (arith, high, rest))).0

pub returns-else-picked-pieces-2-clause-becomes : goal.returns-else-picked-pieces-2-clause-becomes
returns-else-picked-pieces-2-clause-becomes g c = λ t steps s xs is.
    let turn = c.loop-commands.invariant.turns t steps s xs is in
    let may = goes_is g.S.Scheduler.answer g.S.Scheduler.next t steps s xs c.args.self.now (g.S.Scheduler.held c.args.sched.now) c.args.entry.now is c.loop-commands.self (g.S.Scheduler.held c.loop-commands.sched) turn c.in_ok-commands.commands c.in_ok-commands.ensures c.may_go-goes.result c.may_go-goes.ensures in
    let high = c.if-picked-pieces.false in
    let rest = c.if-picked-pieces-2.false in
    (entry_picked g.S.Scheduler.answer g.S.Scheduler.next t steps s xs c.args.self.now (g.S.Scheduler.held c.args.sched.now) c.args.entry.now is c.loop-commands.self (g.S.Scheduler.held c.loop-commands.sched) turn
    c.count-pieces.result c.parts_left-parts.result (c.count-pieces.ensures.named s.front.past turn.done turn.led.offers) c.parts_left-parts.ensures c.may_go-goes.result may c.pick-picked.result (g.S.Scheduler.held c.pick-picked.new.sched) c.pick-picked.ensures.picked
    c.pick-picked.ensures.held c.direct_runs_are_runs.ensures c.picks_are_runs.ensures.there (omega (arith, high, rest))).1

pub nth-piece-requires : goal.nth-piece-requires
nth-piece-requires g c =
    let r = c.requires in
    let turn = c.loop-commands.invariant.turns r.0 r.1 r.2 r.3 r.4 in
    let all = ready_count g.S.Scheduler.answer g.S.Scheduler.next r.0 r.1 r.2 r.3 c.args.self.now (g.S.Scheduler.held c.args.sched.now) c.args.entry.now r.4 c.loop-commands.self (g.S.Scheduler.held c.loop-commands.sched) turn in
    let counted = c.count-pieces.ensures.named r.2.front.past turn.done turn.led.offers in
    let low = c.if-picked-pieces.true in
    omega (arith, all, counted, low)

pub run-requires : goal.run-requires
run-requires g c =
    let r = c.requires in
    may_run g.S.Scheduler.answer g.S.Scheduler.next r.0 r.1 r.2 r.3 c.args.self.now (g.S.Scheduler.held c.args.sched.now) c.args.entry.now r.4 c.loop-commands.self (g.S.Scheduler.held c.loop-commands.sched) (c.loop-commands.invariant.turns r.0 r.1 r.2 r.3 r.4) c.nth-piece.result c.nth-piece.ensures.ready

pub copy_next-requires : goal.copy_next-requires
copy_next-requires g c =
    let r = c.requires in
    may_copy g.S.Scheduler.answer g.S.Scheduler.next r.0 r.1 r.2 r.3 c.args.self.now (g.S.Scheduler.held c.args.sched.now) c.args.entry.now r.4 c.loop-commands.self (g.S.Scheduler.held c.loop-commands.sched) (c.loop-commands.invariant.turns r.0 r.1 r.2 r.3 r.4) c.nth_part-part.result (place_has (parts_left c.loop-commands.self.passes) (c.pick-picked.result - c.count-pieces.result) c.nth_part-part.result c.nth_part-part.ensures)

pub loop-commands-smaller-then-picked-pieces : goal.loop-commands-smaller-then-picked-pieces
loop-commands-smaller-then-picked-pieces g c =
    let r = c.requires in
    fewer_piece g.S.Scheduler.answer g.S.Scheduler.next r.0 r.1 r.2 r.3 c.args.self.now (g.S.Scheduler.held c.args.sched.now) c.args.entry.now r.4 c.loop-commands.self (g.S.Scheduler.held c.loop-commands.sched) (c.loop-commands.invariant.turns r.0 r.1 r.2 r.3 r.4) c.nth-piece.result c.nth-piece.ensures.ready c.run.new.self c.run.ensures.ran

pub loop-commands-smaller : goal.loop-commands-smaller
loop-commands-smaller g c =
    let r = c.requires in
    fewer_part g.S.Scheduler.answer g.S.Scheduler.next r.0 r.1 r.2 r.3 c.args.self.now (g.S.Scheduler.held c.args.sched.now) c.args.entry.now r.4 c.loop-commands.self (g.S.Scheduler.held c.loop-commands.sched) (c.loop-commands.invariant.turns r.0 r.1 r.2 r.3 r.4) c.nth_part-part.result
    (place_has (parts_left c.loop-commands.self.passes) (c.pick-picked.result - c.count-pieces.result) c.nth_part-part.result c.nth_part-part.ensures) c.copy_next.new.self c.copy_next.ensures.copied (ap (λ (d : Device). d.offers) c.copy_next.ensures.same)

pub loop-commands-preserved-then-picked-pieces : goal.loop-commands-preserved-then-picked-pieces
loop-commands-preserved-then-picked-pieces g c = record {
  turns = λ t steps s xs is.
      let turn = c.loop-commands.invariant.turns t steps s xs is in
      let may = goes_is g.S.Scheduler.answer g.S.Scheduler.next t steps s xs c.args.self.now (g.S.Scheduler.held c.args.sched.now) c.args.entry.now is c.loop-commands.self (g.S.Scheduler.held c.loop-commands.sched) turn c.in_ok-commands.commands c.in_ok-commands.ensures c.may_go-goes.result c.may_go-goes.ensures in
      piece_taken g.S.Scheduler.answer g.S.Scheduler.next t steps s xs c.args.self.now (g.S.Scheduler.held c.args.sched.now) c.args.entry.now is c.loop-commands.self (g.S.Scheduler.held c.loop-commands.sched) turn
      c.count-pieces.result c.parts_left-parts.result (c.count-pieces.ensures.named s.front.past turn.done turn.led.offers) c.parts_left-parts.ensures c.may_go-goes.result may c.pick-picked.result (g.S.Scheduler.held c.pick-picked.new.sched) c.pick-picked.ensures.picked
      c.pick-picked.ensures.held c.nth-piece.result (c.nth-piece.ensures.named s.front.past turn.done turn.led.offers) c.nth-piece.ensures.ready c.run.new.self c.run.ensures.ran c.loop-commands.invariant.between.resources c.loop-commands.invariant.between.shapes c.run.ensures.becomes (g.S.Scheduler.held c.ask_caches.new.sched) c.ask_caches.ensures;
  same_allotted = c.run.ensures.allotted ∙ c.loop-commands.invariant.same_allotted;
  stays = λ d is. stays_same c.loop-commands.self.resources c.run.new.self.resources c.loop-commands.self.passes c.run.new.self.passes c.run.ensures.allotted c.run.ensures.passes d (c.loop-commands.invariant.stays d is);
  between =
      let r = c.requires in
      let before = c.loop-commands.invariant.between in
      let may = may_run g.S.Scheduler.answer g.S.Scheduler.next r.0 r.1 r.2 r.3 c.args.self.now (g.S.Scheduler.held c.args.sched.now) c.args.entry.now r.4 c.loop-commands.self (g.S.Scheduler.held c.loop-commands.sched) (c.loop-commands.invariant.turns r.0 r.1 r.2 r.3 r.4) c.nth-piece.result c.nth-piece.ensures.ready in
      record {
        padding = padding_then c.args.self.now c.loop-commands.self c.run.new.self c.loop-commands.invariant.same_allotted before.resources before.shapes before.moves before.padding
            (rest_padding c.loop-commands.self c.run.new.self (rest_any c.loop-commands.self.resources c.run.new.self.resources _ (c.run.ensures.rest may.t may.steps may.s may.led may.sound)));
        resources = c.run.ensures.placed ∙ before.resources;
        shapes = c.run.ensures.shapes ∙ before.shapes;
        moving = ap (λ (p : Passing). p.moving) c.run.ensures.passes ∙ before.moving;
        moves = ap (λ (p : Passing). open_moves p) c.run.ensures.passes ∙ before.moves;
      };
  failed = c.run.ensures.failed ∙ c.loop-commands.invariant.failed;
}

pub loop-commands-preserved : goal.loop-commands-preserved
loop-commands-preserved g c = record {
  turns = λ t steps s xs is.
      let turn = c.loop-commands.invariant.turns t steps s xs is in
      let may = goes_is g.S.Scheduler.answer g.S.Scheduler.next t steps s xs c.args.self.now (g.S.Scheduler.held c.args.sched.now) c.args.entry.now is c.loop-commands.self (g.S.Scheduler.held c.loop-commands.sched) turn c.in_ok-commands.commands c.in_ok-commands.ensures c.may_go-goes.result c.may_go-goes.ensures in
      let high = c.if-picked-pieces.false in
      part_taken g.S.Scheduler.answer g.S.Scheduler.next t steps s xs c.args.self.now (g.S.Scheduler.held c.args.sched.now) c.args.entry.now is c.loop-commands.self (g.S.Scheduler.held c.loop-commands.sched) turn
      c.count-pieces.result c.parts_left-parts.result (c.count-pieces.ensures.named s.front.past turn.done turn.led.offers) c.parts_left-parts.ensures c.may_go-goes.result may c.pick-picked.result (g.S.Scheduler.held c.pick-picked.new.sched) c.pick-picked.ensures.picked
      c.pick-picked.ensures.held (c.pick-picked.result - c.count-pieces.result) c.nth_part-part.result (omega (arith, high)) c.nth_part-part.ensures
      (place_has (parts_left c.loop-commands.self.passes) (c.pick-picked.result - c.count-pieces.result) c.nth_part-part.result c.nth_part-part.ensures) c.copy_next.new.self c.copy_next.ensures.copied (ap (λ (d : Device). d.offers) c.copy_next.ensures.same) c.loop-commands.invariant.between.resources c.loop-commands.invariant.between.shapes c.copy_next.ensures.changed.cells;
  same_allotted = c.copy_next.ensures.allotted ∙ c.loop-commands.invariant.same_allotted;
  stays = λ d is. c.copy_next.ensures.stays d (c.loop-commands.invariant.stays d is);
  between =
      let before = c.loop-commands.invariant.between in
      let done = c.copy_next.ensures.changed in
      record {
        padding = padding_then c.args.self.now c.loop-commands.self c.copy_next.new.self c.loop-commands.invariant.same_allotted before.resources before.shapes before.moves before.padding (copy_padding c.loop-commands.self c.copy_next.new.self c.nth_part-part.result done);
        resources = done.cells.resources ∙ before.resources;
        shapes = done.cells.shapes ∙ before.shapes;
        moving = done.copies.moving ∙ before.moving;
        moves = done.copies.moves ∙ before.moves;
      };
  failed = ap (λ (d : Device). d.failed) c.copy_next.ensures.same ∙ c.loop-commands.invariant.failed;
}

pub returns-else-picked-pieces-2-clause-between : goal.returns-else-picked-pieces-2-clause-between
returns-else-picked-pieces-2-clause-between g c = c.loop-commands.invariant.between
