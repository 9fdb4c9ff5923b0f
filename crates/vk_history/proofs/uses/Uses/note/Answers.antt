use Rattle.std.proofs.Common.{ap, sym, subst, refl, arith}
use Rattle.vk_model.specs.Trace.Point.{Action, host_of}
use Rattle.vk_model.specs.Sync.Complete.{commands_of}
use Rattle.vk_model.specs.Sync.Node.{nodes, acts, with_acts}
use Rattle.vk_model.specs.Trace.PointViews.{point_of, action_of}
use Rattle.vk_history.specs.declared.last_uses.LastUses.{LastUses}
use Rattle.vk_history.specs.Uses.{AreLast, uses_in}
use Rattle.vk_history.proofs.Using.Lasts.{quiet_comes}
use Rattle.vk_history.proofs.Using.Waiting.{host_step, run_step, quiet_step}
use Rattle.vk_history.proofs.uses.Uses.note.Goals as goal

pub returns-in_ok-note_entry-in-Host : goal.returns-in_ok-note_entry-in-Host
returns-in_ok-note_entry-in-Host c = λ past ordered frontier are.
    let p = point_of c.args.point.now in
    let is = ap action_of c.in-Host.is in
    record {
      waiting = λ r. let one = c.in_ok-note_entry-in-Host.ensures.waiting r in let was = are.waiting r in let step = host_step past p c.in-Host.entry.now r ordered is in omega (arith, one, was, step);
      last = λ r. quiet_comes _ r p _ (nodes past) frontier.numbers (ap acts is) refl (subst (λ (u : LastUses). AreLast (uses_in u r) (nodes past) r) (sym c.in_ok-note_entry-in-Host.ensures.last) (are.last r));
    }

pub returns-in_ok-note-in-Run : goal.returns-in_ok-note-in-Run
returns-in_ok-note-in-Run c = λ past ordered frontier are.
    let p = point_of c.args.point.now in
    let is = ap action_of c.in-Run.is in
    record {
      waiting = λ r. let one = c.discount_command.ensures r in let was = are.waiting r in let step = run_step past p c.in-Run.command.now r ordered is in omega (arith, one, was, step);
      last = λ r. subst (λ (d : Action). AreLast (uses_in c.note.new.self r) (with_acts p (acts d) (nodes past)) r) (sym is) (c.in_ok-note-in-Run.ensures (nodes past) p r frontier refl (are.last r));
    }

pub returns-in-Wait : goal.returns-in-Wait
returns-in-Wait c = λ past ordered frontier are.
    let p = point_of c.args.point.now in
    let is = ap action_of c.in-Wait.is in
    record {
      waiting = λ r. let was = are.waiting r in let step = quiet_step past p _ r (ap acts is) refl (ap (λ (d : Action). commands_of past p.entry (host_of d)) is) in omega (arith, was, step);
      last = λ r. quiet_comes _ r p _ (nodes past) frontier.numbers (ap acts is) refl (are.last r);
    }

pub returns-in-Signal : goal.returns-in-Signal
returns-in-Signal c = λ past ordered frontier are.
    let p = point_of c.args.point.now in
    let is = ap action_of c.in-Signal.is in
    record {
      waiting = λ r. let was = are.waiting r in let step = quiet_step past p _ r (ap acts is) refl (ap (λ (d : Action). commands_of past p.entry (host_of d)) is) in omega (arith, was, step);
      last = λ r. quiet_comes _ r p _ (nodes past) frontier.numbers (ap acts is) refl (are.last r);
    }
