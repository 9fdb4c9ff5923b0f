use Rattle.std.proofs.Common.{refl, sym, subst}
use Rattle.vk_model.specs.Sync.Node.{acts, nodes, with_acts}
use Rattle.vk_model.specs.World.Effect.{world, after_action}
use Rattle.vk_model.specs.Trace.PointViews.{action_of, point_of}
use Rattle.vk_model.specs.declared.point.Action.{Action}
use Rattle.vk_history.specs.Owners.{AreOwned}
use Rattle.vk_history.proofs.Owning.{host_comes, wait_comes, signal_comes}
use Rattle.vk_history.proofs.owners.Owners.note.Goals as goal

pub returns-in_ok-note_command-in-Run : goal.returns-in_ok-note_command-in-Run
returns-in_ok-note_command-in-Run c = λ past made frontier are.
    let p = point_of c.args.point.now in
    subst (λ (d : Action). AreOwned c.note_command.new.self (after_action past p.queue (action_of d) (world past)).owner (with_acts p (acts (action_of d)) (nodes past))) (sym c.in-Run.is)
    (c.in_ok-note_command-in-Run.ensures past (world past) (nodes past) p refl made frontier are)

pub returns-in-Host : goal.returns-in-Host
returns-in-Host c = λ past made frontier are.
    let p = point_of c.args.point.now in
    subst (λ (d : Action). AreOwned c.args.self.now (after_action past p.queue (action_of d) (world past)).owner (with_acts p (acts (action_of d)) (nodes past))) (sym c.in-Host.is) (host_comes c.args.self.now past p are _)

pub returns-in-Wait : goal.returns-in-Wait
returns-in-Wait c = λ past made frontier are.
    let p = point_of c.args.point.now in
    subst (λ (d : Action). AreOwned c.args.self.now (after_action past p.queue (action_of d) (world past)).owner (with_acts p (acts (action_of d)) (nodes past))) (sym c.in-Wait.is) (wait_comes c.args.self.now past p are _)

pub returns-in-Signal : goal.returns-in-Signal
returns-in-Signal c = λ past made frontier are.
    let p = point_of c.args.point.now in
    subst (λ (d : Action). AreOwned c.args.self.now (after_action past p.queue (action_of d) (world past)).owner (with_acts p (acts (action_of d)) (nodes past))) (sym c.in-Signal.is) (signal_comes c.args.self.now past p are _)
