use Rattle.std.proofs.Common.{◌≡◌, ℕ, [], if◌then◌else◌, ◌&&◌, Some, sym, subst}
use Rattle.std.specs.Prelude.{◌++◌}
use Rattle.vk_model.specs.Basics.{among, option_list}
use Rattle.vk_model.specs.Trace.Objects.{is_exclusive}
use Rattle.vk_model.specs.declared.command.Cmd.{Cmd}
use Rattle.vk_model.specs.World.Effect.{after_command, after_writes}
use Rattle.vk_model.specs.World.Ownership.{family_of}
use Rattle.vk_model.specs.Sync.Node.{SetOf, AwaitOf, with_acts, command_acts}
use Rattle.vk_history.specs.Owners.{AreOwned, kept_at, owned_by}
use Rattle.vk_history.proofs.Owning.{events_come, command_comes}
use Rattle.vk_history.proofs.owners.Owners.note_command.Goals as goal

pub returns-in_ok-note_elements-in-Barrier : goal.returns-in_ok-note_elements-in-Barrier
returns-in_ok-note_elements-in-Barrier c = λ past w ns p on made frontier are.
    subst (λ (x : Cmd). AreOwned c.note_elements.new.self (after_command past (family_of c.args.queue) x w).owner (with_acts p (command_acts x) ns)) (sym c.in-Barrier.is)
    (rw c.as_slice.ensures at c.in_ok-note_elements-in-Barrier.ensures past (record w { value = after_writes [] w.value }) ns p on made frontier are)

pub returns-in-Set : goal.returns-in-Set
returns-in-Set c = λ past w ns p on made frontier are.
    subst (λ (x : Cmd). AreOwned c.args.self.now (after_command past (family_of c.args.queue) x w).owner (with_acts p (command_acts x) ns)) (sym c.in-Set.is) (events_come (SetOf c.in-Set.event) c.args.self.now w.owner p 0 c.in-Set.elements ns frontier.numbers are)

pub returns-in-Await : goal.returns-in-Await
returns-in-Await c = λ past w ns p on made frontier are.
    subst (λ (x : Cmd). AreOwned c.args.self.now (after_command past (family_of c.args.queue) x w).owner (with_acts p (command_acts x) ns)) (sym c.in-Await.is) (events_come (AwaitOf c.in-Await.event) c.args.self.now w.owner p 0 c.in-Await.elements ns frontier.numbers are)

pub returns-in_ok-use_both-in_default : goal.returns-in_ok-use_both-in_default
returns-in_ok-use_both-in_default c = λ past w ns p on made frontier are.
    command_comes c.args.command.now c.in_default.not-Barrier c.in_default.not-Set c.in_default.not-Await past w (family_of c.args.queue) ns p frontier.numbers c.args.self.now c.use_both.new.self _ c.used_by.ensures
    (subst (λ (f : ℕ). (r : ℕ) → kept_at c.use_both.new.self r ≡ (if among r (option_list c.used_by.result.first ++ option_list c.used_by.result.second) && is_exclusive past r then Some (owned_by f) else kept_at c.args.self.now r)) c.family_of.ensures
    (c.in_ok-use_both-in_default.ensures past made))
    are
