use Rattle.std.proofs.Common.{ap, sym, ◌∙◌, subst}
use Rattle.vk_model.specs.declared.command.Cmd.{Cmd}
use Rattle.vk_model.specs.Sync.Node.{SetOf, AwaitOf, with_acts, command_acts}
use Rattle.vk_order.specs.declared.lines.Line.TheVariants.{Commands as OfCommands}
use Rattle.vk_order.specs.Lines.{place}
use Rattle.std.specs.Prelude.{length}
use Rattle.vk_history.specs.Uses.{AreLast, uses_in}
use Rattle.vk_history.proofs.Using.Lasts.{events_come, plain_comes}
use Rattle.vk_history.proofs.last_uses.LastUses.note.Goals as goal

pub returns-in-Set : goal.returns-in-Set
returns-in-Set c = λ ns p r frontier on are.
    subst (λ (x : Cmd). AreLast (uses_in c.args.self.now r) (with_acts p (command_acts x) ns) r) (sym c.in-Set.is) (events_come (SetOf c.in-Set.event) (uses_in c.args.self.now r) r p 0 c.in-Set.elements ns frontier.numbers are)

pub returns-in-Await : goal.returns-in-Await
returns-in-Await c = λ ns p r frontier on are.
    subst (λ (x : Cmd). AreLast (uses_in c.args.self.now r) (with_acts p (command_acts x) ns) r) (sym c.in-Await.is) (events_come (AwaitOf c.in-Await.event) (uses_in c.args.self.now r) r p 0 c.in-Await.elements ns frontier.numbers are)

pub returns-in_ok-keep_both-in_default : goal.returns-in_ok-keep_both-in_default
returns-in_ok-keep_both-in_default c = λ ns p r frontier on are.
    plain_comes c.args.command.now c.in_default.not-Barrier c.in_default.not-Set c.in_default.not-Await ns p r frontier.numbers c.args.self.now c.keep_both.new.self _ _ c.used_by-used.ensures
    (ap OfCommands (sym on)) (c.count-place.ensures ns frontier ∙ ap (λ q. place ns (OfCommands q) (length ns)) (sym on)) c.in_ok-keep_both-in_default.ensures are
