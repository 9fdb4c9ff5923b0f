use Rattle.std.proofs.Common.{List, subst}
use Rattle.std.specs.Prelude.{All}
use Rattle.vk_model.specs.declared.entry.Entry.{Entry}
use Rattle.vk_places.specs.Walks.{IsStateAfter}
use Rattle.vk_places.proofs.walking.walk_of.Goals as goal

pub returns-in-Ok : goal.returns-in-Ok
returns-in-Ok c = subst (λ (t : List Entry). All (IsStateAfter c.args.config t) c.in-Ok.walked.states.items) c.entries.ensures.same c.in-Ok.ensures
