use Rattle.std.proofs.Common.{◌∙◌, sym, ap, not, ◌==◌}
use Rattle.vk_model.specs.Basics.{holds}
use Rattle.vk_history.specs.PointViews.{past}
use Rattle.vk_rules.proofs.Making.EventSets.{was_set_on}
use Rattle.vk_rules.proofs.synchronization.was_set_on.Goals as goal

pub returns-in-Some : goal.returns-in-Some
returns-in-Some c = ap (λ o. not (holds o (λ s. s.queue == c.args.queue))) c.in-Some.ensures ∙ sym (was_set_on (past c.args.history.now) c.is_judged.ensures.faultless c.args.queue c.args.event)

pub returns-in-None : goal.returns-in-None
returns-in-None c = ap (λ o. not (holds o (λ s. s.queue == c.args.queue))) c.in-None.ensures ∙ sym (was_set_on (past c.args.history.now) c.is_judged.ensures.faultless c.args.queue c.args.event)
