use Rattle.std.proofs.Common.{◌∙◌, sym, ap, not, refl}
use Rattle.vk_model.specs.Basics.{holds}
use Rattle.vk_model.specs.Rules.Synchronization.{same_dependencies}
use Rattle.vk_history.specs.PointViews.{past}
use Rattle.vk_history.specs.Tabled.{set_view}
use Rattle.vk_rules.proofs.Making.EventSets.{was_set_with, only_set, never_set}
use Rattle.vk_rules.proofs.synchronization.awaited_otherwise.Goals as goal

pub returns-in-Some-clause-broken : goal.returns-in-Some-clause-broken
returns-in-Some-clause-broken c =
    c.otherwise_than.ensures.broken
    ∙ ap not (ap (λ o. holds o (λ s. same_dependencies c.args.elements.now s.elements)) c.in-Some.ensures ∙ sym (was_set_with (past c.args.history.now) c.is_judged.ensures.faultless c.args.event c.args.elements.now))

pub returns-in-Some-clause-reported : goal.returns-in-Some-clause-reported
returns-in-Some-clause-reported c =
    c.otherwise_than.ensures.reported (past c.args.history.now)
    (only_set (past c.args.history.now) c.is_judged.ensures.faultless c.args.event (set_view c.in-Some.set) c.in-Some.ensures)

pub returns-in-None-clause-broken : goal.returns-in-None-clause-broken
returns-in-None-clause-broken c =
    ap not (ap (λ o. holds o (λ s. same_dependencies c.args.elements.now s.elements)) c.in-None.ensures ∙ sym (was_set_with (past c.args.history.now) c.is_judged.ensures.faultless c.args.event c.args.elements.now))

pub returns-in-None-clause-reported : goal.returns-in-None-clause-reported
returns-in-None-clause-reported c = record {
  event = refl;
  element = λ es there. absurd (never_set (past c.args.history.now) c.is_judged.ensures.faultless c.args.event c.in-None.ensures es there);
}
