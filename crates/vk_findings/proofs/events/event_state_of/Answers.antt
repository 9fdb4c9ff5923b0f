use Rattle.std.proofs.Common.{◌∙◌, ap, subst, Bool}
use Rattle.std.specs.List.{find}
use Rattle.vk_model.specs.Trace.PointViews.{action_of}
use Rattle.vk_history.specs.PointViews.{past}
use Rattle.vk_rules.specs.Synchronization.{IsEventUse}
use Rattle.vk_findings.specs.Events.{sets_event}
use Rattle.vk_findings.proofs.EventLemmas.{set_found}
use Rattle.vk_findings.proofs.events.event_state_of.Goals as goal

pub returns-clause-reported : goal.returns-clause-reported
returns-clause-reported c =
    let before_it = past c.args.history.now in
    let found = c.in_ok-found.found in
    let set = c.last_set.ensures ∙ ap (find (sets_event found.event)) c.happened.ensures in
    record {
      found =
          subst (λ (b : Bool). IsEventUse before_it c.args.point.now.queue (action_of c.args.point.now.action) (record { event = found.event; is_set = b }))
          (c.in_ok-found.ensures.reported.set ∙ set_found before_it found.event c.last_set.result set)
          c.in_ok-found.ensures.reported;
      set = set;
    }
