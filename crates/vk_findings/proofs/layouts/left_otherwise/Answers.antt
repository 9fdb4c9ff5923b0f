use Rattle.vk_queues.specs.PointViews.{past_of}
use Rattle.vk_findings.proofs.RangeLemmas.{not_each, transition_has_other}
use Rattle.vk_findings.proofs.layouts.left_otherwise.Goals as goal

pub returns-in_err-found-clause-some : goal.returns-in_err-found-clause-some
returns-in_err-found-clause-some c = λ before p shows so.
    let t = c.args.transition in
    absurd (not_each (past_of c.args.points.now) before t.image t.range t.old_layout shows (transition_has_other before p t so) c.in_err-found.ensures.none)
