use Rattle.std.proofs.Common.{subst}
use Rattle.vk_queues.specs.PointViews.{past_of}
use Rattle.vk_rules.specs.declared.layouts.WrongLayout.{WrongLayout}
use Rattle.vk_rules.specs.Layouts.{IsWrongLayout}
use Rattle.vk_findings.proofs.RangeLemmas.{not_each, part_has_other}
use Rattle.vk_findings.proofs.layouts.with_current.Goals as goal

pub returns-in_err-found-in-Other-clause-some : goal.returns-in_err-found-in-Other-clause-some
returns-in_err-found-in-Other-clause-some c = λ before a shows so.
    let n = c.in-Other.part in
    let other = subst (λ (x : WrongLayout). IsWrongLayout before a x) c.in-Other.is so in
    absurd (not_each (past_of c.args.points.now) before n.image n.range n.layout shows (part_has_other before a n other) c.in_err-found-in-Other.ensures.none)
