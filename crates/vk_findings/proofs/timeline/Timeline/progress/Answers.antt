use Rattle.std.proofs.Common.{sym, ◌∙◌}
use Rattle.vk_findings.proofs.TimelineLemmas.{complete_use, waiting_use}
use Rattle.vk_findings.proofs.timeline.Timeline.progress.Goals as goal

pub returns-then-has_use : goal.returns-then-has_use
returns-then-has_use c = λ past p x is line.
    complete_use c.args.self.now past p x c.args.spot c.args.resource is line (sym (c.has_use.ensures past p line) ∙ c.if-has_use.true) (c.has_late_use.ensures.before c.if-has_late_use.false)

pub returns : goal.returns
returns c = λ past p x is line. waiting_use past p x c.args.spot c.args.resource is (sym (c.has_use.ensures past p line) ∙ c.if-has_use.false)
