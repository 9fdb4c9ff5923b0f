use Rattle.std.proofs.Common.{sym, ◌∙◌}
use Rattle.vk_rules.proofs.Writing.Twice.{later_sorted}
use Rattle.vk_rules.proofs.twice.has_twice.Goals as goal

pub loop-rest-preserved : goal.loop-rest-preserved
loop-rest-preserved c =
    let later = later_sorted c.loop-rest.rest.now c.in-len1-up.len_at_least c.loop-rest.invariant.1 (sym c.begins_with.ensures ∙ c.if-begins_with.false) in
    (later.0 ∙ c.loop-rest.invariant.0, later.1)
