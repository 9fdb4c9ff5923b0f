use Rattle.std.proofs.Common.{arith, sym, ◌∙◌}
use Rattle.std.proofs.lemmas.Grind.{common_steps}
use Rattle.vk_overlaps.proofs.Found.{walks_on, meets_read}
use Rattle.vk_overlaps.proofs.pairs.meeting_some.Goals as goal

pub loop-rest-preserved : goal.loop-rest-preserved
loop-rest-preserved c =
    let done = walks_on c.args.written.now c.loop-rest.invariant.1 c.loop-rest.rest.now c.in-len1-up.len_at_least c.loop-rest.invariant.2 in
    (grind (arith, common_steps), done.0, done.1)

pub returns-then-meets_any-clause-part : goal.returns-then-meets_any-clause-part
returns-then-meets_any-clause-part c =
    meets_read c.args.written.now c.loop-rest.invariant.1 c.loop-rest.rest.now c.args.read.now _ c.in-len1-up.len_at_least c.loop-rest.invariant.2 (sym c.meets_any.ensures ∙ c.if-meets_any.true)
