use Rattle.std.proofs.Common.{arith}
use Rattle.std.proofs.lemmas.Grind.{common_steps}
use Rattle.vk_overlaps.proofs.Found.{walks_on}
use Rattle.vk_overlaps.proofs.pairs.meeting.Goals as goal

pub loop-rest-preserved : goal.loop-rest-preserved
loop-rest-preserved c =
    let done = walks_on c.args.parts.now c.loop-rest.invariant.1 c.loop-rest.rest.now c.in-len1-up.len_at_least c.loop-rest.invariant.2 in
    (grind (arith, common_steps), done.0, done.1)
