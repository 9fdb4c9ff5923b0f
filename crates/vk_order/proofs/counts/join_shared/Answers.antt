use Rattle.std.proofs.Common.{◌∙◌, ⊎_elim, arith}
use Rattle.std.proofs.lemmas.Bool.{cases_lt}
use Rattle.vk_order.proofs.CountLemmas.{joined_past}
use Rattle.vk_order.proofs.counts.join_shared.Goals as goal

pub returns-clause-counts : goal.returns-clause-counts
returns-clause-counts c = λ i lt. ⊎_elim
    (λ low. c.loop-index.invariant.done i low)
    (λ high. c.loop-index.invariant.rest i high ∙ joined_past _ c.args.other.now i (let end = c.loop-index-test.false in let least = c.min-index-end.ensures in let all = c.len.ensures in omega arith))
    (cases_lt i c.loop-index.index)
