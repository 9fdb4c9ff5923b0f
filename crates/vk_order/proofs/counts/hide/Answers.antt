use Rattle.std.proofs.Common.{◌∙◌, ⊎_elim, arith}
use Rattle.std.proofs.lemmas.Bool.{cases_lt}
use Rattle.vk_order.proofs.CountLemmas.{hidden_past}
use Rattle.vk_order.proofs.counts.hide.Goals as goal

pub returns-clause-counts : goal.returns-clause-counts
returns-clause-counts c = λ i. ⊎_elim
    (λ low. c.loop-index.invariant.done i low)
    (λ high. c.loop-index.invariant.rest i high ∙ hidden_past c.args.all.now.items i (let end = c.loop-index-test.false in let all = c.len-index-end.ensures in omega arith))
    (cases_lt i c.loop-index.index)
