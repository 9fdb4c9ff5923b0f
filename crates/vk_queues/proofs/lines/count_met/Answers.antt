-- What the tally of a wait says is whether it is met.
use Rattle.std.proofs.Common.{◌∙◌, sym, arith}
use Rattle.vk_queues.proofs.Counting.{met_more, unmet_at}
use Rattle.vk_queues.proofs.lines.count_met.Goals as goal

pub loop-met-preserved : goal.loop-met-preserved
loop-met-preserved c = (let le = c.loop-met.invariant.0 in omega arith, λ past tallied known. met_more c.args.tallies.now past _ _ _ tallied c.loop-met-test.true (c.loop-met.invariant.1 past tallied known) (sym c.has_reached.ensures ∙ c.if-has_reached.true))

pub returns-else-has_reached-clause-met : goal.returns-else-has_reached-clause-met
returns-else-has_reached-clause-met c = λ past tallied known. (c.loop-met.invariant.1 past tallied known, λ lt. unmet_at c.args.tallies.now past _ _ _ tallied lt (sym c.has_reached.ensures ∙ c.if-has_reached.false))
