use Rattle.std.proofs.Common.{rules, arith}
use Rattle.std.proofs.lemmas.Grind.{common_steps}
use Rattle.vk_order.specs.Inner.Counts.{made_visible_on}
use Rattle.vk_order.proofs.counts.Counts.made_visible.Goals as goal

pub returns-then-shows-4 : goal.returns-then-shows-4
unfolding made_visible_on
returns-then-shows-4 c = first_of (search rules, grind (arith, common_steps))

pub returns-else-shows-4 : goal.returns-else-shows-4
unfolding made_visible_on
returns-else-shows-4 c = first_of (search rules, grind (arith, common_steps))
