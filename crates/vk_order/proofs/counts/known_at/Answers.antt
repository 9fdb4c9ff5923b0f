use Rattle.std.proofs.Common.{ap, ◌∙◌}
use Rattle.vk_order.specs.declared.counts.Counts.{Counts}
use Rattle.vk_order.specs.Inner.Counts.{known_in, known_on}
use Rattle.vk_order.proofs.counts.known_at.Goals as goal

pub returns : goal.returns
unfolding known_in
returns c = c.known.ensures ∙ ap (λ (d : Counts). known_on c.args.line d) c.counts_at.ensures
