use Rattle.vk_order.proofs.PartLemmas.{newer_parts}
use Rattle.vk_order.proofs.parts.parts_from.Goals as goal

pub returns : goal.returns
returns c = λ ordered. newer_parts c.args.number c.args.parts.now c.first_from-first.result (c.first_from-first.ensures.below ordered)
