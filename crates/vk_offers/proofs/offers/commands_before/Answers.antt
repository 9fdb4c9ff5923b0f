use Rattle.vk_offers.proofs.Steps.{four_counts}
use Rattle.vk_offers.proofs.offers.commands_before.Goals as goal

pub returns : goal.returns
returns c = λ ns n new_node.
    four_counts ns n c.before_is_order.ensures.forward new_node.numbers _ _ _ _
    (record { first = λ m at line. c.commands_before.ensures.first ns n m new_node at line; there = c.commands_before.ensures.there ns n new_node })
    (record { first = λ m at line. c.commands_before-2.ensures.first ns n m new_node at line; there = c.commands_before-2.ensures.there ns n new_node })
    (record { first = λ m at line. c.commands_before-3.ensures.first ns n m new_node at line; there = c.commands_before-3.ensures.there ns n new_node })
    (record { first = λ m at line. c.commands_before-4.ensures.first ns n m new_node at line; there = c.commands_before-4.ensures.there ns n new_node })
