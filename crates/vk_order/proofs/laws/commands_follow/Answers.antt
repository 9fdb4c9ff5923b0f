use Rattle.vk_model.specs.Trace.Order.{order}
use Rattle.vk_order.proofs.SubmissionLemmas.{follow, ordered_submitted}
use Rattle.vk_order.proofs.laws.commands_follow.Goals as goal

pub returns-clause-commands : goal.returns-clause-commands
returns-clause-commands c = λ ns q m x d numbers submitted hm hx hd lx ld lt h. follow ns numbers submitted q m x d hm hx hd lx ld lt h

pub returns-clause-ordered : goal.returns-clause-ordered
returns-clause-ordered c = ordered_submitted

pub returns-clause-order : goal.returns-clause-order
returns-clause-order c = λ t. ordered_submitted (order t) (c.order_is_structured.ensures.ordered t)
