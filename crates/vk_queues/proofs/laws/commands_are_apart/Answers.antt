use Rattle.vk_queues.proofs.NewPoints.{ordered_apart, order_apart}
use Rattle.vk_queues.proofs.laws.commands_are_apart.Goals as goal

pub returns-clause-ordered : goal.returns-clause-ordered
returns-clause-ordered c = ordered_apart

pub returns-clause-order : goal.returns-clause-order
returns-clause-order c = order_apart
