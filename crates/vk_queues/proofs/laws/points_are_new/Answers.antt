use Rattle.vk_queues.proofs.NewPoints.{ordered_new, order_new}
use Rattle.vk_queues.proofs.laws.points_are_new.Goals as goal

pub returns-clause-ordered : goal.returns-clause-ordered
returns-clause-ordered c = ordered_new

pub returns-clause-order : goal.returns-clause-order
returns-clause-order c = order_new
