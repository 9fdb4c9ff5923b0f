use Rattle.vk_offers.proofs.Coming.{on_queues}
use Rattle.vk_offers.proofs.laws.points_are_on_queues.Goals as goal

pub returns : goal.returns
returns c = on_queues
