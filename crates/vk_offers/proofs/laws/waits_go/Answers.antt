use Rattle.vk_offers.proofs.Waiting.{wait_goes}
use Rattle.vk_offers.proofs.laws.waits_go.Goals as goal

pub returns : goal.returns
returns c = λ s ws sound ordered counted. wait_goes c.growth_keeps.ensures c.before_is_order.ensures.forward s ws sound ordered counted
