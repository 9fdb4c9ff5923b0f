use Rattle.vk_order.proofs.ElementPlaces.{placed}
use Rattle.vk_order.proofs.laws.elements_are_together.Goals as goal

pub returns : goal.returns
returns c = placed
