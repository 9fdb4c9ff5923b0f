use Rattle.vk_model.proofs.Trace.Orders.{orders_agree}
use Rattle.vk_model.proofs.laws.orders_agree.Goals as goal

pub returns : goal.returns
returns c = orders_agree
