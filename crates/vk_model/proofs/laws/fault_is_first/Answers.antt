use Rattle.vk_model.specs.Rules.Table.{first_fault}
use Rattle.vk_model.specs.Trace.Order.{order}
use Rattle.vk_model.proofs.laws.fault_is_first.Goals as goal

pub returns : goal.returns
unfolding first_fault
returns c = λ t. c.fault_of_past_is_first.ensures (order t)
