use Rattle.vk_model.specs.Rules.Table.{first_fault}
use Rattle.vk_model.specs.Trace.Order.{order}
use Rattle.vk_model.proofs.laws.no_fault_is_sound.Goals as goal

pub returns : goal.returns
unfolding first_fault
returns c = λ t. c.no_fault_is_unbroken.ensures (order t)
