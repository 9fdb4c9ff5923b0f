use Rattle.vk_model.proofs.Rules.Fault.{unbroken_of_none, none_of_unbroken}
use Rattle.vk_model.proofs.laws.no_fault_is_unbroken.Goals as goal

pub returns : goal.returns
returns c = λ past. (unbroken_of_none past, none_of_unbroken past)
