use Rattle.vk_model.proofs.Rules.Fault.{first_of_fault}
use Rattle.vk_model.proofs.laws.fault_of_past_is_first.Goals as goal

pub returns : goal.returns
returns c = first_of_fault
