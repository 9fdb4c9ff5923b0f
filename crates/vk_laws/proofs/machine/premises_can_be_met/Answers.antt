use Rattle.vk_laws.proofs.EveryOrder.Example.{meets_premises}
use Rattle.vk_laws.proofs.machine.premises_can_be_met.Goals as goal

pub returns : goal.returns
returns c = meets_premises
