use Rattle.vk_laws.proofs.EveryOrder.Growth.{reached_too}
use Rattle.vk_laws.proofs.machine.runs_carry_over.Goals as goal

pub returns : goal.returns
returns c = λ size tr ca tr' ca' done cells ext r. reached_too size tr ca tr' ca' ext done cells r
