use Rattle.vk_laws.proofs.EveryOrder.Commands.{is_model}
use Rattle.vk_laws.proofs.machine.whole_commands.Goals as goal

pub returns : goal.returns
returns c = λ fx tr cut. is_model fx tr cut
