use Rattle.vk_laws.proofs.EveryOrder.Growth.{may_run}
use Rattle.vk_laws.proofs.machine.pieces_suffice.Goals as goal

pub returns : goal.returns
returns c = may_run
