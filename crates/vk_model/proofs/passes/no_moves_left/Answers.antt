use Rattle.vk_model.proofs.Memory.PassMoves.{no_moves_left}
use Rattle.vk_model.proofs.passes.no_moves_left.Goals as goal

pub returns : goal.returns
returns c = no_moves_left
