use Rattle.vk_model.proofs.Memory.RankSums.{moves_stay_down}
use Rattle.vk_model.proofs.passes.moves_stay_down.Goals as goal

pub returns : goal.returns
returns c = moves_stay_down
