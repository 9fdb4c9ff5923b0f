use Rattle.vk_model.proofs.Memory.RankSums.{ranks_are_bounded}
use Rattle.vk_model.proofs.passes.ranks_are_bounded.Goals as goal

pub returns : goal.returns
returns c = ranks_are_bounded
