use Rattle.vk_model.proofs.Memory.RankSums.{freeing_lowers_ranks}
use Rattle.vk_model.proofs.passes.freeing_lowers_ranks.Goals as goal

pub returns : goal.returns
returns c = freeing_lowers_ranks
