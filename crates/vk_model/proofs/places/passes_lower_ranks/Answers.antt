use Rattle.vk_model.proofs.Memory.PassRanks.{passes_lower_ranks}
use Rattle.vk_model.proofs.places.passes_lower_ranks.Goals as goal

pub returns : goal.returns
returns c = passes_lower_ranks
