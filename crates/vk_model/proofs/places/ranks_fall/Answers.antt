use Rattle.vk_model.proofs.Memory.Ranks.{ranks_fall}
use Rattle.vk_model.proofs.places.ranks_fall.Goals as goal

pub returns : goal.returns
returns c = ranks_fall
