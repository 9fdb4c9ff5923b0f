use Rattle.vk_model.proofs.Memory.LinearBlocks.{linear_stays}
use Rattle.vk_model.proofs.places.linear_stays.Goals as goal

pub returns : goal.returns
returns c = linear_stays
