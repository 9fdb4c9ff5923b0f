use Rattle.vk_model.proofs.Memory.Giving.{blocks_give}
use Rattle.vk_model.proofs.places.blocks_give.Goals as goal

pub returns : goal.returns
returns c = blocks_give
