use Rattle.vk_model.proofs.Memory.LinearBlocks.{linear_takes}
use Rattle.vk_model.proofs.places.linear_takes.Goals as goal

pub returns : goal.returns
returns c = linear_takes
