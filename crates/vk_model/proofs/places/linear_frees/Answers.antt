use Rattle.vk_model.proofs.Memory.Freeing.{linear_frees}
use Rattle.vk_model.proofs.places.linear_frees.Goals as goal

pub returns : goal.returns
returns c = linear_frees
