use Rattle.vk_model.proofs.Memory.Addresses.{texels_inside}
use Rattle.vk_model.proofs.places.texels_inside.Goals as goal

pub returns : goal.returns
returns c = texels_inside
