use Rattle.vk_model.proofs.Memory.Addresses.{texels_apart}
use Rattle.vk_model.proofs.places.texels_apart.Goals as goal

pub returns : goal.returns
returns c = texels_apart
