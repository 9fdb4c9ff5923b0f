use Rattle.vk_model.proofs.Memory.Addresses.{subresources_hold}
use Rattle.vk_model.proofs.places.subresources_hold.Goals as goal

pub returns : goal.returns
returns c = subresources_hold
