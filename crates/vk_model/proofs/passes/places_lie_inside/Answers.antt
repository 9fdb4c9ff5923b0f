use Rattle.vk_model.proofs.Memory.PoolPlaces.{places_lie_inside}
use Rattle.vk_model.proofs.passes.places_lie_inside.Goals as goal

pub returns : goal.returns
returns c = places_lie_inside
