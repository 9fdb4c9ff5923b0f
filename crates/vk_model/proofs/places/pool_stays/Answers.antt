use Rattle.vk_model.proofs.Memory.Pools.{pool_stays}
use Rattle.vk_model.proofs.places.pool_stays.Goals as goal

pub returns : goal.returns
returns c = pool_stays
