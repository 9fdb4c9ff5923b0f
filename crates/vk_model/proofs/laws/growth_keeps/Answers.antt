use Rattle.vk_model.proofs.Sync.Growth.{growth}
use Rattle.vk_model.proofs.laws.growth_keeps.Goals as goal

pub returns : goal.returns
returns c = growth
