use Rattle.vk_model.proofs.Memory.PassTraces.{passes_of_pools_end}
use Rattle.vk_model.proofs.passes.passes_of_pools_end.Goals as goal

pub returns : goal.returns
returns c = passes_of_pools_end
