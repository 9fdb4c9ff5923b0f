use Rattle.vk_model.proofs.Memory.PassesEnd.{passes_end}
use Rattle.vk_model.proofs.passes.passes_end.Goals as goal

pub returns : goal.returns
returns c = passes_end
