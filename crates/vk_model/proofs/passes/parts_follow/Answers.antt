use Rattle.vk_model.proofs.Memory.Parts.{parts_follow}
use Rattle.vk_model.proofs.passes.parts_follow.Goals as goal

pub returns : goal.returns
returns c = parts_follow
