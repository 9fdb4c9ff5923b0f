use Rattle.vk_model.proofs.Memory.PassBegins.{passes_lead_down}
use Rattle.vk_model.proofs.passes.passes_lead_down.Goals as goal

pub returns : goal.returns
returns c = passes_lead_down
