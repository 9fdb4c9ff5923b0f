use Rattle.std.proofs.Common.{arith}
use Rattle.vk_hazards.proofs.AreaLemmas.{area_of_bytes}
use Rattle.vk_hazards.proofs.areas.bytes.Goals as goal

pub returns : goal.returns
returns c = area_of_bytes c.args.buffer c.args.offset c.args.size _ (omega arith) (λ k small lt. omega arith)
