use Rattle.std.proofs.Common.{take}
use Rattle.vk_resources.specs.Inner.PassEnds.{ForgetsEach}
use Rattle.vk_resources.proofs.resources.Resources.forget_each.Given as goal

abbrev pub invariant-loop-id : goal.invariant-loop-id
invariant-loop-id l = ForgetsEach (take l.id-index l.ids) l.fn.self l.self
