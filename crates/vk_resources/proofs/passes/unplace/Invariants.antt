use Rattle.std.proofs.Common.{take}
use Rattle.vk_resources.specs.Inner.PassEnds.{LeavesOut}
use Rattle.vk_resources.proofs.passes.unplace.Given as goal

abbrev pub invariant-loop-id : goal.invariant-loop-id
invariant-loop-id l = LeavesOut l.fn.resources.entries l.resources.entries (take l.id-index l.ids)
