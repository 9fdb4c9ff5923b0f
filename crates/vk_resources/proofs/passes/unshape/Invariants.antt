use Rattle.std.proofs.Common.{take}
use Rattle.vk_resources.specs.Inner.PassEnds.{LeavesOut}
use Rattle.vk_resources.proofs.passes.unshape.Given as goal

abbrev pub invariant-loop-id : goal.invariant-loop-id
invariant-loop-id l = LeavesOut l.fn.shapes.entries l.shapes.entries (take l.id-index l.ids)
