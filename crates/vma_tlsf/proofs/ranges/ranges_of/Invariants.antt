use Rattle.std.proofs.Common.{◌≡◌, take}
use Rattle.std.specs.Prelude.{map}
use Rattle.vk_model.specs.Memory.TakenRanges.{taken_of}
use Rattle.vma_tlsf.specs.Inner.Chain.{taken_in}
use Rattle.vma_tlsf.proofs.ranges.ranges_of.Given as goal

abbrev pub invariant-loop-slot : goal.invariant-loop-slot
invariant-loop-slot l = map taken_of l.ranges.items ≡ taken_in (take l.slot l.nodes)
