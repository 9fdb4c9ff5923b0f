use Rattle.std.proofs.Common.{◌≡◌, ◌++◌, map, take}
use Rattle.vma_linear.specs.Inner.Slots.{ranges_of}
use Rattle.vk_model.specs.Memory.TakenRanges.{taken_of}
use Rattle.vma_linear.proofs.walks.copy_live.Given as goal

abbrev pub invariant-loop-slot : goal.invariant-loop-slot
invariant-loop-slot l = map taken_of l.ranges.items ≡ map taken_of l.initial.ranges.items ++ ranges_of (take l.slot-index l.slots)
