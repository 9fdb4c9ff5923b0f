use Rattle.std.proofs.Common.{◌≡◌, map, take}
use Rattle.vma_defrag.specs.Inner.Ending.{marked}
use Rattle.vma_defrag.proofs.ending.mark.Given as goal

abbrev pub invariant-loop-allocation : goal.invariant-loop-allocation
invariant-loop-allocation l = l.planned.items ≡ map (marked (take l.allocation-index l.allocations) l.fate) l.initial.planned.items
