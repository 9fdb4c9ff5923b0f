use Rattle.std.proofs.Common.{◌-◌, ◌<◌, length}
use Rattle.vma_linear.proofs.SlotLists.{IsDeadBelow}
use Rattle.vma_linear.proofs.list.first_live.Given as goal

abbrev pub invariant-loop-place : goal.invariant-loop-place
invariant-loop-place l = record { dead : IsDeadBelow l.place l.slots; within : l.place < length l.slots }

abbrev pub decreases-loop-place : goal.decreases-loop-place
decreases-loop-place l = length l.slots - l.place
