use Rattle.std.proofs.Common.{◌≡◌, ℕ, drop, max}
use Rattle.vma_linear.specs.Inner.Slots.{ranges_of}
use Rattle.vma_linear.specs.Inner.Widest.{widest_down}
use Rattle.vma_linear.proofs.walks.walk_down.Given as goal

abbrev pub invariant-loop-slot : goal.invariant-loop-slot
invariant-loop-slot l =
    (low : ℕ) → max l.width (widest_down low (ranges_of (drop l.slot-index l.slots)) l.edge) ≡ max l.initial.width (widest_down low (ranges_of l.slots) l.initial.edge)
