use Rattle.std.proofs.Common.{◌≡◌, ℕ, ◌++◌, List, drop, max}
use Rattle.vk_model.specs.Memory.Suballocation.{Taken}
use Rattle.vma_linear.specs.Inner.Slots.{ranges_of}
use Rattle.vma_linear.specs.Inner.Widest.{widest_up}
use Rattle.vma_linear.proofs.walks.walk_up.Given as goal

abbrev pub invariant-loop-slot : goal.invariant-loop-slot
invariant-loop-slot l =
    (ts : List Taken) (high : ℕ) → max l.width (widest_up l.edge (ranges_of (drop l.slot-index l.slots) ++ ts) high) ≡ max l.initial.width (widest_up l.initial.edge (ranges_of l.slots ++ ts) high)
