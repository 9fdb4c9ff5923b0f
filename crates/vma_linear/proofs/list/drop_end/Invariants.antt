use Rattle.std.proofs.Common.{◌≡◌, ℕ, take, vec_len}
use Rattle.vma_linear.specs.Inner.Slots.{ranges_of}
use Rattle.vma_linear.proofs.list.drop_end.Given as goal

abbrev pub invariant-loop-slot : goal.invariant-loop-slot
invariant-loop-slot l = record {
  same : ranges_of l.slots.items ≡ ranges_of l.initial.slots.items;
  front : (size : ℕ) × (l.slots.items ≡ take size l.initial.slots.items);
}

abbrev pub decreases-loop-slot : goal.decreases-loop-slot
decreases-loop-slot l = vec_len l.slots
