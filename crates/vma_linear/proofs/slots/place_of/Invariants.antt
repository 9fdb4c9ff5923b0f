use Rattle.std.proofs.Common.{◌≡◌, ℕ, ◌-◌, ◌<◌, ◌≤◌, length, get_or, true, false}
use Rattle.vma_linear.specs.declared.slots.Slot.{Slot}
use Rattle.vma_linear.specs.Inner.Slots.{comes_before}
use Rattle.vma_linear.proofs.slots.place_of.Given as goal

abbrev pub invariant-loop-low : goal.invariant-loop-low
invariant-loop-low l = record {
  in_order : l.low ≤ l.high;
  within : l.high ≤ length l.slots;
  before : (k : ℕ) (d : Slot) → k < l.low → comes_before l.direction (get_or l.slots k d).start l.start ≡ true;
  after : (k : ℕ) (d : Slot) → l.high ≤ k → k < length l.slots → comes_before l.direction (get_or l.slots k d).start l.start ≡ false;
}

abbrev pub decreases-loop-low : goal.decreases-loop-low
decreases-loop-low l = l.high - l.low
