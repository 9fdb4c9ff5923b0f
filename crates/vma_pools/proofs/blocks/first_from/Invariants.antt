use Rattle.std.proofs.Common.{ℕ, ◌-◌, ◌<◌, ◌≤◌, length, get_or}
use Rattle.vma_pools.specs.declared.blocks.Held.{Held}
use Rattle.vma_pools.proofs.blocks.first_from.Given as goal

abbrev pub invariant-loop-low : goal.invariant-loop-low
invariant-loop-low g l = record {
  order : l.low ≤ l.high;
  within : l.high ≤ length l.blocks;
  before : (k : ℕ) (d : Held g.row.B.Denot) → k < l.low → (get_or l.blocks k d).number < l.number;
  from : (k : ℕ) (d : Held g.row.B.Denot) → l.high ≤ k → k < length l.blocks → l.number ≤ (get_or l.blocks k d).number;
}

abbrev pub decreases-loop-low : goal.decreases-loop-low
decreases-loop-low g l = l.high - l.low
