use Rattle.std.proofs.Common.{◌≤◌, ◌<◌, ◌-◌, slice_index, length}
use Rattle.vk_transfer.proofs.counts.step_at.Given as goal

abbrev pub invariant-loop-high : goal.invariant-loop-high
invariant-loop-high l = record {
  apart : l.low < l.high;
  inside : l.high < length l.steps;
  below : slice_index l.steps l.low ≤ l.number;
  above : l.number < slice_index l.steps l.high;
}

abbrev pub decreases-loop-high : goal.decreases-loop-high
decreases-loop-high l = l.high - l.low
