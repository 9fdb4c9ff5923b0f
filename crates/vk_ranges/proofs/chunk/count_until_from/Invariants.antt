use Rattle.std.proofs.Common.{length, get_or, ◌-◌, ◌≤◌, ◌<◌, ℕ}
use Rattle.vk_ranges.proofs.chunk.count_until_from.Given as goal

abbrev pub invariant-loop-place : goal.invariant-loop-place
invariant-loop-place g l = l.place ≤ length l.runs

abbrev pub decreases-loop-place : goal.decreases-loop-place
decreases-loop-place g l = length l.runs - l.place

abbrev pub invariant-loop-place-2 : goal.invariant-loop-place-2
invariant-loop-place-2 g l = record { within : l.place ≤ length l.runs; above : (d : ℕ × g.row.T.Denot) → l.place < length l.runs → l.index < (get_or l.runs l.place d).0 }

abbrev pub decreases-loop-place-2 : goal.decreases-loop-place-2
decreases-loop-place-2 g l = l.place
