use Rattle.std.proofs.Common.{◌<◌, ◌+◌, ◌*◌, ℕ, false}
use Rattle.vk_touches.specs.Conflicts.{FoundAt, Misses}
use Rattle.vk_validate.proofs.rules.hazards.clears.has_missed_number.Given as goal

abbrev pub invariant-loop-index : goal.invariant-loop-index
invariant-loop-index l = (n : ℕ) → n < l.index → FoundAt (Misses l.contents.is_cached l.by) false l.contents.touches (l.ranges.first + n * l.ranges.step) (l.ranges.first + n * l.ranges.step + l.ranges.size)
