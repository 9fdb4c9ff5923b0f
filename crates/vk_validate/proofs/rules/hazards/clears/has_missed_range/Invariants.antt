use Rattle.std.proofs.Common.{ℕ, Bool, false, take}
use Rattle.vk_touches.specs.Conflicts.{FoundAmong, FoundAt, Misses}
use Rattle.vk_validate.specs.Inner.Subresources.{FoundInSubresources}
use Rattle.vk_validate.proofs.rules.hazards.clears.has_missed_range.Given as goal

abbrev pub invariant-loop-range : goal.invariant-loop-range
invariant-loop-range l = FoundAmong (FoundInSubresources (λ (r : Bool) (low high : ℕ). FoundAt (Misses l.contents.is_cached l.by) r l.contents.touches low high) l.bytes) false (take l.range-index l.ranges)
