use Rattle.std.proofs.Common.{ℕ, Bool, false, take}
use Rattle.vk_touches.specs.Conflicts.{FoundAmong, FoundIn, IsEarly}
use Rattle.vk_validate.specs.Inner.Subresources.{FoundInSubresources}
use Rattle.vk_validate.proofs.rules.hazards.clears.has_early_range.Given as goal

abbrev pub invariant-loop-range : goal.invariant-loop-range
invariant-loop-range l = FoundAmong (FoundInSubresources (λ (r : Bool) (low high : ℕ). FoundIn (IsEarly l.new_node) r l.contents.touches low high) l.bytes) false (take l.range-index l.ranges)
