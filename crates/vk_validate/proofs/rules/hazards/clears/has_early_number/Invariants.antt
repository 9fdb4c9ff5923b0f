use Rattle.std.proofs.Common.{◌<◌, ◌+◌, ◌*◌, ℕ, false}
use Rattle.vk_touches.specs.Conflicts.{FoundIn, IsEarly}
use Rattle.vk_validate.proofs.rules.hazards.clears.has_early_number.Given as goal

abbrev pub invariant-loop-index : goal.invariant-loop-index
invariant-loop-index l = (n : ℕ) → n < l.index → FoundIn (IsEarly l.new_node) false l.contents.touches (l.ranges.first + n * l.ranges.step) (l.ranges.first + n * l.ranges.step + l.ranges.size)
