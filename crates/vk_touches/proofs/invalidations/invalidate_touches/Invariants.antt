use Rattle.std.proofs.Common.{◌-◌, ◌≤◌}
use Rattle.vk_touches.specs.Conflicts.{SeesWrite}
use Rattle.vk_touches.proofs.Invalidating.{AreInvalidatedTo}
use Rattle.vk_touches.proofs.invalidations.invalidate_touches.Given as goal

abbrev pub invariant-loop-at : goal.invariant-loop-at
invariant-loop-at l = AreInvalidatedTo (SeesWrite l.by) l.fn.touches l.touches l.part.low l.at × (l.at ≤ l.part.high)

abbrev pub decreases-loop-at : goal.decreases-loop-at
decreases-loop-at l = l.part.high - l.at
