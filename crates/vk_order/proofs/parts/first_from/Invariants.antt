use Rattle.std.proofs.Common.{◌-◌, ◌≤◌, length}
use Rattle.vk_order.specs.Inner.Parts.{AreInOrder, AreBelow}
use Rattle.vk_order.proofs.parts.first_from.Given as goal

abbrev pub invariant-loop-first : goal.invariant-loop-first
invariant-loop-first l = (l.first ≤ l.end) × (l.end ≤ length l.parts) × (AreInOrder l.parts → AreBelow l.number l.parts l.first)

abbrev pub decreases-loop-first : goal.decreases-loop-first
decreases-loop-first l = l.end - l.first
