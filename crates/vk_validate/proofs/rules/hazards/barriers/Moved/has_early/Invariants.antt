use Rattle.std.proofs.Common.{◌≤◌, ℕ, Bool, length}
use Rattle.vk_touches.specs.Conflicts.{FoundAt, IsEarly}
use Rattle.vk_validate.proofs.Judging.Among.{NoneBelow}
use Rattle.vk_validate.proofs.rules.hazards.barriers.Moved.has_early.Given as goal

abbrev pub invariant-loop-index : goal.invariant-loop-index
invariant-loop-index l = NoneBelow (λ (t : Bool) (low high : ℕ). high ≤ length l.self.contents.now.touches → FoundAt (λ (k : ℕ). IsEarly l.new_node) t l.self.contents.now.touches low high) l.self.ranges l.index
