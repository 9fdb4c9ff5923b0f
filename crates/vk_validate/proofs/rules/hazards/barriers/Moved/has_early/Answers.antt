use Rattle.std.proofs.Common.{◌≤◌, ℕ, Bool, length}
use Rattle.vk_touches.specs.Conflicts.{FoundAt, IsEarly}
use Rattle.vk_validate.proofs.Judging.Among.{none_further, none_in_all, some_range}
use Rattle.vk_validate.proofs.rules.hazards.barriers.Moved.has_early.Goals as goal

pub loop-index-preserved : goal.loop-index-preserved
loop-index-preserved c = none_further (λ (t : Bool) (low high : ℕ). high ≤ length c.args.self.now.contents.now.touches → FoundAt (λ (k : ℕ). IsEarly c.args.new_node.now) t c.args.self.now.contents.now.touches low high) c.args.self.now.ranges c.loop-index.index c.low-low.result c.low-low.ensures c.loop-index.invariant (rw c.if-has_early.false at c.has_early.ensures)

pub returns-then-has_early : goal.returns-then-has_early
returns-then-has_early c = some_range (λ (t : Bool) (low high : ℕ). high ≤ length c.args.self.now.contents.now.touches → FoundAt (λ (k : ℕ). IsEarly c.args.new_node.now) t c.args.self.now.contents.now.touches low high) c.args.self.now.ranges c.loop-index.index c.low-low.result c.low-low.ensures c.loop-index-test.true (rw c.if-has_early.true at c.has_early.ensures)

pub returns : goal.returns
returns c = none_in_all (λ (t : Bool) (low high : ℕ). high ≤ length c.args.self.now.contents.now.touches → FoundAt (λ (k : ℕ). IsEarly c.args.new_node.now) t c.args.self.now.contents.now.touches low high) c.args.self.now.ranges c.loop-index.index c.loop-index-test.false c.loop-index.invariant
