use Rattle.std.proofs.Common.{◌≤◌, ℕ, Bool, length}
use Rattle.vk_touches.specs.Conflicts.{FoundAt, MissesAt}
use Rattle.vk_validate.proofs.Judging.Among.{none_further, none_in_all, some_range}
use Rattle.vk_validate.proofs.rules.hazards.barriers.Moved.has_missed.Goals as goal

pub loop-index-preserved : goal.loop-index-preserved
loop-index-preserved c = none_further (λ (t : Bool) (low high : ℕ). high ≤ length c.args.self.now.contents.now.touches → FoundAt (MissesAt c.args.by.now) t c.args.self.now.contents.now.touches low high) c.args.self.now.ranges c.loop-index.index c.low-low.result c.low-low.ensures c.loop-index.invariant (rw c.if-has_missed_at.false at c.has_missed_at.ensures)

pub returns-then-has_missed_at : goal.returns-then-has_missed_at
returns-then-has_missed_at c = some_range (λ (t : Bool) (low high : ℕ). high ≤ length c.args.self.now.contents.now.touches → FoundAt (MissesAt c.args.by.now) t c.args.self.now.contents.now.touches low high) c.args.self.now.ranges c.loop-index.index c.low-low.result c.low-low.ensures c.loop-index-test.true (rw c.if-has_missed_at.true at c.has_missed_at.ensures)

pub returns : goal.returns
returns c = none_in_all (λ (t : Bool) (low high : ℕ). high ≤ length c.args.self.now.contents.now.touches → FoundAt (MissesAt c.args.by.now) t c.args.self.now.contents.now.touches low high) c.args.self.now.ranges c.loop-index.index c.loop-index-test.false c.loop-index.invariant
