use Rattle.std.proofs.Common.{◌≡◌, ◌++◌, length}
use Rattle.vk_ranges.specs.Inner.Chunks.{joined}
use Rattle.vk_ranges.proofs.after.RunsAfterIterator.next.Given as goal

abbrev pub invariant-loop-self : goal.invariant-loop-self
invariant-loop-self g l = l.self-inside.here.now ++ joined l.self-inside.later.now ≡ l.fn.self

abbrev pub decreases-loop-self : goal.decreases-loop-self
decreases-loop-self g l = length l.self-inside.later.now
