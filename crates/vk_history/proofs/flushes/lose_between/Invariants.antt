use Rattle.vk_ranges.specs.Overlaps.{pieces_left}
use Rattle.vk_history.proofs.Kept.CacheChanges.{AreLostTo}
use Rattle.vk_history.proofs.flushes.lose_between.Given as goal

abbrev pub invariant-loop-run : goal.invariant-loop-run
invariant-loop-run l = AreLostTo l.defined l.fn.defined l.dirty l.low l.high (pieces_left l.run-iterator)
