use Rattle.vk_ranges.specs.Overlaps.{pieces_left}
use Rattle.vk_history.proofs.Kept.Stretches.{ArePushed}
use Rattle.vk_history.proofs.stretches.push_copies.Given as goal

abbrev pub invariant-loop-run : goal.invariant-loop-run
invariant-loop-run l = ArePushed l.stretches.items l.fn.stretches.items l.defined l.region l.part.low l.part.high (pieces_left l.run-iterator)
