use Rattle.std.proofs.Common.{◌≡◌, ◌*◌, ◌≤◌, sum, take}
use Rattle.memory_steps.proofs.buffers.sum_of.Given as goal

abbrev pub invariant-loop-byte : goal.invariant-loop-byte
invariant-loop-byte l = (l.all ≡ sum (take l.byte-index l.bytes)) × (l.all ≤ 255 * l.byte-index)
