use Rattle.std.proofs.Common.{◌≡◌, ◌≢◌, ℕ, ◌<◌, slice_get, Some}
use Rattle.vk_queues.specs.declared.lines.Line.{Line}
use Rattle.vk_queues.proofs.choosing.find_line.Given as goal

abbrev pub invariant-loop-k : goal.invariant-loop-k
invariant-loop-k l = (j : ℕ) (line : Line) → j < l.k → slice_get l.lines j ≡ Some line → line.queue ≢ l.queue
