use Rattle.std.proofs.Common.{◌≡◌, ℕ, ◌<◌, map, slice_get, Some}
use Rattle.vk_queues.specs.declared.lines.Line.{Line}
use Rattle.vk_queues.specs.Inner.Lined.{queued}
use Rattle.vk_queues.proofs.choosing.forget.Given as goal

abbrev pub invariant-loop-k : goal.invariant-loop-k
invariant-loop-k l = (map queued l.lines ≡ map queued l.fn.lines) × ((j : ℕ) (line : Line) → j < l.k → slice_get l.lines j ≡ Some line → line.met ≡ 0)
