use Rattle.std.proofs.Common.{◌≡◌, ◌<◌, map}
use Rattle.std.specs.Prelude.{IfSome}
use Rattle.vk_model.specs.Trace.Point.{Past}
use Rattle.vk_queues.specs.Inner.Tallied.{IsTallied}
use Rattle.vk_queues.specs.Inner.Lined.{AreAllMet, IsBest, queued, submissions}
use Rattle.vk_queues.proofs.choosing.next_line.Given as goal

abbrev pub invariant-loop-k : goal.invariant-loop-k
invariant-loop-k l =
    (map queued l.lines ≡ map queued l.fn.lines) × IfSome l.best (λ c. c.line < l.k)
    × ((past : Past) → IsTallied l.tallies past → AreAllMet past l.fn.lines → AreAllMet past l.lines × IsBest (submissions past (map queued l.fn.lines)) l.k l.best)
