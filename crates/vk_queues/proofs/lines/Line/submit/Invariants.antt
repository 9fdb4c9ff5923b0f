use Rattle.std.proofs.Common.{◌≡◌, ◌++◌, drop}
use Rattle.vk_model.specs.Trace.Point.{Past}
use Rattle.vk_model.specs.Trace.Order.{batches_from}
use Rattle.vk_queues.specs.Inner.Tallied.{IsTallied}
use Rattle.vk_queues.specs.Inner.Lined.{batches_on}
use Rattle.vk_queues.proofs.lines.Line.submit.Given as goal

abbrev pub invariant-loop-batch : goal.invariant-loop-batch
invariant-loop-batch l =
    (l.self.queue ≡ l.fn.self.queue) × (l.self.met ≡ l.fn.self.met)
    × ((past : Past) → IsTallied l.tallies past → batches_on l.self ++ batches_from past l.number l.fn.self.queue l.batch (drop l.batch l.batches) ≡ batches_on l.fn.self ++ batches_from past l.number l.fn.self.queue 0 l.batches)
