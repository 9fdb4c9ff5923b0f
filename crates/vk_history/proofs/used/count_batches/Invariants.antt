use Rattle.std.proofs.Common.{◌≡◌, ◌+◌, ℕ, take}
use Rattle.vk_history.specs.Counted.{count_at}
use Rattle.vk_history.specs.Uses.{times_in}
use Rattle.vk_history.proofs.used.count_batches.Given as goal

abbrev pub invariant-loop-batch : goal.invariant-loop-batch
invariant-loop-batch l = (r : ℕ) → count_at l.counts r ≡ count_at l.fn.counts r + times_in r (take l.batch-index l.batches)
