use Rattle.std.proofs.Common.{◌≡◌, ◌<◌, ℕ, true, slice_index_or}
use Rattle.vk_order.specs.Inner.Counts.{zero_counts, covers}
use Rattle.vk_order.proofs.counts.cover.Given as goal

abbrev pub invariant-loop-index : goal.invariant-loop-index
invariant-loop-index l = (i : ℕ) → i < l.index → covers (slice_index_or l.all i zero_counts) (slice_index_or l.other i zero_counts) ≡ true
