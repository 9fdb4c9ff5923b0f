use Rattle.std.proofs.Common.{◌≡◌, ◌<◌, ◌≤◌, ℕ, slice_index_or, vec_len}
use Rattle.vk_order.specs.Inner.Counts.{zero_counts, hidden}
use Rattle.vk_order.proofs.counts.hide.Given as goal

abbrev pub invariant-loop-index : goal.invariant-loop-index
invariant-loop-index l = record {
  long : vec_len l.all ≡ vec_len l.fn.all;
  done : (i : ℕ) → i < l.index → slice_index_or l.all.items i zero_counts ≡ hidden (slice_index_or l.fn.all.items i zero_counts);
  rest : (i : ℕ) → l.index ≤ i → slice_index_or l.all.items i zero_counts ≡ slice_index_or l.fn.all.items i zero_counts;
}
