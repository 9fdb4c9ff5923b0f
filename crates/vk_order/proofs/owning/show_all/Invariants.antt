use Rattle.std.proofs.Common.{◌≡◌, ◌<◌, ◌≤◌, ℕ, Some, vec_len}
use Rattle.std.specs.Prelude.{slice_get, slice_index_or}
use Rattle.vk_order.specs.declared.tallies.LineTally.{LineTally}
use Rattle.vk_order.specs.Inner.Counts.{zero_counts, made_visible_on}
use Rattle.vk_order.proofs.owning.show_all.Given as goal

abbrev pub invariant-loop-index : goal.invariant-loop-index
invariant-loop-index l = record {
  long : vec_len l.counts ≡ vec_len l.fn.counts;
  done : (i : ℕ) (t : LineTally) → i < l.index → slice_get l.tallies i ≡ Some t → slice_index_or l.counts.items i zero_counts ≡ made_visible_on l.shows t.line (slice_index_or l.fn.counts.items i zero_counts);
  rest : (i : ℕ) → l.index ≤ i → slice_index_or l.counts.items i zero_counts ≡ slice_index_or l.fn.counts.items i zero_counts;
}
