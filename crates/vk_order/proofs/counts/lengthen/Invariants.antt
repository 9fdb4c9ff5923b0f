use Rattle.std.proofs.Common.{◌≡◌, ◌≤◌, ℕ, slice_index_or, vec_len}
use Rattle.std.specs.Prelude.{max}
use Rattle.vk_order.specs.Inner.Counts.{zero_counts}
use Rattle.vk_order.proofs.counts.lengthen.Given as goal

abbrev pub invariant-loop-missing : goal.invariant-loop-missing
invariant-loop-missing l = record {
  long : vec_len l.all ≡ max (vec_len l.fn.all) l._missing;
  within : l._missing ≤ max (vec_len l.fn.all) l.length;
  counts : (i : ℕ) → slice_index_or l.all.items i zero_counts ≡ slice_index_or l.fn.all.items i zero_counts;
}
