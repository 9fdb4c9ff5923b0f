use Rattle.std.proofs.Common.{◌≡◌, ℕ, length, slice_get}
use Rattle.std.specs.Option.{option_map}
use Rattle.vk_history.specs.Contents.{assigns}
use Rattle.vk_history.proofs.Kept.ImageRanges.{has_among}
use Rattle.vk_history.proofs.ranges.assign_all.Given as goal

abbrev pub invariant-loop-index : goal.invariant-loop-index
invariant-loop-index l = record {
  len : length l.bytes ≡ length l.fn.bytes;
  values : (k : ℕ) → slice_get l.bytes k ≡ option_map (assigns (has_among l.ranges l.index) l.value k) (slice_get l.fn.bytes k);
}
