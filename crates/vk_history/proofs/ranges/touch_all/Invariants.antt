use Rattle.std.proofs.Common.{◌≡◌, ℕ, length, slice_get}
use Rattle.std.specs.Option.{option_map}
use Rattle.vk_touches.specs.TouchedRanges.{touching}
use Rattle.vk_history.proofs.Kept.ImageRanges.{has_among}
use Rattle.vk_history.proofs.ranges.touch_all.Given as goal

abbrev pub invariant-loop-index : goal.invariant-loop-index
invariant-loop-index l = record {
  len : length l.touches ≡ length l.fn.touches;
  values : (k : ℕ) → slice_get l.touches k ≡ option_map (touching (has_among l.ranges l.index) l.way l.spot k) (slice_get l.fn.touches k);
}
