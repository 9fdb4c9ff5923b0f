use Rattle.std.proofs.Common.{◌≡◌, ℕ, length, slice_get, take}
use Rattle.std.specs.Option.{option_map}
use Rattle.vk_touches.specs.TouchedRanges.{touching, reads_at}
use Rattle.vk_touches.proofs.ranges.touch_sources.Given as goal

abbrev pub invariant-loop-region : goal.invariant-loop-region
invariant-loop-region l = record {
  len : length l.touches ≡ length l.fn.touches;
  values : (k : ℕ) → slice_get l.touches k ≡ option_map (touching (reads_at (take l.region-index l.regions)) l.way l.spot k) (slice_get l.fn.touches k);
}
