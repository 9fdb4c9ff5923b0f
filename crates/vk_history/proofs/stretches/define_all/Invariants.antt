use Rattle.std.proofs.Common.{◌≡◌, ℕ, length, slice_get}
use Rattle.std.specs.Prelude.{unwrap_or}
use Rattle.std.specs.Option.{option_map}
use Rattle.vk_history.specs.Contents.{stretch_at}
use Rattle.vk_history.proofs.stretches.define_all.Given as goal

abbrev pub invariant-loop-stretch : goal.invariant-loop-stretch
invariant-loop-stretch l = record {
  len : length l.defined ≡ length l.fn.defined;
  values : (k : ℕ) → option_map (unwrap_or (stretch_at l.stretches.items k)) (slice_get l.defined k) ≡ option_map (unwrap_or (stretch_at l.fn.stretches.items k)) (slice_get l.fn.defined k);
}

abbrev pub decreases-loop-stretch : goal.decreases-loop-stretch
decreases-loop-stretch l = length l.stretches.items
