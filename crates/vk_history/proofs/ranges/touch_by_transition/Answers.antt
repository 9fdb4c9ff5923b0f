use Rattle.std.proofs.Common.{◌∙◌, ◌≡◌, ℕ, slice_get, subst}
use Rattle.std.specs.Option.{option_map}
use Rattle.vk_model.specs.Basics.{within}
use Rattle.vk_touches.specs.TouchedRanges.{transitioning}
use Rattle.vk_history.proofs.Kept.ImageRanges.{transition_next}
use Rattle.vk_history.proofs.ranges.touch_by_transition.Goals as goal

pub loop-index-preserved : goal.loop-index-preserved
loop-index-preserved c =
    let s = c.args.ranges.now in
    record {
      len = c.in_ok-touch_range_by_transition.ensures.len ∙ c.loop-index.invariant.len;
      values = transition_next s c.loop-index.index c.args.spot c.args.touches.now c.loop-index.touches c.touch_range_by_transition.new.touches c.loop-index.invariant.values
          (subst (λ (o : ℕ). (k : ℕ) → slice_get c.touch_range_by_transition.new.touches k ≡ option_map (transitioning (within o s.size) c.args.spot k) (slice_get c.loop-index.touches k)) c.low.ensures c.in_ok-touch_range_by_transition.ensures.values);
    }
