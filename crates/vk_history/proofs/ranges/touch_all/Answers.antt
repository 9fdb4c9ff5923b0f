use Rattle.std.proofs.Common.{◌∙◌, ◌≡◌, ℕ, slice_get, subst}
use Rattle.std.specs.Option.{option_map}
use Rattle.vk_model.specs.Basics.{within}
use Rattle.vk_touches.specs.TouchedRanges.{touching}
use Rattle.vk_history.proofs.Kept.ImageRanges.{touch_next}
use Rattle.vk_history.proofs.ranges.touch_all.Goals as goal

pub loop-index-preserved : goal.loop-index-preserved
loop-index-preserved c =
    let s = c.args.ranges.now in
    record {
      len = c.in_ok-touch.ensures.len ∙ c.loop-index.invariant.len;
      values = touch_next s c.loop-index.index c.args.way c.args.spot c.args.touches.now c.loop-index.touches c.touch.new.touches c.loop-index.invariant.values
          (subst (λ (o : ℕ). (k : ℕ) → slice_get c.touch.new.touches k ≡ option_map (touching (within o s.size) c.args.way c.args.spot k) (slice_get c.loop-index.touches k)) c.low.ensures c.in_ok-touch.ensures.values);
    }
