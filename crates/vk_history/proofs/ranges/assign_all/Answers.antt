use Rattle.std.proofs.Common.{◌∙◌, ◌≡◌, ℕ, slice_get, subst}
use Rattle.std.specs.Option.{option_map}
use Rattle.vk_model.specs.Basics.{within}
use Rattle.vk_history.specs.Contents.{assigns}
use Rattle.vk_history.proofs.Kept.ImageRanges.{assign_next}
use Rattle.vk_history.proofs.ranges.assign_all.Goals as goal

pub loop-index-preserved : goal.loop-index-preserved
loop-index-preserved c =
    let s = c.args.ranges.now in
    record {
      len = c.in_ok-assign.ensures.len ∙ c.loop-index.invariant.len;
      values = assign_next s c.loop-index.index c.args.value c.args.bytes.now c.loop-index.bytes c.assign.new.bytes c.loop-index.invariant.values
          (subst (λ (o : ℕ). (k : ℕ) → slice_get c.assign.new.bytes k ≡ option_map (assigns (within o s.size) c.args.value k) (slice_get c.loop-index.bytes k)) c.low.ensures c.in_ok-assign.ensures.values);
    }
