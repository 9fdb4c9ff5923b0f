use Rattle.std.proofs.Common.{◌∙◌, ap, ◌≡◌, ℕ, List, arith, take, length}
use Rattle.std.specs.Prelude.{slice_get}
use Rattle.std.specs.Option.{option_map}
use Rattle.std.proofs.Math.Seq.{take-length}
use Rattle.vk_model.specs.declared.command.BufferCopy.{BufferCopy}
use Rattle.vk_model.specs.Basics.{within}
use Rattle.vk_touches.specs.TouchedRanges.{touching, writes_at}
use Rattle.vk_touches.proofs.RegionTouches.{touch_next_region}
use Rattle.vk_touches.proofs.ranges.touch_destinations.Goals as goal

pub loop-region-preserved : goal.loop-region-preserved
loop-region-preserved c = record {
  len = c.in_ok-touch.ensures.len ∙ c.loop-region.invariant.len;
  values = touch_next_region (λ g. within g.destination_offset g.size) c.args.regions.now c.loop-region.region-index _ c.loop-region-test.true c.args.way c.args.spot c.args.touches.now c.loop-region.touches c.touch.new.touches c.loop-region.invariant.values c.in_ok-touch.ensures.values;
}

pub returns-clause-values : goal.returns-clause-values
returns-clause-values c = λ k.
    let first = c.loop-region.auto.region-index-end in
    let last = c.loop-region-test.false in
    let all : c.loop-region.region-index ≡ length c.args.regions.now = omega (arith, first, last) in
    c.loop-region.invariant.values k ∙ ap (λ (gs : List BufferCopy). option_map (touching (writes_at gs) c.args.way c.args.spot k) (slice_get c.args.touches.now k)) (ap (λ (n : ℕ). take n c.args.regions.now) all ∙ take-length c.args.regions.now)
