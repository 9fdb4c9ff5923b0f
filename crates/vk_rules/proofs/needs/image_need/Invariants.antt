use Rattle.std.proofs.Common.{◌≤◌, ◌-◌, ◌^◌, min}
use Rattle.vk_model.specs.Trace.Image.{image_size}
use Rattle.vk_rules.proofs.needs.image_need.Given as goal

abbrev pub invariant-loop-low : goal.invariant-loop-low
invariant-loop-low l = record {
  least : l.low ≤ min (image_size l.info l.info.tiling) (2 ^ 64);
  most : min (image_size l.info l.info.tiling) (2 ^ 64) ≤ l.high;
  limit : l.high ≤ 2 ^ 64;
}

abbrev pub decreases-loop-low : goal.decreases-loop-low
decreases-loop-low l = l.high - l.low
