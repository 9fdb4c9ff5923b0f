use Rattle.std.proofs.Common.{◌≡◌, map, take}
use Rattle.vk_model.specs.Trace.Image.{texel}
use Rattle.vk_overlaps.specs.Inner.Places.{hull}
use Rattle.vk_overlaps.proofs.rows.hulls_of.Given as goal

abbrev pub invariant-loop-region : goal.invariant-loop-region
invariant-loop-region l = l.hulls.items ≡ map (hull (texel l.format)) (take l.region-index l.regions)
