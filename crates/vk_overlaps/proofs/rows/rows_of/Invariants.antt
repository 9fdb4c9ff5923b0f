use Rattle.std.proofs.Common.{◌≡◌, take}
use Rattle.std.specs.List.{flat_map}
use Rattle.vk_model.specs.Trace.Image.{texel}
use Rattle.vk_overlaps.specs.Inner.Places.{rows_at}
use Rattle.vk_overlaps.proofs.rows.rows_of.Given as goal

abbrev pub invariant-loop-region : goal.invariant-loop-region
invariant-loop-region l = l.rows.items ≡ flat_map (rows_at (texel l.format)) (take l.region-index l.regions)
