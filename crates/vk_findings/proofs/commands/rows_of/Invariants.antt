use Rattle.std.proofs.Common.{◌≡◌, map, take}
use Rattle.vk_model.specs.Trace.Image.{texel}
use Rattle.vk_model.specs.World.Areas as spec
use Rattle.vk_findings.specs.Inner.Areas.{area_of}
use Rattle.vk_findings.proofs.commands.rows_of.Given as goal

abbrev pub invariant-loop-region : goal.invariant-loop-region
invariant-loop-region l = map area_of l.areas.items ≡ map (spec.Rows l.buffer (texel l.format)) (take l.region-index l.regions)
