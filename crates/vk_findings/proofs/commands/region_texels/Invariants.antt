use Rattle.std.proofs.Common.{◌≡◌, map, take}
use Rattle.vk_model.specs.World.Areas as spec
use Rattle.vk_findings.specs.Inner.Areas.{area_of}
use Rattle.vk_findings.proofs.commands.region_texels.Given as goal

abbrev pub invariant-loop-region : goal.invariant-loop-region
invariant-loop-region l = map area_of l.areas.items ≡ map (λ g. spec.Texels l.image (spec.region_box g)) (take l.region-index l.regions)
