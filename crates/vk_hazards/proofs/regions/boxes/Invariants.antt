use Rattle.std.proofs.Common.{take}
use Rattle.std.specs.List.{flat_map}
use Rattle.vk_hazards.specs.Inner.Parts.{box_bytes}
use Rattle.vk_hazards.specs.Areas.{AreAreas}
use Rattle.vk_hazards.proofs.regions.boxes.Given as goal

abbrev pub invariant-loop-region : goal.invariant-loop-region
invariant-loop-region l = AreAreas l.areas.items (flat_map (box_bytes l.image l.texel) (take l.region-index l.regions))
