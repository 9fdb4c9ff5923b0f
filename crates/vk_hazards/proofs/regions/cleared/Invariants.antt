use Rattle.std.proofs.Common.{take}
use Rattle.std.specs.List.{flat_map}
use Rattle.vk_hazards.specs.Inner.Parts.{range_part}
use Rattle.vk_hazards.specs.Areas.{AreAreas}
use Rattle.vk_hazards.proofs.regions.cleared.Given as goal

abbrev pub invariant-loop-range : goal.invariant-loop-range
invariant-loop-range l = AreAreas l.areas.items (flat_map (range_part l.image l.info) (take l.range-index l.ranges))
