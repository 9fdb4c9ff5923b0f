use Rattle.vk_model.specs.Basics.{below}
use Rattle.std.specs.List.{flat_map}
use Rattle.vk_hazards.specs.Inner.Parts.{level_part}
use Rattle.vk_hazards.specs.Areas.{AreAreas}
use Rattle.vk_hazards.proofs.regions.levels.Given as goal

abbrev pub invariant-loop-index : goal.invariant-loop-index
invariant-loop-index l = AreAreas l.areas.items (flat_map (level_part l.image l.info l.range) (below l.index))
