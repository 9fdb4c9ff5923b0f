use Rattle.std.proofs.Common.{◌≡◌, map, drop}
use Rattle.vk_model.specs.Basics.{some_pair}
use Rattle.vk_model.specs.World.Areas.{areas_meet}
use Rattle.vk_findings.specs.Inner.Areas.{area_of}
use Rattle.vk_findings.proofs.finder.pair_within.Given as goal

abbrev pub invariant-loop-number : goal.invariant-loop-number
invariant-loop-number l = some_pair areas_meet (drop l.number (map area_of l.areas)) ≡ some_pair areas_meet (map area_of l.areas)
