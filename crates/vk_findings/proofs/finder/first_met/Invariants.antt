use Rattle.std.proofs.Common.{◌≡◌, map, drop}
use Rattle.std.specs.List.{list_any}
use Rattle.vk_model.specs.World.Areas.{areas_meet}
use Rattle.vk_findings.specs.Inner.Areas.{area_of}
use Rattle.vk_findings.proofs.finder.first_met.Given as goal

abbrev pub invariant-loop-number : goal.invariant-loop-number
invariant-loop-number l = list_any (areas_meet (area_of l.one)) (drop l.number (map area_of l.others)) ≡ list_any (areas_meet (area_of l.one)) (drop l.from (map area_of l.others))
