use Rattle.std.proofs.Common.{◌≡◌, map, drop}
use Rattle.std.specs.List.{list_any}
use Rattle.vk_model.specs.World.Areas.{areas_meet}
use Rattle.vk_findings.specs.Inner.Areas.{area_of}
use Rattle.vk_findings.proofs.finder.pair_between.Given as goal

abbrev pub invariant-loop-number : goal.invariant-loop-number
invariant-loop-number l = list_any (λ w. list_any (areas_meet w) (map area_of l.others)) (drop l.number (map area_of l.ones)) ≡ list_any (λ w. list_any (areas_meet w) (map area_of l.others)) (map area_of l.ones)
