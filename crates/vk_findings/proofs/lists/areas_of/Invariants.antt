use Rattle.std.proofs.Common.{◌≡◌, map, take}
use Rattle.vk_findings.specs.Inner.Areas.{area_of, id_area}
use Rattle.vk_findings.proofs.lists.areas_of.Given as goal

abbrev pub invariant-loop-id : goal.invariant-loop-id
invariant-loop-id l = map area_of l.areas.items ≡ map id_area (take l.id-index l.ids)
