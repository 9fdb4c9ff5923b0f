use Rattle.std.proofs.Common.{◌≡◌, map, take}
use Rattle.vk_findings.specs.Inner.Areas.{area_of, transition_area}
use Rattle.vk_findings.proofs.transition_pairs.areas_of.Given as goal

abbrev pub invariant-loop-element : goal.invariant-loop-element
invariant-loop-element l = map area_of l.areas.items ≡ map transition_area (take l.element-index l.elements)
