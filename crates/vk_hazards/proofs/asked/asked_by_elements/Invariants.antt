use Rattle.std.proofs.Common.{◌≡◌, map, take}
use Rattle.std.specs.List.{flat_map}
use Rattle.vk_model.specs.Rules.Ids.{asked_by_element}
use Rattle.vk_hazards.specs.Lives.{asked_of}
use Rattle.vk_hazards.proofs.asked.asked_by_elements.Given as goal

abbrev pub invariant-loop-element : goal.invariant-loop-element
invariant-loop-element l = map asked_of l.all.items ≡ flat_map asked_by_element (take l.element-index l.elements)
