use Rattle.std.proofs.Common.{◌≡◌, ◌++◌, map, take}
use Rattle.vk_model.specs.Rules.Ids.{is_resource}
use Rattle.vk_hazards.specs.Lives.{asked_of}
use Rattle.vk_hazards.proofs.asked.push_resources.Given as goal

abbrev pub invariant-loop-resource : goal.invariant-loop-resource
invariant-loop-resource l = map asked_of l.all.items ≡ map asked_of l.initial.all.items ++ map (λ r. (r, is_resource)) (take l.resource-index l.resources)
