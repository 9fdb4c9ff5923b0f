use Rattle.std.proofs.Common.{◌≡◌, false, take}
use Rattle.std.specs.List.{list_any}
use Rattle.vk_model.specs.World.Ownership.{dependency_of}
use Rattle.vk_model.specs.Rules.Synchronization.{bad_dependency}
use Rattle.vk_rules.proofs.stages.of_elements.Given as goal

abbrev pub invariant-loop-index : goal.invariant-loop-index
invariant-loop-index l = list_any (λ e. bad_dependency (dependency_of e)) (take l.index l.elements) ≡ false
