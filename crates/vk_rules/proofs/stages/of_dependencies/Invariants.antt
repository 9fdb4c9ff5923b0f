use Rattle.std.proofs.Common.{◌≡◌, false, take}
use Rattle.std.specs.List.{list_any}
use Rattle.vk_model.specs.Rules.Synchronization.{bad_event_element}
use Rattle.vk_rules.proofs.stages.of_dependencies.Given as goal

abbrev pub invariant-loop-index : goal.invariant-loop-index
invariant-loop-index l = list_any bad_event_element (take l.index l.elements) ≡ false
