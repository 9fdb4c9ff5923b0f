use Rattle.std.proofs.Common.{◌≡◌, false, take}
use Rattle.std.specs.List.{list_any}
use Rattle.vk_model.specs.Rules.Sizes.{is_empty_element}
use Rattle.vk_rules.proofs.counts.of_elements.Given as goal

abbrev pub invariant-loop-index : goal.invariant-loop-index
invariant-loop-index l = list_any is_empty_element (take l.index l.elements) ≡ false
