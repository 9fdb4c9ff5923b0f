use Rattle.std.proofs.Common.{◌≡◌, false, take}
use Rattle.std.specs.List.{list_any}
use Rattle.vk_model.specs.Rules.Ranges.{bad_element}
use Rattle.vk_history.specs.PointViews.{past}
use Rattle.vk_rules.proofs.subresources.of_elements.Given as goal

abbrev pub invariant-loop-index : goal.invariant-loop-index
invariant-loop-index l = list_any (bad_element (past l.history)) (take l.index l.elements) ≡ false
