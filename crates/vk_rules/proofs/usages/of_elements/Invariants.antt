use Rattle.std.proofs.Common.{◌≡◌, false, take}
use Rattle.std.specs.List.{list_any}
use Rattle.vk_model.specs.Rules.Sizes.{layout_lacks}
use Rattle.vk_history.specs.PointViews.{past}
use Rattle.vk_rules.proofs.usages.of_elements.Given as goal

abbrev pub invariant-loop-index : goal.invariant-loop-index
invariant-loop-index l = list_any (layout_lacks (past l.history)) (take l.index l.elements) ≡ false
