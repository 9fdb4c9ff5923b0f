use Rattle.std.proofs.Common.{◌≡◌, false, take}
use Rattle.std.specs.List.{list_any}
use Rattle.vk_model.specs.Rules.Owners.{is_partial_transfer}
use Rattle.vk_history.specs.PointViews.{past}
use Rattle.vk_rules.proofs.transfers.of_elements.Given as goal

abbrev pub invariant-loop-index : goal.invariant-loop-index
invariant-loop-index l = list_any (is_partial_transfer (past l.history)) (take l.index l.elements) ≡ false
