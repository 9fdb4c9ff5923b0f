use Rattle.std.proofs.Common.{◌≡◌, false, take}
use Rattle.std.specs.List.{list_any}
use Rattle.vk_model.specs.Rules.Mapping.{is_mapped_alone}
use Rattle.vk_history.specs.PointViews.{past}
use Rattle.vk_rules.proofs.mapping.first_mapped_alone.Given as goal

abbrev pub invariant-loop-resource : goal.invariant-loop-resource
invariant-loop-resource l = list_any (is_mapped_alone (past l.history)) (take l.resource-index l.resources) ≡ false
