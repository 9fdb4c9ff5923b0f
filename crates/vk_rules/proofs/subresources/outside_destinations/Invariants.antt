use Rattle.std.proofs.Common.{◌≡◌, false, take}
use Rattle.std.specs.List.{list_any}
use Rattle.vk_model.specs.World.Areas.{destination_box}
use Rattle.vk_model.specs.Rules.Ranges.{bad_box}
use Rattle.vk_rules.proofs.subresources.outside_destinations.Given as goal

abbrev pub invariant-loop-index : goal.invariant-loop-index
invariant-loop-index l = list_any (λ g. bad_box l.info (destination_box g)) (take l.index l.regions) ≡ false
