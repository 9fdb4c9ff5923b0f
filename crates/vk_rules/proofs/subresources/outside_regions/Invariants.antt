use Rattle.std.proofs.Common.{◌≡◌, false, take}
use Rattle.std.specs.List.{list_any}
use Rattle.vk_model.specs.World.Areas.{region_box}
use Rattle.vk_model.specs.Rules.Ranges.{bad_box}
use Rattle.vk_rules.proofs.subresources.outside_regions.Given as goal

abbrev pub invariant-loop-index : goal.invariant-loop-index
invariant-loop-index l = list_any (λ g. bad_box l.info (region_box g)) (take l.index l.regions) ≡ false
