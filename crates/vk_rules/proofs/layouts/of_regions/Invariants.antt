use Rattle.std.proofs.Common.{◌≡◌, false, take}
use Rattle.std.specs.List.{list_any}
use Rattle.vk_model.specs.World.Effect.{world}
use Rattle.vk_model.specs.Rules.Layouts.{bad_named}
use Rattle.vk_history.specs.PointViews.{past}
use Rattle.vk_rules.specs.Inner.Layouts.{region_part}
use Rattle.vk_rules.proofs.layouts.of_regions.Given as goal

abbrev pub invariant-loop-index : goal.invariant-loop-index
invariant-loop-index l = list_any (λ x. bad_named (world (past l.history)) (region_part l.image l.layout l.is_written x)) (take l.index l.regions) ≡ false
