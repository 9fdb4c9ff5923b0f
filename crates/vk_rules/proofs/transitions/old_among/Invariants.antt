use Rattle.std.proofs.Common.{◌≡◌, false, take}
use Rattle.std.specs.List.{list_any}
use Rattle.vk_model.specs.World.Effect.{world}
use Rattle.vk_model.specs.Rules.Layouts.{bad_old_layout}
use Rattle.vk_history.specs.PointViews.{past}
use Rattle.vk_rules.proofs.transitions.old_among.Given as goal

abbrev pub invariant-loop-index : goal.invariant-loop-index
invariant-loop-index l = list_any (bad_old_layout (world (past l.history)) l.queue) (take l.index l.elements) ≡ false
