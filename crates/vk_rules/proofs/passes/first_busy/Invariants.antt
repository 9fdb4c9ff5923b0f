use Rattle.std.proofs.Common.{◌≡◌, take, false}
use Rattle.std.specs.List.{list_any}
use Rattle.vk_model.specs.Trace.PointViews.{point_of}
use Rattle.vk_history.specs.PointViews.{past}
use Rattle.vk_rules.specs.Inner.RuleParts.{is_resident_busy}
use Rattle.vk_rules.proofs.passes.first_busy.Given as goal

abbrev pub invariant-loop-resource : goal.invariant-loop-resource
invariant-loop-resource l = list_any (is_resident_busy (past l.history) (point_of l.point) l.entry l.pool) (take l.resource-index l.resources) ≡ false
