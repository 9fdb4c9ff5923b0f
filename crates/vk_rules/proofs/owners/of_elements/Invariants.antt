use Rattle.std.proofs.Common.{drop}
use Rattle.vk_model.specs.Trace.PointViews.{point_of}
use Rattle.vk_history.specs.PointViews.{past}
use Rattle.vk_rules.proofs.Judging.Elements.{Going}
use Rattle.vk_rules.proofs.owners.of_elements.Given as goal

abbrev pub invariant-loop-index : goal.invariant-loop-index
invariant-loop-index l = Going (past l.history) (point_of l.point) l.elements l.changed l.index (drop l.index l.elements)
