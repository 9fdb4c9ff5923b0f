use Rattle.std.proofs.Common.{take}
use Rattle.vk_queues.specs.PointViews.{past_of}
use Rattle.vk_findings.proofs.LayoutLemmas.{KeepLayouts}
use Rattle.vk_findings.proofs.transitions.with_transitions.Given as goal

abbrev pub invariant-loop-point : goal.invariant-loop-point
invariant-loop-point l = KeepLayouts (past_of l.kept.items) (past_of (take l.point-index l.points))
