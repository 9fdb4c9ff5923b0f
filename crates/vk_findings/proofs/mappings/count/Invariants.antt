use Rattle.std.proofs.Common.{◌≡◌, ◌≤◌, take}
use Rattle.vk_queues.specs.PointViews.{past_of}
use Rattle.vk_history.specs.PointViews.{past}
use Rattle.vk_findings.specs.Inner.Mapping.{counted, form_of}
use Rattle.vk_findings.proofs.mappings.count.Given as goal

abbrev pub invariant-loop-point : goal.invariant-loop-point
invariant-loop-point l = record {
  small : l.count ≤ l.point-index;
  counted : l.count ≡ counted (past l.history) (form_of l.form) l.mapping (past_of (take l.point-index l.points));
}
