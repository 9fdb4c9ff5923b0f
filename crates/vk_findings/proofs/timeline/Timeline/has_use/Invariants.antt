use Rattle.std.proofs.Common.{◌≡◌, false, take}
use Rattle.std.specs.List.{list_any}
use Rattle.vk_order.specs.NodeViews.{node_of}
use Rattle.vk_findings.specs.Inner.Uses.{uses_at}
use Rattle.vk_findings.proofs.timeline.Timeline.has_use.Given as goal

abbrev pub invariant-loop-row : goal.invariant-loop-row
invariant-loop-row l = list_any (λ q. uses_at l.spot l.resource (node_of 0 q)) (take l.row-index l.row-items) ≡ false
