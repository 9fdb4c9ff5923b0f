use Rattle.std.proofs.Common.{◌≡◌, [], take}
use Rattle.vk_model.specs.Sync.Node.{nodes}
use Rattle.vk_order.specs.NodeViews.{nodes_after}
use Rattle.vk_queues.specs.PointViews.{past_of}
use Rattle.vk_hazards.proofs.before.nodes.all_rows.Given as goal

abbrev pub invariant-loop-point : goal.invariant-loop-point
invariant-loop-point l = nodes_after [] l.rows.items ≡ nodes (past_of (take l.point-index l.points))
