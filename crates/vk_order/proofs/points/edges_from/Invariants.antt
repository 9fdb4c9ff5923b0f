use Rattle.vk_order.specs.NodeViews.{node_of}
use Rattle.vk_order.proofs.EdgeLemmas.{IsWalked}
use Rattle.vk_order.proofs.points.edges_from.Given as goal

abbrev pub invariant-loop-number : goal.invariant-loop-number
invariant-loop-number l = IsWalked l.rows (node_of l.node l.from) l.later.items l.reach l.number
