use Rattle.std.proofs.Common.{◌≡◌, List, take}
use Rattle.vk_model.specs.Sync.Node.{Node}
use Rattle.vk_order.specs.NodeViews.{nodes_after}
use Rattle.vk_order.specs.Inner.Tallies.{lines_of, CanFollow, AreFronts}
use Rattle.vk_order.specs.Frontiers.{IsFrontier}
use Rattle.vk_order.proofs.frontier.Frontier.add_all.Given as goal

abbrev pub invariant-loop-index : goal.invariant-loop-index
invariant-loop-index l = record {
  same : lines_of l.self.tallies.items ≡ lines_of l.fn.self.tallies.items;
  kept : (ns : List Node) → CanFollow ns l.rows → AreFronts ns (lines_of l.fn.self.tallies.items) l.rows l.fronts → IsFrontier l.fn.self ns → IsFrontier l.self (nodes_after ns (take l.index l.rows));
}
