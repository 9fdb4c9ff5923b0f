use Rattle.std.proofs.Common.{◌≡◌, List, length}
use Rattle.vk_model.specs.Sync.Node.{Node}
use Rattle.vk_order.specs.Inner.Tallies.{lines_of, AreFronts}
use Rattle.vk_order.specs.Frontiers.{IsFrontier}
use Rattle.vk_order.proofs.frontier.Frontier.fronts_of.Given as goal

abbrev pub invariant-loop-row : goal.invariant-loop-row
invariant-loop-row l = record {
  lengths : length l.fronts.items ≡ l.row-index;
  fronts : (ns : List Node) → IsFrontier l.self ns → AreFronts ns (lines_of l.self.tallies.items) l.rows l.fronts.items;
}
