use Rattle.std.proofs.Common.{◌≡◌, ◌++◌, [], List, take}
use Rattle.vk_order.specs.declared.acts.Row.{Row}
use Rattle.vk_order.specs.declared.clocks.Stamp.{Stamp}
use Rattle.vk_order.specs.NodeViews.{nodes_after}
use Rattle.vk_order.specs.Inner.Kept.{IsStamped}
use Rattle.vk_order.specs.Inner.Tallies.{lines_of, CanFollow, AreFronts}
use Rattle.vk_order.specs.Frontiers.{IsFrontier}
use Rattle.vk_order.proofs.adding.stamps_of.Given as goal

abbrev pub invariant-loop-index : goal.invariant-loop-index
invariant-loop-index l = record {
  same : lines_of l.frontier.tallies.items ≡ lines_of l.fn.frontier.tallies.items;
  kept : (old : List Row) (stamps : List Stamp) → IsStamped old stamps (lines_of l.fn.frontier.tallies.items) → IsFrontier l.fn.frontier (nodes_after [] old) → CanFollow (nodes_after [] old) l.rows
      → AreFronts (nodes_after [] old) (lines_of l.fn.frontier.tallies.items) l.rows l.fronts
      → IsStamped (old ++ take l.index l.rows) (stamps ++ l.more.items) (lines_of l.fn.frontier.tallies.items) × IsFrontier l.frontier (nodes_after [] (old ++ take l.index l.rows));
}
