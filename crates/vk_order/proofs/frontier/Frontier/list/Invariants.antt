use Rattle.std.proofs.Common.{◌≡◌, ◌<◌, ℕ, List, Some, IsTrue}
use Rattle.std.specs.Prelude.{slice_get, is_some}
use Rattle.vk_model.specs.Sync.Node.{Node}
use Rattle.vk_order.specs.declared.acts.Row.{Row}
use Rattle.vk_order.specs.NodeViews.{act_of}
use Rattle.vk_order.specs.Lines.{class_on}
use Rattle.vk_order.specs.Inner.Kept.{IsLonger}
use Rattle.vk_order.specs.Inner.Places.{index_in}
use Rattle.vk_order.specs.Inner.Tallies.{lines_of}
use Rattle.vk_order.specs.Frontiers.{IsFrontier}
use Rattle.vk_order.proofs.frontier.Frontier.list.Given as goal

abbrev pub invariant-loop-row : goal.invariant-loop-row
invariant-loop-row l = record {
  listed : (i : ℕ) (r : Row) → i < l.row-index → slice_get l.rows i ≡ Some r → IsTrue (is_some (index_in (lines_of l.self.tallies.items) (class_on r.point.queue (act_of r.act))));
  kept : (ns : List Node) → IsFrontier l.fn.self ns → IsFrontier l.self ns;
  longer : IsLonger (lines_of l.fn.self.tallies.items) (lines_of l.self.tallies.items);
}
