use Rattle.std.proofs.Common.{◌≡◌, ◌<◌, ◌≤◌, ℕ, [], Some, false, IsTrue}
use Rattle.std.specs.Prelude.{slice_get, Contains}
use Rattle.vk_order.specs.declared.acts.Row.{Row}
use Rattle.vk_order.specs.declared.writes.First.{First}
use Rattle.vk_order.specs.NodeViews.{act_of, node_of, nodes_after}
use Rattle.vk_order.specs.Lines.{line_of}
use Rattle.vk_order.specs.Inner.Availability.{makes_write_available, is_marked, is_set_element, HasSets}
use Rattle.vk_order.proofs.writes.Write.firsts.Given as goal

abbrev pub invariant-loop-number : goal.invariant-loop-number
invariant-loop-number l = record {
  within : (f : First) → Contains l.firsts.items f → f.number < l.number;
  each : HasSets l.rows (makes_write_available l.self) l.sets → (f : First) → Contains l.firsts.items f
      → (x : Row) × (slice_get l.rows f.number ≡ Some x) × (line_of (node_of f.number x) ≡ Some f.line) × IsTrue (is_marked (nodes_after [] l.rows) (makes_write_available l.self) (node_of f.number x));
  all : HasSets l.rows (makes_write_available l.self) l.sets → (j : ℕ) (x : Row) → slice_get l.rows j ≡ Some x → j < l.number → IsTrue (is_marked (nodes_after [] l.rows) (makes_write_available l.self) (node_of j x)) → is_set_element (act_of x.act) ≡ false
      → (f : First) × Contains l.firsts.items f × (line_of (node_of j x) ≡ Some f.line) × (f.number ≤ j);
}
