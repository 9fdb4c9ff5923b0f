use Rattle.std.proofs.Common.{◌≡◌, ◌<◌, ◌&&◌, ℕ, Some, IsTrue}
use Rattle.std.specs.Prelude.{slice_get, Contains}
use Rattle.vk_order.specs.declared.acts.Row.{Row}
use Rattle.vk_order.specs.NodeViews.{act_of, node_of}
use Rattle.vk_order.specs.Inner.Availability.{makes_write_available, is_set_element}
use Rattle.vk_order.proofs.writes.Write.sets.Given as goal

abbrev pub invariant-loop-number : goal.invariant-loop-number
invariant-loop-number l = record {
  within : (s : ℕ) → Contains l.sets.items s → s < l.number;
  all : (j : ℕ) (x : Row) → slice_get l.rows j ≡ Some x → j < l.number → IsTrue (is_set_element (act_of x.act) && makes_write_available l.self (node_of j x)) → Contains l.sets.items j;
}
