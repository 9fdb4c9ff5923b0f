use Rattle.std.proofs.Common.{◌≡◌, ◌<◌, ℕ, Some, false, ◌&&◌}
use Rattle.std.specs.Prelude.{slice_get, nat_lt}
use Rattle.vk_order.specs.declared.acts.Row.{Row}
use Rattle.vk_order.specs.NodeViews.{act_of, node_of}
use Rattle.vk_order.specs.Edges.{unsignaled}
use Rattle.vk_order.specs.Inner.Availability.{makes_write_available, is_set_element}
use Rattle.vk_order.proofs.writes.Write.is_carried.Given as goal

abbrev pub invariant-loop-set : goal.invariant-loop-set
invariant-loop-set l = (i j : ℕ) (x : Row) → i < l.set-index → slice_get l.sets i ≡ Some j → slice_get l.rows j ≡ Some x → (is_set_element (act_of x.act) && makes_write_available l.self (node_of j x) && (nat_lt j l.number && unsignaled (node_of j x) (node_of l.number l.row))) ≡ false
