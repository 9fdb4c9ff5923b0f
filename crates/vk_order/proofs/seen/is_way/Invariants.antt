use Rattle.std.proofs.Common.{◌≡◌, ◌<◌, ◌&&◌, ℕ, [], Some, Bool, false}
use Rattle.std.specs.Prelude.{slice_get}
use Rattle.vk_model.specs.Sync.Node.{Node}
use Rattle.vk_model.specs.Sync.Edge.{is_host}
use Rattle.vk_order.specs.declared.acts.Row.{Row}
use Rattle.vk_order.specs.NodeViews.{act_of, node_of, nodes_after}
use Rattle.vk_order.specs.Inner.Kept.{IsStamped}
use Rattle.vk_order.specs.Inner.Availability.{serves, makes_write_available, is_after, IsUntil}
use Rattle.vk_order.proofs.seen.is_way.Given as goal

abbrev pub invariant-loop-number : goal.invariant-loop-number
invariant-loop-number l = (in_time : Node → Bool) → IsUntil l.rows l.read.until in_time → IsStamped l.rows l.stamps l.lines
    → (j : ℕ) (x : Row) → slice_get l.rows j ≡ Some x → j < l.number → (serves in_time (is_host (act_of l.write.row.act)) l.read (node_of j x) && is_after (nodes_after [] l.rows) (makes_write_available l.write) (node_of j x)) ≡ false
