use Rattle.std.proofs.Common.{◌≡◌, ◌<◌, ℕ, Some, false, ◌&&◌}
use Rattle.std.specs.Prelude.{slice_get, nat_lt}
use Rattle.vk_model.specs.Sync.Seen.{flushes}
use Rattle.vk_order.specs.declared.acts.Row.{Row}
use Rattle.vk_order.specs.NodeViews.{act_of}
use Rattle.vk_order.specs.Bytes.{byte_of}
use Rattle.vk_order.proofs.reads.first_flush.Given as goal

abbrev pub invariant-loop-flush : goal.invariant-loop-flush
invariant-loop-flush l = (j : ℕ) (x : Row) → slice_get l.rows j ≡ Some x → j < l.flush → (nat_lt l.number j && flushes (act_of x.act) (byte_of l.byte)) ≡ false
