use Rattle.std.proofs.Common.{◌≡◌, ◌<◌, ℕ, Some, length}
use Rattle.std.specs.Prelude.{slice_get, slice_index_or}
use Rattle.vk_order.specs.declared.tallies.LineTally.{LineTally}
use Rattle.vk_order.specs.Inner.Counts.{known_in}
use Rattle.vk_order.proofs.owning.heard.Given as goal

abbrev pub invariant-loop-index : goal.invariant-loop-index
invariant-loop-index l = record {
  long : length l.row.items ≡ l.index;
  each : (i : ℕ) (t : LineTally) → i < l.index → slice_get l.tallies i ≡ Some t → slice_index_or l.row.items i 0 ≡ known_in l.counts i t.line;
}
