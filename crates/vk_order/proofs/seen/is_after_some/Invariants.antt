use Rattle.std.proofs.Common.{◌≡◌, ◌<◌, ℕ, [], List, Some, Bool, false}
use Rattle.std.specs.Prelude.{slice_get}
use Rattle.vk_model.specs.Sync.Node.{Node}
use Rattle.vk_model.specs.Sync.Before.{before}
use Rattle.vk_order.specs.declared.acts.Row.{Row}
use Rattle.vk_order.specs.declared.writes.First.{First}
use Rattle.vk_order.specs.NodeViews.{node_of, nodes_after}
use Rattle.vk_order.specs.Inner.Kept.{IsStamped}
use Rattle.vk_order.specs.Inner.Availability.{AreFirsts}
use Rattle.vk_order.proofs.seen.is_after_some.Given as goal

abbrev pub invariant-loop-first : goal.invariant-loop-first
invariant-loop-first l = (rows : List Row) (test : Node → Bool) (r : Row) → AreFirsts rows test l.firsts → slice_get rows l.number ≡ Some r → IsStamped rows l.stamps l.lines
    → (i : ℕ) (f : First) (x : Row) → i < l.first-index → slice_get l.firsts i ≡ Some f → slice_get rows f.number ≡ Some x → before (nodes_after [] rows) (node_of f.number x) (node_of l.number r) ≡ false
