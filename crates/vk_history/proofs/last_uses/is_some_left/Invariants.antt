use Rattle.std.proofs.Common.{◌≡◌, ◌<◌, ◌∷◌, ℕ, List, true, Some, slice_get}
use Rattle.std.specs.Prelude.{Contains}
use Rattle.vk_model.specs.Sync.Node.{Node}
use Rattle.vk_model.specs.Sync.Before.{before}
use Rattle.vk_order.specs.Frontiers.{IsNewNode}
use Rattle.vk_order.specs.Lines.{line_of, place}
use Rattle.vk_history.specs.declared.last_uses.LastUse.{LastUse}
use Rattle.vk_history.proofs.last_uses.is_some_left.Given as goal

abbrev pub invariant-loop-last : goal.invariant-loop-last
invariant-loop-last l = (i : ℕ) (u : LastUse) → i < l.last-index → slice_get l.kept i ≡ Some u
    → (ns : List Node) (n m : Node) → IsNewNode ns n l.new_node → Contains ns m → line_of m ≡ Some u.line → place ns u.line m.number ≡ u.place → before (n ∷ ns) m n ≡ true
