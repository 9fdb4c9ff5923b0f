use Rattle.std.proofs.Common.{◌≡◌, ◌<◌, ℕ, Some, false}
use Rattle.std.specs.Prelude.{slice_get, Contains}
use Rattle.vk_model.specs.Sync.Node.{Node, nodes}
use Rattle.vk_model.specs.Sync.Before.{before}
use Rattle.vk_hazards.specs.declared.availability.First.{First}
use Rattle.vk_hazards.proofs.nodes.Nodes.is_after_some.Given as goal

abbrev pub invariant-loop-first : goal.invariant-loop-first
invariant-loop-first l = (n : Node) → Contains (nodes l.self) n → n.number ≡ l.number → (i : ℕ) (f : First) → i < l.first-index → slice_get l.firsts i ≡ Some f
    → (m : Node) → Contains (nodes l.self) m → m.number ≡ f.number → before (nodes l.self) m n ≡ false
