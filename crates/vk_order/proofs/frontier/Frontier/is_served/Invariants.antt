use Rattle.std.proofs.Common.{◌≡◌, ◌<◌, ◌||◌, ℕ, List, Bool, Some, true, IsTrue}
use Rattle.std.specs.Prelude.{slice_get, Contains}
use Rattle.vk_model.specs.World.Bytes as world
use Rattle.vk_model.specs.Sync.Node.{Node}
use Rattle.vk_model.specs.Sync.Edge.{is_command, is_host}
use Rattle.vk_order.specs.declared.parts.Part.{Part}
use Rattle.vk_order.specs.Bytes.{byte_of}
use Rattle.vk_order.specs.Lines.{line_of, place}
use Rattle.vk_order.specs.Limited.{Reaches}
use Rattle.vk_order.specs.Wide.{access_of}
use Rattle.vk_order.specs.Inner.Parts.{IsPart, opens}
use Rattle.vk_order.specs.Inner.Tallies.{lines_of}
use Rattle.vk_order.specs.Frontiers.{IsNewNode}
use Rattle.vk_order.proofs.frontier.Frontier.is_served.Given as goal

abbrev pub invariant-loop-part : goal.invariant-loop-part
invariant-loop-part l = (ns : List Node) (n m q : Node) (cached : world.Byte → Bool) → IsNewNode ns n l.new_node → (is_command n.act || is_host n.act) ≡ true → Contains ns m → line_of m ≡ Some l.spot.line → place ns l.spot.line m.number ≡ l.spot.place
    → (i : ℕ) (x : Part) → i < l.part-index → slice_get l.parts i ≡ Some x → IsPart ns (lines_of l.self.tallies.items) q x → IsTrue (opens cached ns n n.act (access_of l.access) (byte_of l.byte) q) × Reaches ns m q → ⊥
