use Rattle.std.proofs.Common.{◌≡◌, ◌<◌, ◌≤◌, ◌||◌, ◌&&◌, ℕ, List, Bool, Some, true, IsTrue}
use Rattle.std.specs.Prelude.{slice_get, Contains}
use Rattle.vk_model.specs.World.Bytes as world
use Rattle.vk_model.specs.Sync.Node.{Node}
use Rattle.vk_model.specs.Sync.Edge.{edge, is_command, is_host}
use Rattle.vk_model.specs.Sync.Seen.{makes_writes_available}
use Rattle.vk_order.specs.declared.parts.Part.{Part}
use Rattle.vk_order.specs.Bytes.{byte_of}
use Rattle.vk_order.specs.Lines.{line_of, place}
use Rattle.vk_order.specs.Wide.{access_of}
use Rattle.vk_order.specs.Inner.Parts.{parts_at, AreFrom, IsPart, Serves}
use Rattle.vk_order.specs.Inner.Tallies.{lines_of}
use Rattle.vk_order.specs.Frontiers.{IsFrontier, IsNewNode}
use Rattle.vk_order.proofs.frontier.Frontier.is_marked.Given as goal

abbrev pub invariant-loop-part : goal.invariant-loop-part
invariant-loop-part l = (ns : List Node) (n w m : Node) (cached : world.Byte → Bool) (from : ℕ) → IsFrontier l.self ns → IsNewNode ns n l.new_node → (is_command n.act || is_host n.act) ≡ true → AreFrom from (parts_at l.self.parts (world.resource_at (byte_of l.byte))) l.parts → from ≤ w.number
    → Contains ns w → line_of w ≡ Some l.write.line → place ns l.write.line w.number ≡ l.write.place
    → (i : ℕ) (x : Part) → i < l.part-index → slice_get l.parts i ≡ Some x → IsPart ns (lines_of l.self.tallies.items) m x
    → IsTrue (is_command w.act && makes_writes_available cached ns m (byte_of l.byte) m.act && edge ns w m) × Serves cached ns n (access_of l.access) (byte_of l.byte) m → ⊥
