-- What is asked of writes: whether a node that comes next sees one.
use Rattle.std.specs.Prelude.{◌≡◌, ◌≤◌, ◌∷◌, ℕ, List, Bool, IsTrue, Some}
use Rattle.vk_model.specs.World.Bytes.{Byte}
use Rattle.vk_model.specs.Sync.Node.{Node}
use Rattle.vk_model.specs.Sync.Before.{IsNumbered}
use Rattle.vk_model.specs.Sync.Seen.{seen, Access as Kind}
use Rattle.vk_order.specs.declared.access.Access.{Access}
use Rattle.vk_order.specs.declared.frontier.Frontier.{Frontier}
use Rattle.vk_order.specs.declared.parts.Part.{Part}
use Rattle.vk_order.specs.declared.parts.Spot.{Spot}
use Rattle.vk_order.specs.declared.new_node.NewNode.{NewNode}
use Rattle.vk_order.specs.Frontiers.{IsFrontier, IsNewNode, IsKeptOf}
use Rattle.vk_order.specs.Limited.{IsWrite}
use Rattle.vk_order.specs.Lines.{line_of, place}
use Rattle.vk_order.specs.Wide.{access_of, is_answered}

-- Of the write of a byte by the node of a spot, before which at least `from` nodes came: whether an access of the byte by the node that comes next, a command or a host entry that needs no invalidation, sees it. Dependencies may be on parts of memory (Vulkan, "Execution and Memory Dependencies").
abbrev pub SaysSeen : Frontier → NewNode → Spot → ℕ → Access → Byte → Bool → Type 0
SaysSeen f s write from access b answer =
    (ns : List Node) (n w : Node) (cached : Byte → Bool) → IsFrontier f ns → IsNewNode ns n s → IsWrite cached ns w b → line_of w ≡ Some write.line → place ns write.line w.number ≡ write.place → from ≤ w.number
    → IsTrue (is_answered cached n.act (access_of access) b) → answer ≡ seen cached (n ∷ ns) w n (access_of access) b

-- The same of an access by the transition of a part, which comes next.
abbrev pub SaysSeenAt : Frontier → Part → Spot → ℕ → Byte → Bool → Type 0
SaysSeenAt f part write from b answer =
    (ns : List Node) (n w : Node) (cached : Byte → Bool) (k : Kind) → IsNumbered (n ∷ ns) → IsFrontier f ns → IsKeptOf f ns n part → IsWrite cached ns w b
    → line_of w ≡ Some write.line → place ns write.line w.number ≡ write.place → from ≤ w.number → answer ≡ seen cached (n ∷ ns) w n k b
