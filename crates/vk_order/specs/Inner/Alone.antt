-- Dependencies on parts of memory that show a write by themselves.
use Rattle.std.specs.Prelude.{◌≡◌, ◌⊎◌, ◌∷◌, ◌&&◌, ◌||◌, Bool, true, List, Some, IsTrue, Contains}
use Rattle.vk_model.specs.World.Bytes.{Byte}
use Rattle.vk_model.specs.Sync.Node.{Node}
use Rattle.vk_model.specs.Sync.Edge.{edge, is_command, is_host}
use Rattle.vk_model.specs.Sync.Before.{IsNumbered}
use Rattle.vk_model.specs.Sync.Seen.{Access, makes_writes_available}
use Rattle.vk_order.specs.declared.frontier.Frontier.{Frontier}
use Rattle.vk_order.specs.declared.parts.Part.{Part}
use Rattle.vk_order.specs.declared.parts.Spot.{Spot}
use Rattle.vk_order.specs.declared.new_node.NewNode.{NewNode}
use Rattle.vk_order.specs.Frontiers.{IsNewNode}
use Rattle.vk_order.specs.Limited.{Reaches}
use Rattle.vk_order.specs.Lines.{line_of, place}
use Rattle.vk_order.specs.Inner.Parts.{IsPart, opens}
use Rattle.vk_order.specs.Inner.Tallies.{lines_of}

-- Node m shows the write of a byte by node w to an access by node n, which comes next: it makes the byte visible, and the write is known at it, or it makes the write available.
abbrev pub ShowsAlone : (Byte → Bool) → List Node → Node → Access → Byte → Node → Node → Type 0
ShowsAlone cached ns n k b w m = IsTrue (opens cached ns n n.act k b m) × (Reaches ns w m ⊎ IsTrue (is_command w.act && makes_writes_available cached ns m b m.act && edge ns w m))

-- A part is of such a node, whatever node it is that comes next.
abbrev pub AlwaysShows : Frontier → NewNode → Spot → Access → Byte → Part → Type 0
AlwaysShows f s write k b x =
    (ns : List Node) (n w m : Node) (cached : Byte → Bool) → IsNewNode ns n s → (is_command n.act || is_host n.act) ≡ true → IsPart ns (lines_of f.tallies.items) m x → Contains ns w → line_of w ≡ Some write.line → place ns write.line w.number ≡ write.place
    → ShowsAlone cached ns n k b w m

-- Node m makes the write of a byte by command w available, and what it marks is known at node n, which comes next.
abbrev pub MarksAt : (Byte → Bool) → List Node → Node → Byte → Node → Node → Type 0
MarksAt cached ns n b w m = IsTrue (is_command w.act && makes_writes_available cached ns m b m.act && edge ns w m) × Reaches (n ∷ ns) m n

-- Something holds of a write by the node of a spot, the node of a part that comes next and the node of another part, whatever the nodes are.
abbrev OfNodes : Frontier → Part → Spot → Part → ((Byte → Bool) → List Node → Node → Node → Node → Type 0) → Type 0
OfNodes f part write x holds =
    (ns : List Node) (n w m : Node) (cached : Byte → Bool) → IsNumbered (n ∷ ns) → IsPart (n ∷ ns) (lines_of f.tallies.items) n part → IsPart ns (lines_of f.tallies.items) m x
    → Contains ns w → line_of w ≡ Some write.line → place ns write.line w.number ≡ write.place → holds cached ns n w m

-- A part is of such a node, whatever the nodes are.
abbrev pub AlwaysMarks : Frontier → Part → Spot → Byte → Part → Type 0
AlwaysMarks f part write b x = OfNodes f part write x (λ cached ns n w m. MarksAt cached ns n b w m)

-- It is of none.
abbrev pub NeverMarks : Frontier → Part → Spot → Byte → Part → Type 0
NeverMarks f part write b x = OfNodes f part write x (λ cached ns n w m. MarksAt cached ns n b w m → ⊥)
