-- The elements of one barrier: each is where it would be if it came alone.
use Rattle.std.specs.Prelude.{◌≡◌, ℕ, ◌+◌, List, ◌∷◌, ◌++◌, map, length, Bool, Contains}
use Rattle.vk_model.specs.declared.command.Element.{Element}
use Rattle.vk_model.specs.World.Bytes.{Byte}
use Rattle.vk_model.specs.Trace.Point.{Point}
use Rattle.vk_model.specs.Sync.Node.{Node, Depends, Barrier, with_acts}
use Rattle.vk_model.specs.Sync.Before.{before, IsNumbered}
use Rattle.vk_model.specs.Sync.Seen.{Access, seen}
use Rattle.vk_order.specs.Limited.{IsWrite}

-- The node of an element of a barrier at a point.
abbrev pub element_node : Point → ℕ → Element → Node
element_node p number e = record { number = number; point = p; act = Depends Barrier e }

-- The nodes when a barrier has come (Vulkan, "Pipeline Barriers").
abbrev pub with_barrier : Point → List Element → List Node → List Node
with_barrier p es ns = with_acts p (map (Depends Barrier) es) ns

-- An element comes after what it would come after alone: the elements of one barrier don't lead to one another (Vulkan, "Pipeline Barriers").
abbrev pub ElementsComeAlone : Type 0
ElementsComeAlone =
    (ns : List Node) (p : Point) (es more : List Element) (e : Element) (m : Node) → IsNumbered ns → Contains ns m
    → before (with_barrier p (es ++ e ∷ more) ns) m (element_node p (length ns + length es) e) ≡ before (element_node p (length ns) e ∷ ns) m (element_node p (length ns) e)

-- It sees what it would see alone (Vulkan, "Image Layout Transitions").
abbrev pub ElementsSeeAlone : Type 0
ElementsSeeAlone =
    (ns : List Node) (p : Point) (es more : List Element) (e : Element) (cached : Byte → Bool) (w : Node) (k : Access) (b : Byte) → IsNumbered ns → IsWrite cached ns w b
    → seen cached (with_barrier p (es ++ e ∷ more) ns) w (element_node p (length ns + length es) e) k b ≡ seen cached (element_node p (length ns) e ∷ ns) w (element_node p (length ns) e) k b
