-- What is asked of a new node, where all dependencies are on all memory.
use Rattle.std.specs.Prelude.{◌≡◌, List, Bool, true, false, not, IsTrue, Contains}
use Rattle.vk_model.specs.declared.command.Element.TheVariants as element
use Rattle.vk_model.specs.World.Bytes.{Byte}
use Rattle.vk_model.specs.Sync.Node.{Node, Act, Hosts, Runs, Depends}
use Rattle.vk_model.specs.Sync.Edge.{siblings}
use Rattle.vk_model.specs.Sync.Seen as seen
use Rattle.vk_order.specs.declared.access.Access.{Access}
use Rattle.vk_order.specs.declared.access.Access.TheVariants as access

-- The access of the definitions.
abbrev pub access_of : Access → seen.Access
access_of access.Read = seen.Read
access_of access.Write = seen.Write

-- Whether an act is no dependency on a part of memory (Vulkan, "Buffer Memory Barriers" and "Image Memory Barriers").
abbrev pub is_wide : Act → Bool
is_wide (Depends r (element.Buffer e)) = false
is_wide (Depends r (element.Image e)) = false
is_wide _ = true

-- All dependencies are on all memory.
abbrev pub AreWide : List Node → Type 0
AreWide ns = (n : Node) → Contains ns n → IsTrue (is_wide n.act)

-- Whether a new node answers for an access of a byte by an act: any access by a command, and one by the host that needs no invalidation (Vulkan, "Host Access to Device Memory Objects").
abbrev pub is_answered : (Byte → Bool) → Act → seen.Access → Byte → Bool
is_answered cached (Runs c) k b = true
is_answered cached (Hosts x) seen.Read b = not (cached b)
is_answered cached (Hosts x) seen.Write b = true
is_answered cached _ k b = false

-- No node is an element of the same command as node n.
abbrev pub IsApartFrom : List Node → Node → Type 0
IsApartFrom ns n = (k : Node) → Contains ns k → siblings k n ≡ false
