-- Laws of visibility: of which writes one is enough to be seen.
use Rattle.std.specs.Prelude.{◌≡◌, ◌<◌, ◌≤◌, ◌∷◌, ◌++◌, length, false, Bool, Contains, List, IsTrue}
use Rattle.vk_model.specs.declared.command.Cmd.{Cmd}
use Rattle.vk_model.specs.World.Bytes.{Byte, resource_at}
use Rattle.vk_model.specs.Trace.Objects.{is_cached}
use Rattle.vk_model.specs.Trace.Point.{Past, Point}
use Rattle.vk_model.specs.Sync.Node.{Node, Runs, nodes}
use Rattle.vk_model.specs.Sync.Edge.{is_host}
use Rattle.vk_model.specs.Sync.Before.{IsNumbered}
use Rattle.vk_model.specs.Sync.Seen.{Access, seen}
use Rattle.vk_model.specs.Sync.Access.{writes, is_in, waw, hazard}

-- An access that sees the later of two commands' writes on a queue sees the earlier one's (Vulkan, "Execution and Memory Dependencies").
abbrev pub CommandsSeen : Type 0
CommandsSeen =
    (ns : List Node) (cached : Byte → Bool) (c d a : Node) (x y : Cmd) (k : Access) (b : Byte) → c.act ≡ Runs x → d.act ≡ Runs y → c.point.queue ≡ d.point.queue → c.number < d.number
    → IsTrue (seen cached ns d a k b) → IsTrue (seen cached ns c a k b)

-- An access that sees the later of two host writes sees the earlier one (Vulkan, "Host Write Ordering Guarantees").
abbrev pub HostSeen : Type 0
HostSeen =
    (ns : List Node) (cached : Byte → Bool) (c d a : Node) (k : Access) (b : Byte) → IsNumbered ns → Contains ns c → Contains ns d → IsTrue (is_host c.act) → IsTrue (is_host d.act) → c.number < d.number
    → IsTrue (seen cached ns d a k b) → IsTrue (seen cached ns c a k b)

-- An access that sees a write that isn't the host's sees each write that this one sees (Vulkan, "Execution and Memory Dependencies").
abbrev pub SeenThrough : Type 0
SeenThrough =
    (ns : List Node) (cached : Byte → Bool) (w v a : Node) (j k : Access) (b : Byte) → IsNumbered ns → Contains ns w → Contains ns v → is_host v.act ≡ false
    → IsTrue (seen cached ns w v j b) → IsTrue (seen cached ns v a k b) → IsTrue (seen cached ns w a k b)

-- A write v by a command or a transition, at a point without a write after write, and an earlier write w of the same byte: an access that sees v sees w, however the past goes on. So of a byte's writes by commands and transitions the last one is enough, and of its host writes, by the law on these, the last one (Vulkan, "Execution and Memory Dependencies", on data hazards).
abbrev pub LastWriteSeen : Type 0
LastWriteSeen =
    (past newer : Past) (p : Point) (cached : Byte → Bool) (w v a : Node) (k : Access) (b : Byte) → hazard waw past p ≡ false → cached b ≡ is_cached (p ∷ past) (resource_at b)
    → Contains (nodes (p ∷ past)) w → Contains (nodes (p ∷ past)) v → length (nodes past) ≤ v.number → w.number < v.number → is_host v.act ≡ false
    → IsTrue (is_in b (writes (p ∷ past) w)) → Contains (writes (p ∷ past) v) b
    → IsTrue (seen cached (nodes (newer ++ p ∷ past)) v a k b) → IsTrue (seen cached (nodes (newer ++ p ∷ past)) w a k b)
