-- A past without a fault, in the words of nodes: what of two accesses of a byte is ordered, and what is seen.
use Rattle.std.specs.Prelude.{◌≡◌, ◌⊎◌, ◌||◌, ◌<◌, ◌≤◌, length, Bool, IsTrue, ◌∷◌, ◌++◌, None, Contains}
use Rattle.vk_model.specs.World.Bytes.{Byte, resource_at}
use Rattle.vk_model.specs.Trace.Objects.{is_cached}
use Rattle.vk_model.specs.declared.command.Cmd.{Cmd}
use Rattle.vk_model.specs.World.ByteWrites.{byte_writes}
use Rattle.vk_model.specs.Trace.Point.{Past, Point, Run}
use Rattle.vk_model.specs.Sync.Node.{Node, Act, nodes}
use Rattle.vk_model.specs.Sync.Edge.{is_host, is_command}
use Rattle.vk_model.specs.Sync.Before.{before}
use Rattle.vk_model.specs.Sync.Seen.{Access, Read, Write, seen}
use Rattle.vk_model.specs.Sync.Access.{reads, writes, is_in, precedes}
use Rattle.vk_model.specs.Rules.Table.{fault}
use Rattle.vk_model.specs.Rules.Fault.{Comes}

-- Whether another node's write of a byte is seen by a node's access, among the nodes of the whole past (Vulkan, "Execution and Memory Dependencies", on memory dependencies).
abbrev pub IsSeen : Past → Past → Node → Node → Access → Byte → Type 0
IsSeen all past w a k b = IsTrue (seen (λ c. is_cached past (resource_at c)) (nodes all) w a k b)

-- Node y, of the newest point of a front of the past, has no hazard with an earlier node x: what x reads and y writes is ordered, and what x writes and y reads or writes is seen. The accesses are as the front has them; orders and visibility are those of the whole past (Vulkan, "Execution and Memory Dependencies", on data hazards).
pub record HasNoHazard (all : Past) (past : Past) (x y : Node) : Type 0 where
  pub read_first : (b : Byte) → IsTrue (is_in b (writes past y)) → Contains (reads past x) b → IsTrue (before (nodes all) x y)
  pub read_after : (b : Byte) → IsTrue (is_in b (writes past x)) → Contains (reads past y) b → IsSeen all past x y Read b
  pub written_after : (b : Byte) → IsTrue (is_in b (writes past x)) → Contains (writes past y) b → IsSeen all past x y Write b

-- In a past without a fault no node of a point has a hazard with an earlier node, commands and host accesses alike, where not both are of the host.
abbrev pub NoHazardLaw : Type 0
NoHazardLaw =
    (all : Past) (past : Past) (p : Point) (x y : Node) → fault all ≡ None → Comes all past p
    → Contains (nodes (p ∷ past)) x → Contains (nodes (p ∷ past)) y → length (nodes past) ≤ y.number → IsTrue (precedes x y) → HasNoHazard all (p ∷ past) x y

-- What an access has seen is before it.
abbrev pub SeenIsBefore : Type 0
SeenIsBefore =
    (past : Past) (cached : Byte → Bool) (w a : Node) (k : Access) (b : Byte) → Contains (nodes past) w → Contains (nodes past) a → w.number < a.number
    → IsTrue (seen cached (nodes past) w a k b) → IsTrue (before (nodes past) w a)

-- Host entries come one after another (Vulkan, "Host Write Ordering Guarantees").
abbrev pub HostInOrder : Type 0
HostInOrder =
    (past : Past) (m n : Node) → Contains (nodes past) m → Contains (nodes past) n → IsTrue (is_host m.act) → IsTrue (is_host n.act) → m.number < n.number
    → IsTrue (before (nodes past) m n)

-- What a command reads and writes stays as it was at its own point, whatever points come: the buffers and images that it names stay what they are (profile: ids aren't made twice).
abbrev pub CommandsStay : Type 0
CommandsStay =
    (all : Past) (newer between past : Past) (p : Point) (c : Cmd) → fault all ≡ None → all ≡ newer ++ (between ++ p ∷ past) → p.action ≡ Run c
    → byte_writes (between ++ p ∷ past) c ≡ byte_writes (p ∷ past) c

-- Whether an act accesses memory itself: a clear or copy command, or a host entry. What a transition accesses is judged by the same rules, and isn't spoken of here.
abbrev pub accesses : Act → Bool
accesses a = is_command a || is_host a

-- Two nodes both access a byte, and not both only read it; the accesses are as the whole past has them (Vulkan, "Execution and Memory Dependencies", on data hazards).
abbrev pub Meets : Past → Node → Node → Byte → Type 0
Meets all x y b =
    (IsTrue (is_in b (writes all x)) × Contains (reads all y) b) ⊎ (Contains (reads all x) b × IsTrue (is_in b (writes all y)))
    ⊎ (IsTrue (is_in b (writes all x)) × Contains (writes all y) b)

-- In a past without a fault, of two commands or host entries that access a byte, not both only reading, the earlier one comes before the other in every allowed order.
abbrev pub AccessesInOrder : Type 0
AccessesInOrder =
    (all : Past) (x y : Node) (b : Byte) → fault all ≡ None → Contains (nodes all) x → Contains (nodes all) y → x.number < y.number
    → IsTrue (accesses x.act) → IsTrue (accesses y.act) → Meets all x y b → IsTrue (before (nodes all) x y)
