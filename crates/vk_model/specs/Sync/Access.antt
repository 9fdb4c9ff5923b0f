-- The bytes that a node reads and writes, and hazards between two accesses of one byte.
use Rattle.std.specs.Prelude.{ℕ, ◌+◌, List, [], ◌∷◌, map, length, Bool, not, ◌&&◌, nat_lt, if◌then◌else◌, Option, Some, None}
use Rattle.std.specs.List.{list_any, filter_map}
use Rattle.vk_model.specs.declared.entry.Entry.{Entry}
use Rattle.vk_model.specs.declared.entry.Entry.TheVariants as entry
use Rattle.vk_model.specs.declared.command.Element.{Element}
use Rattle.vk_model.specs.declared.command.Element.TheVariants as element
use Rattle.vk_model.specs.declared.command.ImageElement.{ImageElement}
use Rattle.vk_model.specs.declared.resource.ImageInfo.{ImageInfo}
use Rattle.vk_model.specs.Basics.{below}
use Rattle.vk_model.specs.Trace.Point.{Past, Point}
use Rattle.vk_model.specs.Trace.Objects.{image, is_cached}
use Rattle.vk_model.specs.World.Bytes.{Byte, in_buffer, same_byte, resource_at}
use Rattle.vk_model.specs.World.ByteWrites.{Source, Value, From, ByteWrite, byte_writes, subresource_bytes}
use Rattle.vk_model.specs.World.Ownership.{is_transition, is_release}
use Rattle.vk_model.specs.Sync.Node.{Node, Act, Hosts, Runs, Depends, nodes, next_nodes}
use Rattle.vk_model.specs.Sync.Edge.{is_host}
use Rattle.vk_model.specs.Sync.Before.{before}
use Rattle.vk_model.specs.Sync.Seen.{Access, Read, Write, seen}

-- The bytes of a range of a buffer.
abbrev pub bytes_of : ℕ → ℕ → ℕ → List Byte
bytes_of b o n = map (λ k. in_buffer b (o + k)) (below n)

-- The byte that a source reads.
abbrev pub origin : Source → Option Byte
origin (Value n) = None
origin (From b) = Some b

-- The bytes that byte writes write.
abbrev pub targets : List ByteWrite → List Byte
targets ms = map (λ m. m.to) ms

-- The bytes that byte writes read.
abbrev pub origins : List ByteWrite → List Byte
origins ms = filter_map (λ m. origin m.source) ms

-- The bytes of the subresources that an image element names.
abbrev pub image_bytes : Option ImageInfo → ImageElement → List Byte
image_bytes None e = []
image_bytes (Some m) e = map (λ p. p.0) (subresource_bytes e.image m e.range)

-- A transition reads and writes all that it covers (Vulkan, "Image Layout Transitions"); that of an ownership transfer does at its acquire (profile).
abbrev pub transition_bytes : Past → ℕ → Element → List Byte
transition_bytes past q (element.Image e) = if is_transition e && not (is_release q (element.Image e)) then image_bytes (image past e.image) e else []
transition_bytes past q _ = []

-- What a host entry reads (Vulkan, "Host Access to Device Memory Objects").
abbrev pub host_reads : Entry → List Byte
host_reads (entry.Read b o n) = bytes_of b o n
host_reads _ = []

-- What a host entry writes (Vulkan, "Host Access to Device Memory Objects").
abbrev pub host_writes : Entry → List Byte
host_writes (entry.Write b o bytes) = bytes_of b o (length bytes)
host_writes _ = []

-- The bytes that an act on a queue reads (Vulkan, "Copy Commands" and "Image Layout Transitions").
abbrev pub reads_of : Past → ℕ → Act → List Byte
reads_of past q (Hosts x) = host_reads x
reads_of past q (Runs c) = origins (byte_writes past c)
reads_of past q (Depends r e) = transition_bytes past q e
reads_of past q _ = []

-- The bytes that an act on a queue writes (Vulkan, "Clear Commands", "Copy Commands" and "Image Layout Transitions").
abbrev pub writes_of : Past → ℕ → Act → List Byte
writes_of past q (Hosts x) = host_writes x
writes_of past q (Runs c) = targets (byte_writes past c)
writes_of past q (Depends r e) = transition_bytes past q e
writes_of past q _ = []

-- Whether a byte is among others.
abbrev pub is_in : Byte → List Byte → Bool
is_in b bs = list_any (same_byte b) bs

-- Whether two lists of bytes have one in common.
abbrev pub share : List Byte → List Byte → Bool
share bs cs = list_any (λ b. is_in b cs) bs

-- Whether two nodes are judged as a pair: x comes first, and not both are of the host (Vulkan, "Host Write Ordering Guarantees").
abbrev pub precedes : Node → Node → Bool
precedes x y = nat_lt x.number y.number && not (is_host x.act && is_host y.act)

-- ---- hazards between nodes of a past, which has the accesses of both

module _ (past : Past) where
  -- The bytes that a node reads.
  abbrev pub reads : Node → List Byte
  reads n = reads_of past n.point.queue n.act

  -- The bytes that a node writes.
  abbrev pub writes : Node → List Byte
  writes n = writes_of past n.point.queue n.act

  -- Whether node w's write of a byte is seen by node a's access.
  abbrev pub is_seen : Node → Node → Access → Byte → Bool
  is_seen w a k b = seen (λ c. is_cached past (resource_at c)) (nodes past) w a k b

  -- Write after read: y writes a byte that x reads, without an execution dependency (Vulkan, "Execution and Memory Dependencies").
  abbrev pub war : Node → Node → Bool
  war x y = share (reads x) (writes y) && not (before (nodes past) x y)

  -- Read after write: y reads a byte that x writes, and the write isn't seen by it (Vulkan, "Execution and Memory Dependencies"). Writes that were overwritten count too (profile).
  abbrev pub raw : Node → Node → Bool
  raw x y = list_any (λ b. is_in b (writes x) && not (is_seen x y Read b)) (reads y)

  -- Write after write: y writes a byte that x writes, without a memory dependency (Vulkan, "Execution and Memory Dependencies"). Writes that were overwritten count too (profile).
  abbrev pub waw : Node → Node → Bool
  waw x y = list_any (λ b. is_in b (writes x) && not (is_seen x y Write b)) (writes y)

-- Whether a node of a point that comes next has a hazard of this kind with an earlier node.
abbrev pub hazard : (Past → Node → Node → Bool) → Past → Point → Bool
hazard kind past p = list_any (λ y. list_any (λ x. precedes x y && kind (p ∷ past) x y) (nodes (p ∷ past))) (next_nodes past p)
