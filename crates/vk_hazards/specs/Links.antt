-- The links between a write and a later access of its byte, and which of them is missing.
use Rattle.std.specs.Prelude.{◌≡◌, ◌<◌, ◌⊎◌, Bool, false, ◌&&◌, ◌||◌, Option, Some, None, IsTrue, Contains}
use Rattle.std.specs.List.{list_any}
use Rattle.vk_model.specs.Trace.Point.{Past}
use Rattle.vk_model.specs.Trace.Objects.{is_cached}
use Rattle.vk_model.specs.World.Bytes.{Byte, resource_at}
use Rattle.vk_model.specs.Sync.Node.{Node, nodes, same_node}
use Rattle.vk_model.specs.Sync.Edge.{is_host}
use Rattle.vk_model.specs.Sync.Before.{before}
use Rattle.vk_model.specs.Sync.Seen.{Access, Read, Write, available_by, visible_by, makes_writes_visible, needs_invalidation, passes, flushes, invalidates, to_host, host_mask}
use Rattle.vk_hazards.specs.declared.hazards.Hazard.{Hazard}
use Rattle.vk_hazards.specs.declared.hazards.Hazard.TheVariants.{War, Raw, Waw}
use Rattle.vk_hazards.specs.declared.hazards.Placed.{Placed}
use Rattle.vk_hazards.specs.Hazards.{node_at}
use Rattle.vk_hazards.specs.declared.links.Missing.{Missing}
use Rattle.vk_hazards.specs.declared.links.Missing.TheVariants as missing
use Rattle.vk_hazards.specs.declared.links.Links.{Links}

-- Whether the host reaches a byte through a cache (Vulkan, "Host Access to Device Memory Objects").
abbrev pub cached : Past → Byte → Bool
cached past b = is_cached past (resource_at b)

-- ---- which nodes a link is by

-- Whether a write needs a flush: it is the host's, of memory that it reaches through a cache (Vulkan, "Host Access to Device Memory Objects").
abbrev pub needs_flush : Past → Node → Byte → Bool
needs_flush past w b = is_host w.act && cached past b

-- Whether node f flushes the byte of a write that needs it, after the write (Vulkan, "Host Access to Device Memory Objects").
abbrev pub flushes_after : Past → Node → Byte → Node → Bool
flushes_after past w b f = needs_flush past w b && (flushes f.act b && before (nodes past) w f)

-- Whether node p makes the write of a byte by node w available (Vulkan, "Execution and Memory Dependencies").
abbrev pub makes_available : Past → Node → Byte → Node → Bool
makes_available past w b p = available_by (cached past) (nodes past) w w.act b p

-- Whether the write is available at node q: q makes it available, or is after a node that does (Vulkan, "Execution and Memory Dependencies").
abbrev pub is_available_at : Past → Node → Byte → Node → Bool
is_available_at past w b q = list_any (λ p. makes_available past w b p && (same_node p q || before (nodes past) p q)) (nodes past)

-- Whether the write is available at node q, and q makes it visible to an access by node a (Vulkan, "Execution and Memory Dependencies").
abbrev pub makes_visible : Past → Node → Node → Access → Byte → Node → Bool
makes_visible past w a k b q = is_available_at past w b q && visible_by (cached past) (nodes past) w a a.act k b q

-- Whether node q makes it visible to the host, for accesses that come after q: it is an element with HOST in its destination stages and such accesses in its destination accesses (Vulkan, "Host Write Ordering Guarantees" and "Execution and Memory Dependencies").
abbrev pub shows_host : Past → Node → Node → Access → Byte → Node → Bool
shows_host past w a k b q = is_host a.act && (to_host q.act && makes_writes_visible (cached past) (nodes past) (host_mask k) b q q.act && is_available_at past w b q)

-- Whether that node is before the access (Vulkan, "Host Write Ordering Guarantees").
abbrev pub shows_in_time : Past → Node → Node → Access → Byte → Node → Bool
shows_in_time past w a k b q = shows_host past w a k b q && before (nodes past) q a

-- Whether an invalidation of the byte is between that node and the access (Vulkan, "Host Access to Device Memory Objects").
abbrev pub is_invalidated : Past → Node → Node → Access → Byte → Node → Bool
is_invalidated past w a k b q = shows_in_time past w a k b q && passes (cached past) (nodes past) (λ f. invalidates f b) q a

-- ---- nodes that pass a test

-- No node does.
abbrev pub HasNone : Past → (Node → Bool) → Type 0
HasNone past test = (n : Node) → Contains (nodes past) n → test n ≡ false

-- Some node does.
abbrev pub HasSome : Past → (Node → Bool) → Type 0
HasSome past test = (n : Node) × Contains (nodes past) n × IsTrue (test n)

-- A node is the first that does, in reference order.
pub record IsFirstNode (past : Past) (test : Node → Bool) (n : Node) : Type 0 where
  pub there : Contains (nodes past) n
  pub passes : IsTrue (test n)
  pub first : (m : Node) → Contains (nodes past) m → m.number < n.number → test m ≡ false

-- The node that is reported is the first that does; none is reported where none does.
abbrev pub IsFirst : Past → (Node → Bool) → Option Placed → Type 0
IsFirst past test None = HasNone past test
IsFirst past test (Some p) = IsFirstNode past test (node_at p)

-- ---- links that are missing, where those before them aren't

-- The write needs a flush, and none comes after it.
pub record IsUnflushed (past : Past) (w : Node) (b : Byte) : Type 0 where
  pub needed : IsTrue (needs_flush past w b)
  pub missing : HasNone past (flushes_after past w b)

-- The write is the host's and flushed where it needs that, and no submit makes it available.
pub record IsUnsubmitted (past : Past) (w : Node) (b : Byte) : Type 0 where
  pub by_host : IsTrue (is_host w.act)
  pub flushed : IsTrue (needs_flush past w b) → HasSome past (flushes_after past w b)
  pub missing : HasNone past (makes_available past w b)

-- The write isn't the host's, and no node makes it available.
pub record IsUnavailable (past : Past) (w : Node) (b : Byte) : Type 0 where
  pub by_device : is_host w.act ≡ false
  pub missing : HasNone past (makes_available past w b)

-- Some node makes the write available, and none that does is the access, which isn't the host's, or before it.
pub record IsUnordered (past : Past) (w a : Node) (b : Byte) : Type 0 where
  pub on_device : is_host a.act ≡ false
  pub available : HasSome past (makes_available past w b)
  pub missing : is_available_at past w b a ≡ false

-- A node that makes the write available is the access, which isn't the host's, or before it, and none makes it visible to the access.
pub record IsInvisible (past : Past) (w a : Node) (k : Access) (b : Byte) : Type 0 where
  pub on_device : is_host a.act ≡ false
  pub available : IsTrue (is_available_at past w b a)
  pub missing : HasNone past (makes_visible past w a k b)

-- The access is the host's, some node makes the write available, and none makes it visible to the host.
pub record IsInvisibleOnHost (past : Past) (w a : Node) (k : Access) (b : Byte) : Type 0 where
  pub on_host : IsTrue (is_host a.act)
  pub available : HasSome past (makes_available past w b)
  pub missing : HasNone past (shows_host past w a k b)

-- Some node makes it visible to the host, and none that does is before the access.
pub record IsUnawaited (past : Past) (w a : Node) (k : Access) (b : Byte) : Type 0 where
  pub shows_some : HasSome past (shows_host past w a k b)
  pub missing : HasNone past (shows_in_time past w a k b)

-- Some such node is before the access, a read of memory that the host reaches through a cache, and no invalidation of the byte is between one and the access.
pub record IsUninvalidated (past : Past) (w a : Node) (k : Access) (b : Byte) : Type 0 where
  pub needed : IsTrue (needs_invalidation (cached past) (nodes past) k b)
  pub awaited : HasSome past (shows_in_time past w a k b)
  pub missing : HasNone past (is_invalidated past w a k b)

-- The link that is missing between node w's write of a byte and node a's access.
abbrev pub IsMissingAfterWrite : Past → Node → Node → Access → Byte → Missing → Type 0
IsMissingAfterWrite past w a k b missing.Flush = IsUnflushed past w b
IsMissingAfterWrite past w a k b missing.Submit = IsUnsubmitted past w b
IsMissingAfterWrite past w a k b missing.Available = IsUnavailable past w b
IsMissingAfterWrite past w a k b missing.Order = IsUnordered past w a b
IsMissingAfterWrite past w a k b missing.Visible = IsInvisible past w a k b ⊎ IsInvisibleOnHost past w a k b
IsMissingAfterWrite past w a k b missing.Wait = IsUnawaited past w a k b
IsMissingAfterWrite past w a k b missing.Invalidation = IsUninvalidated past w a k b

-- ---- what is reported

-- What is reported of two nodes of which the earlier reads the byte: that it isn't before the later one, and nothing else.
pub record IsOrderAlone (past : Past) (x y : Node) (l : Links) : Type 0 where
  pub unordered : before (nodes past) x y ≡ false
  pub reported : l ≡ record { missing = missing.Order; flush = None; available = None; visible = None; awaited = None }

-- What is reported of node w's write of a byte and node a's access that doesn't see it: the missing link, and the first node that each of the others is by.
pub record AreLinksOfWrite (past : Past) (w a : Node) (k : Access) (b : Byte) (l : Links) : Type 0 where
  pub missing : IsMissingAfterWrite past w a k b l.missing
  pub flush : IsFirst past (flushes_after past w b) l.flush
  pub available : IsFirst past (makes_available past w b) l.available
  pub visible : IsFirst past (shows_host past w a k b) l.visible
  pub awaited : IsFirst past (shows_in_time past w a k b) l.awaited

-- What is reported of two nodes that are in hazard at a byte. After a read the order is missing, and nothing else is asked (Vulkan, "Execution and Memory Dependencies", on data hazards).
abbrev pub AreLinks : Past → Hazard → Node → Node → Byte → Links → Type 0
AreLinks past War x y b l = IsOrderAlone past x y l
AreLinks past Raw x y b l = AreLinksOfWrite past x y Read b l
AreLinks past Waw x y b l = AreLinksOfWrite past x y Write b l
