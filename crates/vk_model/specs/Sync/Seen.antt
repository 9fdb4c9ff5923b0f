-- Which writes are seen by a later access: those made available, and then visible to it.
use Rattle.std.specs.Prelude.{ℕ, ◌+◌, List, Bool, true, false, not, ◌&&◌, ◌||◌, ◌==◌, nat_le}
use Rattle.std.specs.List.{list_any}
use Rattle.vk_model.specs.declared.command.Length.{Length}
use Rattle.vk_model.specs.declared.command.Length.TheVariants as length_of
use Rattle.vk_model.specs.declared.command.Element.{Element}
use Rattle.vk_model.specs.declared.command.Element.TheVariants as element
use Rattle.vk_model.specs.declared.entry.Entry.TheVariants as entry
use Rattle.vk_model.specs.Basics.{has_some, within}
use Rattle.vk_model.specs.World.Bytes.{Byte, in_buffer, in_image}
use Rattle.vk_model.specs.World.Ownership.{dependency_of, is_acquire, is_release}
use Rattle.vk_model.specs.World.Effect.{in_range, reaches}
use Rattle.vk_model.specs.Sync.Node.{Node, Act, Hosts, Waits, Signals, Runs, Depends, Role, SetOf, AwaitOf, same_node}
use Rattle.vk_model.specs.Sync.Edge.{edge, is_host, is_submit, host_stage}
use Rattle.vk_model.specs.Sync.Before.{before}

-- How a byte is accessed (Vulkan, "Access Types").
pub data Access : Type 0 where
  Read : Access
  Write : Access

-- The access masks that name an access by a command: TRANSFER_READ or TRANSFER_WRITE, and the MEMORY one (Vulkan, "Access Types").
abbrev pub command_mask : Access → ℕ
command_mask Read = 2048 + 32768
command_mask Write = 4096 + 65536

-- And by the host: HOST_READ or HOST_WRITE, and the MEMORY one (Vulkan, "Access Types").
abbrev pub host_mask : Access → ℕ
host_mask Read = 8192 + 32768
host_mask Write = 16384 + 65536

-- ---- ranges

-- Whether a range of a buffer has byte k.
abbrev pub has_byte : ℕ → Length → ℕ → Bool
has_byte offset (length_of.Bytes n) k = within offset n k
has_byte offset length_of.Whole k = nat_le offset k

-- Whether a byte is in an element's range, which limits its access scopes alone (Vulkan, "Buffer Memory Barriers" and "Image Memory Barriers").
abbrev pub covers : Element → Byte → Bool
covers (element.Memory d) b = true
covers (element.Buffer e) (in_buffer c k) = e.buffer == c && has_byte e.offset e.size k
covers (element.Buffer e) (in_image i a l x y p) = false
covers (element.Image e) b = in_range e.image e.range b

-- Whether a host entry flushes a byte (Vulkan, "Host Access to Device Memory Objects").
abbrev pub flushes : Act → Byte → Bool
flushes (Hosts (entry.Flush b o n)) c = reaches b o n c
flushes _ c = false

-- Whether a host entry invalidates a byte (Vulkan, "Host Access to Device Memory Objects").
abbrev pub invalidates : Act → Byte → Bool
invalidates (Hosts (entry.Invalidate b o n)) c = reaches b o n c
invalidates _ c = false

-- ---- kinds of nodes

-- An element of an await.
abbrev pub is_await : Role → Bool
is_await (AwaitOf v k) = true
is_await _ = false

-- An element of a set.
abbrev pub is_set : Role → Bool
is_set (SetOf v k) = true
is_set _ = false

-- A batch's wait.
abbrev pub is_wait : Act → Bool
is_wait (Waits s) = true
is_wait _ = false

-- An element with HOST in its destination stages.
abbrev pub to_host : Act → Bool
to_host (Depends r e) = has_some (dependency_of e).destination_stages.0 host_stage
to_host _ = false

-- ---- availability and visibility, among nodes; `cached` says which bytes the host reaches through a cache

module _ (cached : Byte → Bool) (ns : List Node) where
  -- A node that passes the test lies on a path from m to n.
  abbrev pub passes : (Act → Bool) → Node → Node → Bool
  passes test m n = list_any (λ f. test f.act && before ns m f && before ns f n) ns

  -- Whether a node makes commands' writes of a byte available: a barrier's or set's element that has the write in its source accesses and is no acquire, or a signal (Vulkan, "Execution and Memory Dependencies" and "Semaphore Signaling"; an acquire's is ignored: "Queue Family Ownership Transfer").
  abbrev pub makes_writes_available : Node → Byte → Act → Bool
  makes_writes_available p b (Depends r e) = not (is_await r) && not (is_acquire p.point.queue e) && has_some (dependency_of e).source_accesses.0 (command_mask Write) && covers e b
  makes_writes_available p b (Signals s) = true
  makes_writes_available p b _ = false

  -- Node p makes the write of a byte by node w, whose act is given, available: a command's by a node with an edge from it; a transition's by itself; a host's by a later submit, after a flush where the memory is cached (Vulkan, "Execution and Memory Dependencies", "Image Layout Transitions" and "Host Write Ordering Guarantees").
  abbrev pub available_by : Node → Act → Byte → Node → Bool
  available_by w (Runs c) b p = edge ns w p && makes_writes_available p b p.act
  available_by w (Depends r e) b p = same_node w p
  available_by w (Hosts x) b p = is_submit p.act && before ns w p && (not (cached b) || passes (λ f. flushes f b) w p)
  available_by w _ b p = false

  -- Whether an element makes available writes of a byte visible to accesses under a mask: a barrier's or await's that has one of them in its destination accesses and is no release (Vulkan, "Execution and Memory Dependencies"; a release's is ignored: "Queue Family Ownership Transfer").
  abbrev pub makes_writes_visible : ℕ → Byte → Node → Act → Bool
  makes_writes_visible mask b q (Depends r e) = not (is_set r) && not (is_release q.point.queue e) && has_some (dependency_of e).destination_accesses.0 mask && covers e b
  makes_writes_visible mask b q _ = false

  -- Whether a host access needs an invalidation: a read of cached memory (Vulkan, "Host Access to Device Memory Objects").
  abbrev pub needs_invalidation : Access → Byte → Bool
  needs_invalidation Read b = cached b
  needs_invalidation Write b = false

  -- Node q makes the write of a byte by w visible to an access by node a, whose act is given: a command's by a node with an edge to it; a transition's by itself; a host's by a dependency to the host, with an invalidation after it where one is needed (Vulkan, "Execution and Memory Dependencies", "Semaphore Waiting", "Host Write Ordering Guarantees" and "Host Access to Device Memory Objects").
  abbrev pub visible_by : Node → Node → Act → Access → Byte → Node → Bool
  visible_by w a (Runs c) k b q = edge ns q a && (makes_writes_visible (command_mask k) b q q.act || is_wait q.act || is_host w.act && is_submit q.act)
  visible_by w a (Depends r e) k b q = same_node q a
  visible_by w a (Hosts x) k b q = before ns q a && to_host q.act && makes_writes_visible (host_mask k) b q q.act
      && (not (needs_invalidation k b) || passes (λ f. invalidates f b) q a)
  visible_by w a _ k b q = false

  -- Whether node w's write of a byte is seen by node a's access of it: on some path from w to a, one node makes the write available, and it or a later one makes it visible (Vulkan, "Execution and Memory Dependencies", on memory dependencies).
  unfoldable pub seen : Node → Node → Access → Byte → Bool
  seen w a k b = list_any (λ p. available_by w w.act b p
      && list_any (λ q. (same_node p q || before ns p q) && visible_by w a a.act k b q && (same_node q a || before ns q a)) ns) ns
