-- Caches of a past: one of the host and one of each queue, and which events make writes available and visible through them.
use Rattle.std.specs.Prelude.{◌≡◌, ℕ, zero, suc, Bool, false, not, ◌&&◌, ◌||◌, ◌==◌, IsTrue, List, Some, None, is_some, if◌then◌else◌}
use Rattle.std.specs.List.{list_any}
use Rattle.vk_model.specs.declared.entry.Entry.TheVariants as entry
use Rattle.vk_model.specs.Basics.{holds}
use Rattle.vk_model.specs.World.Bytes.{Byte, resource_at}
use Rattle.vk_model.specs.Trace.Objects.{made, is_cached}
use Rattle.vk_model.specs.Trace.Point.{Past}
use Rattle.vk_model.specs.Trace.Structure.{IsOrdered}
use Rattle.vk_model.specs.Sync.Node.{Node, Act, Hosts, nodes}
use Rattle.vk_model.specs.Sync.Edge.{is_host}
use Rattle.vk_model.specs.Sync.Before.{before}
use Rattle.vk_model.specs.Sync.Access.{is_in, writes}
use Rattle.vk_model.specs.Sync.Seen.{Read, command_mask, host_mask, available_by, makes_writes_visible, invalidates, is_wait, to_host}
use Rattle.vk_model.specs.Rules.Table.{fault}
use Rattle.vk_laws.specs.Machine.{Task, Reads, MayRun, latest}
use Rattle.vk_model.specs.Run.Caches.{Cell, agent_of, view}
use Rattle.vk_laws.specs.Caches.{Caching, CacheFree, Reached}
use Rattle.vk_laws.specs.Trace.{accesses}
use Rattle.vk_laws.specs.Tasks.{node_at, accesses_of}
use Rattle.vk_laws.specs.TraceBytes.{before_node, value_before}
use Rattle.vk_laws.specs.Discards.{with_discards}
use Rattle.vk_laws.specs.EveryOrder.{IsSettled}

-- Whether an act is a submit to queue k (Vulkan, "Queue Submission").
abbrev pub submits_to : Act → ℕ → Bool
submits_to (Hosts (entry.Submit q bs)) k = q == k
submits_to _ k = false

module _ (all : Past) where
  -- Whether the host reaches a byte through a cache that isn't coherent, when node n comes (Vulkan, "Host Access to Device Memory Objects").
  abbrev pub cached : ℕ → Byte → Bool
  cached n c = is_cached (before_node all n) (resource_at c)

  -- Whether the resource of a byte was made before node n (Vulkan, "Object Lifetime").
  abbrev pub was_made : ℕ → Byte → Bool
  was_made n c = is_some (made (before_node all n) (resource_at c))

  -- Node p makes a command's or host entry's write of a byte available (Vulkan, "Execution and Memory Dependencies", "Semaphore Signaling" and "Host Write Ordering Guarantees").
  abbrev pub makes_write_available : Node → Node → Byte → Bool
  makes_write_available p w c = accesses w.act && available_by (cached w.number) (nodes all) w w.act c p

  -- Whether a host entry wrote a byte before node q (Vulkan, "Host Write Ordering Guarantees").
  abbrev pub host_wrote : Node → Byte → Bool
  host_wrote q c = list_any (λ v. is_host v.act && is_in c (writes all v) && before (nodes all) v q) (nodes all)

  -- Node q makes a byte visible to the reads of queue k: an element or a wait of the queue, or a submit to it after the host wrote the byte (Vulkan, "Execution and Memory Dependencies", "Semaphore Waiting" and "Host Write Ordering Guarantees").
  abbrev pub makes_visible_to_queue : Node → ℕ → Byte → Bool
  makes_visible_to_queue q k c = not (is_host q.act) && q.point.queue == k && (makes_writes_visible (cached q.number) (nodes all) (command_mask Read) c q q.act || is_wait q.act) || submits_to q.act k && host_wrote q c

  -- Node q makes a byte visible to the host's reads: an invalidation where the memory is cached, and else a dependency to the host; no byte of a resource that is made later (Vulkan, "Host Access to Device Memory Objects" and "Execution and Memory Dependencies").
  abbrev pub makes_visible_to_host : Node → Byte → Bool
  makes_visible_to_host q c = if cached q.number c then invalidates q.act c else to_host q.act && makes_writes_visible (cached q.number) (nodes all) (host_mask Read) c q q.act && was_made q.number c

  -- And to an agent.
  abbrev pub makes_visible_to : Node → ℕ → Byte → Bool
  makes_visible_to q zero c = makes_visible_to_host q c
  makes_visible_to q (suc k) c = makes_visible_to_queue q k c

  -- Each task accesses memory through the cache of its queue or of the host (Vulkan, "Execution and Memory Dependencies").
  abbrev pub caching_of : Caching
  caching_of = record {
    agent = λ t. elim (node_at all t.node) [ None ↦ 0 | Some n ↦ agent_of n ];
    makes_available = λ p w c. (accesses_of all).has w && holds (node_at all p.node) (λ m. holds (node_at all w.node) (λ n. makes_write_available m n c));
    makes_visible = λ q a c. holds (node_at all q.node) (λ n. makes_visible_to n a c);
  }

-- In an ordered past without a fault what one queue or the host wrote another reads only when it was made visible to it, and overwrites only when it was made available (Vulkan, "Execution and Memory Dependencies", on data hazards).
abbrev pub TraceCacheFreeLaw : Type 0
TraceCacheFreeLaw = (all : Past) → IsOrdered all → fault all ≡ None → CacheFree (with_discards all) (caching_of all)

-- ---- the law, of every allowed run of an ordered past without a fault, through caches of the host and of each queue, where invalidations may forget

-- When a piece or host entry may come next, of those whose accesses meet its own the earlier ones are done, and the later ones aren't.
abbrev pub CachedSettledLaw : Type 0
CachedSettledLaw =
    (all : Past) (done : List Task) (cells : Byte → Cell) (next : Task) → IsOrdered all → fault all ≡ None → Reached (with_discards all) (caching_of all) done cells
    → MayRun (with_discards all) done next → IsSettled (with_discards all) done next

-- What is visible, of each byte that it reads, to a piece or host entry that may come next is the model's value before its node, where the model defines one.
abbrev pub CachedFreshLaw : Type 0
CachedFreshLaw =
    (all : Past) (done : List Task) (cells : Byte → Cell) (next : Task) (c : Byte) (v : ℕ) → IsOrdered all → fault all ≡ None → Reached (with_discards all) (caching_of all) done cells
    → MayRun (with_discards all) done next → Reads (with_discards all) next c → value_before all next.node c ≡ Some v → view ((caching_of all).agent next) (cells c) ≡ v

-- After any step the model's value after the node of a byte's last write is visible to the queue or host that wrote it, where the model defines one.
abbrev pub CachedWrittenLaw : Type 0
CachedWrittenLaw =
    (all : Past) (done : List Task) (cells : Byte → Cell) (writer : Task) (c : Byte) (v : ℕ) → IsOrdered all → fault all ≡ None → Reached (with_discards all) (caching_of all) done cells
    → latest (with_discards all) c done ≡ Some writer → value_before all (suc writer.node) c ≡ Some v → view ((caching_of all).agent writer) (cells c) ≡ v

-- So a host read that may come next reads the model's bytes, each of them defined: what a trace of these points means.
abbrev pub HostReadLaw : Type 0
HostReadLaw =
    (all : Past) (done : List Task) (cells : Byte → Cell) (next : Task) (c : Byte) → IsOrdered all → fault all ≡ None → Reached (with_discards all) (caching_of all) done cells
    → MayRun (with_discards all) done next → Reads (with_discards all) next c → IsTrue (holds (node_at all next.node) (λ n. is_host n.act))
    → value_before all next.node c ≡ Some (view 0 (cells c))
