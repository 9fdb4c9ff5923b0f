-- A trace that breaks no rule, and a run of it in another order than that of submission: what its read reads is the model's.
use Rattle.std.specs.Prelude.{◌≡◌, List, [], ◌∷◌, Some, None}
use Rattle.vk_model.specs.declared.entry.Entry.{Entry}
use Rattle.vk_model.specs.declared.entry.Entry.TheVariants as entry
use Rattle.vk_model.specs.declared.resource.Sharing.TheVariants as sharing
use Rattle.vk_model.specs.declared.resource.Place.TheVariants as place
use Rattle.vk_model.specs.declared.command.Cmd.TheVariants as cmd
use Rattle.vk_model.specs.declared.command.Element.TheVariants as element
use Rattle.vk_model.specs.declared.command.Length.TheVariants as length_of
use Rattle.vk_model.specs.World.Bytes.{Byte, in_buffer}
use Rattle.vk_model.specs.Trace.Point.{Past}
use Rattle.vk_model.specs.Trace.Order.{order}
use Rattle.vk_model.specs.Rules.Table.{first_fault}
use Rattle.vk_laws.specs.Machine.{Task, Unknown, Reads, IsAllowed, MayRun}
use Rattle.vk_model.specs.Run.Caches.{Cell, view}
use Rattle.vk_laws.specs.Caches.{Reached}
use Rattle.vk_laws.specs.Discards.{with_discards}
use Rattle.vk_laws.specs.TraceBytes.{value_before}
use Rattle.vk_laws.specs.TraceCaches.{caching_of}
use Rattle.vk_laws.specs.Example.{task}

-- A buffer in memory that the host caches; a submit of two fills, a barrier to the host and a signal; a wait, a map, a write that isn't flushed, an invalidation that forgets it, and a read. The fills are nodes 3 and 4, the invalidation is node 10, and the read node 11.
abbrev pub example : List Entry
example =
    entry.Buffer 1 (record { size = 16; usage = record { 0 = 3 }; sharing = sharing.Exclusive; place = place.Dedicated 2 })
    ∷ entry.Semaphore 2 0
    ∷ entry.Submit 0 (record {
      waits = [];
      commands = cmd.Fill 1 0 (length_of.Bytes 8) 67305985
          ∷ cmd.Fill 1 8 (length_of.Bytes 8) 134678021
          ∷ cmd.Barrier (element.Memory (record { source_stages = record { 0 = 4096 }; source_accesses = record { 0 = 4096 }; destination_stages = record { 0 = 16384 }; destination_accesses = record { 0 = 24576 } }) ∷ [])
          ∷ [];
      signals = record { semaphore = 2; value = 1; stages = record { 0 = 65536 } } ∷ [];
    } ∷ [])
    ∷ entry.Wait (record { semaphore = 2; value = 1 } ∷ [])
    ∷ entry.Map 1
    ∷ entry.Write 1 8 (9 ∷ [])
    ∷ entry.Invalidate 1 0 length_of.Whole
    ∷ entry.Read 1 0 4
    ∷ []

-- Its points.
abbrev pub points : Past
points = order example

-- All before the read was done, the second fill before the first; the newest comes first.
abbrev pub run : List Task
run = task 10 ∷ task 9 ∷ task 8 ∷ task 7 ∷ task 6 ∷ task 5 ∷ task 3 ∷ task 4 ∷ task 2 ∷ task 1 ∷ task 0 ∷ []

-- The trace breaks no rule; the invalidation forgets the host's write; the run is allowed, and after it the read may come next; some state is reached by it; and in every such state the byte that the first fill wrote is visible to the host.
pub record TraceMeetsPremises : Type 0 where
  pub no_fault : first_fault example ≡ None
  pub forgotten : (with_discards points).write_of (task 10) (in_buffer 1 8) ≡ Some Unknown
  pub allowed : IsAllowed (with_discards points) run
  pub next : MayRun (with_discards points) run (task 11)
  pub reads_byte : Reads (with_discards points) (task 11) (in_buffer 1 0)
  pub defined : value_before points 11 (in_buffer 1 0) ≡ Some 1
  pub state : (cells : Byte → Cell) × Reached (with_discards points) (caching_of points) run cells
  pub is_seen : (cells : Byte → Cell) → Reached (with_discards points) (caching_of points) run cells → view 0 (cells (in_buffer 1 0)) ≡ 1
