-- Runs on memory directly: no queue has a cache, so that what a piece writes is in memory at once, and only the host may hold copies.
use Rattle.std.specs.Prelude.{◌≡◌, ◌⊎◌, ℕ, zero, suc, ◌+◌, ◌<◌, List, [], ◌∷◌, ◌++◌, map, Bool, true, false, Option, Some, None, IsTrue, is_some, unwrap_or}
use Rattle.vk_model.specs.declared.entry.Entry.{Entry}
use Rattle.vk_model.specs.declared.entry.Entry.TheVariants as entry
use Rattle.vk_model.specs.Basics.{below, among}
use Rattle.vk_model.specs.Trace.Point.{Past}
use Rattle.vk_model.specs.Trace.Objects.{made, is_cached}
use Rattle.vk_model.specs.Trace.Order.{order}
use Rattle.vk_model.specs.World.Bytes.{Byte, in_buffer, resource_at}
use Rattle.vk_model.specs.World.ByteWrites.{ByteWrite, Source, Value, From}
use Rattle.vk_model.specs.World.Effect.{written, world}
use Rattle.vk_model.specs.World.Meaning.{read_in}
use Rattle.vk_model.specs.Rules.Table.{first_fault}
use Rattle.vk_model.specs.Run.Runs.{Name, is_done, offered, Step, Apply, RunPiece, CopyPart, Stage, start, may_go, are_atoms, applied, parts_left}
use Rattle.vk_model.specs.Run.Caches.{Held, Dirty, value_through}
use Rattle.vk_model.specs.Run.CachedRuns.{Cells, named_piece, write_to, after_atoms, after_host, CachedStep}
use Rattle.vk_laws.specs.TraceBytes.{value_before}
use Rattle.vk_laws.specs.DefinedRuns.{RunOf, IsOver}
use Rattle.vk_laws.specs.CachedRuns.{CachedRunOf, steps_of}

-- Memory, and what the host's cache holds of it (Vulkan, "Host Access to Device Memory Objects").
pub record HostMemory : Type 0 where
  pub region : Byte → ℕ
  pub host : Byte → Option Held

-- Memory of which the host's cache holds nothing.
abbrev pub bare_memory : (Byte → ℕ) → HostMemory
bare_memory region = record { region = region; host = λ c. None }

-- What an agent's cache holds of a byte of which the host's cache holds this, and no queue's cache anything.
abbrev pub held_by_host : Option Held → ℕ → Option Held
held_by_host h zero = h
held_by_host h (suc q) = None

-- Its bytes with caches.
abbrev pub cells_of : HostMemory → Cells
cells_of m c = record { region = m.region c; held = held_by_host (m.host c) }

-- Memory and the host's cache, of bytes with caches.
abbrev pub memory_of : Cells → HostMemory
memory_of cells = record { region = λ c. (cells c).region; host = λ c. (cells c).held 0 }

-- A byte as the host sees it.
abbrev pub host_view : HostMemory → Byte → ℕ
host_view m c = value_through (m.host c) (m.region c)

-- The steps of a trace lead to this stage and this memory: without what caches do they are those of an allowed run through caches, from some first values, after which no queue's cache holds anything.
pub record DirectRun (t : List Entry) (steps : List Step) (s : Stage) (m : HostMemory) : Type 0 where
  pub first : Byte → ℕ
  pub cached_steps : List CachedStep
  pub run : CachedRunOf t first cached_steps (record { stage = s; cells = cells_of m })
  pub same_steps : steps_of cached_steps ≡ steps

-- ---- what a step does to memory

-- The value of a source in memory.
abbrev pub value_in : (Byte → ℕ) → Source → ℕ
value_in region (Value v) = v
value_in region (From d) = region d

-- A byte of memory after a write of it, if there is one.
abbrev pub byte_after : (Byte → ℕ) → Option ByteWrite → Byte → ℕ
byte_after region None c = region c
byte_after region (Some w) c = value_in region w.source

-- Memory after a piece: all its writes at once, from memory as it was; the host's cache stays (Vulkan, "Clear Commands" and "Copy Commands").
abbrev pub memory_after_piece : List ByteWrite → HostMemory → HostMemory
memory_after_piece ms m = record m { region = λ c. byte_after m.region (write_to c ms) c }

-- Memory when the host's cache has taken up or given back some atoms just before an entry (profile).
abbrev pub memory_after_atoms : Entry → List ℕ → HostMemory → HostMemory
memory_after_atoms x atoms m = memory_of (after_atoms x atoms (cells_of m))

-- Memory after an entry that moves these resources, and those atoms (Vulkan, "Host Access to Device Memory Objects"; passes: VMA, "Defragmentation").
abbrev pub memory_after_entry : Past → List ℕ → List ℕ → Entry → HostMemory → HostMemory
memory_after_entry past atoms moved x m = memory_of (λ c. after_host past moved x c (after_atoms x atoms (cells_of m) c))

-- Whether an entry may change memory or the host's cache, besides what the cache does by itself.
abbrev pub reaches_memory : Entry → Bool
reaches_memory (entry.Write b o bytes) = true
reaches_memory (entry.Flush b o n) = true
reaches_memory (entry.Invalidate b o n) = true
reaches_memory (entry.Pass d) = true
reaches_memory (entry.EndPass d kept lost) = true
reaches_memory _ = false

-- ---- a run goes on

-- A run begins with any values in memory, and with an empty cache.
abbrev pub DirectRunsBegin : Type 0
DirectRunsBegin = (t : List Entry) (first : Byte → ℕ) → DirectRun t [] (start t) (bare_memory first)

-- A piece that is offered may run: its writes are in memory then.
abbrev pub PiecesGoOn : Type 0
PiecesGoOn =
    (t : List Entry) (steps : List Step) (s : Stage) (m : HostMemory) (x : Name) → DirectRun t steps s m → IsTrue (is_done (offered s.front.past s.done) x)
    → DirectRun t (steps ++ RunPiece x ∷ []) (record s { done = x ∷ s.done }) (memory_after_piece (named_piece s.front.past x) m)

-- The next entry may be applied: it has its effect, and the dependencies, waits and signals that happen then change no byte.
abbrev pub EntriesGoOn : Type 0
EntriesGoOn =
    (t : List Entry) (steps : List Step) (s : Stage) (m : HostMemory) (x : Entry) (xs : List Entry) (atoms : List ℕ) (parts : ℕ) (moved : List ℕ) → DirectRun t steps s m
    → s.left ≡ x ∷ xs → IsTrue (may_go s x) → IsTrue (are_atoms s.front.past x atoms)
    → DirectRun t (steps ++ Apply atoms parts ∷ []) (applied s parts x xs) (memory_after_entry s.front.past atoms moved x m)

-- One that doesn't reach memory leaves it as it was, where the cache does nothing by itself.
abbrev pub OtherEntriesGoOn : Type 0
OtherEntriesGoOn =
    (t : List Entry) (steps : List Step) (s : Stage) (m : HostMemory) (x : Entry) (xs : List Entry) (parts : ℕ) → DirectRun t steps s m → s.left ≡ x ∷ xs → IsTrue (may_go s x)
    → reaches_memory x ≡ false → DirectRun t (steps ++ Apply [] parts ∷ []) (applied s parts x xs) m

-- A part of what an open pass moves may be copied: bytes are those of resources, so that none changes (VMA, "Defragmentation").
abbrev pub PartsGoOn : Type 0
PartsGoOn =
    (t : List Entry) (steps : List Step) (s : Stage) (m : HostMemory) (k : ℕ) → DirectRun t steps s m → IsTrue (among k (parts_left s))
    → DirectRun t (steps ++ CopyPart k ∷ []) (record s { copied = k ∷ s.copied }) m

-- A run of a trace is a run of each longer one.
abbrev pub LongerTracesGoOn : Type 0
LongerTracesGoOn =
    (t more : List Entry) (steps : List Step) (s : Stage) (m : HostMemory) → DirectRun t steps s m → DirectRun (t ++ more) steps (record s { left = s.left ++ more }) m

-- Memory is known by its bytes.
abbrev pub MemoryIsItsBytes : Type 0
MemoryIsItsBytes =
    (t : List Entry) (steps : List Step) (s : Stage) (m n : HostMemory) → DirectRun t steps s m → ((c : Byte) → m.region c ≡ n.region c) → ((c : Byte) → m.host c ≡ n.host c)
    → DirectRun t steps s n

-- ---- where the host has no cache either

-- Whether an entry is a host write into its cache (Vulkan, "Host Access to Device Memory Objects").
abbrev pub writes_cache : Past → Entry → Bool
writes_cache past (entry.Write b o bytes) = is_cached past b
writes_cache past _ = false

-- A byte of memory after an entry that isn't: a host write alone changes it (Vulkan, "Host Access to Device Memory Objects").
abbrev pub byte_after_entry : Entry → (Byte → ℕ) → Byte → ℕ
byte_after_entry (entry.Write b o bytes) region c = unwrap_or (written b o bytes c) (region c)
byte_after_entry _ region c = region c

-- So memory stays bare.
abbrev pub UncachedEntriesGoOn : Type 0
UncachedEntriesGoOn =
    (t : List Entry) (steps : List Step) (s : Stage) (region : Byte → ℕ) (x : Entry) (xs : List Entry) (parts : ℕ) → DirectRun t steps s (bare_memory region) → s.left ≡ x ∷ xs → IsTrue (may_go s x)
    → writes_cache s.front.past x ≡ false → DirectRun t (steps ++ Apply [] parts ∷ []) (applied s parts x xs) (bare_memory (byte_after_entry x region))

-- ---- bytes of resources that aren't made yet

-- Whether the resource of a byte has been made (Vulkan, "Object Lifetime").
abbrev pub is_made : Past → Byte → Bool
is_made past c = is_some (made past (resource_at c))

-- In a run of a trace without a fault a piece that is offered writes and copies bytes of resources that were made (Vulkan, "Object Lifetime").
abbrev pub PiecesStayInside : Type 0
PiecesStayInside =
    (t : List Entry) (steps : List Step) (s : Stage) (x : Name) (c : Byte) (w : ByteWrite) → RunOf t steps s → first_fault t ≡ None → IsTrue (is_done (offered s.front.past s.done) x)
    → write_to c (named_piece s.front.past x) ≡ Some w → IsTrue (is_made s.front.past c) × ((d : Byte) → w.source ≡ From d → IsTrue (is_made s.front.past d))

-- So memory may hold anything where no resource was made: a run leads to each memory that is the same where one was (undefined contents of new memory: profile).
abbrev pub NewMemoryHoldsAnything : Type 0
NewMemoryHoldsAnything =
    (t : List Entry) (steps : List Step) (s : Stage) (m n : HostMemory) → first_fault t ≡ None → DirectRun t steps s m
    → ((c : Byte) → IsTrue (is_made s.front.past c) → (m.region c ≡ n.region c) × (m.host c ≡ n.host c)) → ((c : Byte) → is_made s.front.past c ≡ false → n.host c ≡ None)
    → DirectRun t steps s n

-- ---- what such a run is

-- It is an allowed run.
abbrev pub DirectRunsAreRuns : Type 0
DirectRunsAreRuns = (t : List Entry) (steps : List Step) (s : Stage) (m : HostMemory) → DirectRun t steps s m → RunOf t steps s

-- In one of a trace without a fault, each byte that the next entry reads is defined in the world of what has happened, and the host sees its value, whichever atoms its cache takes up or gives back just before (Vulkan, "Host Access to Device Memory Objects").
abbrev pub DirectRunsAreFresh : Type 0
DirectRunsAreFresh =
    (t : List Entry) (steps : List Step) (s : Stage) (m : HostMemory) (b o n : ℕ) (xs : List Entry) (atoms : List ℕ) (k : ℕ) → first_fault t ≡ None → DirectRun t steps s m
    → s.left ≡ entry.Read b o n ∷ xs → k < n
    → (world s.front.past).value (in_buffer b (o + k)) ≡ Some (host_view (memory_after_atoms (entry.Read b o n) atoms m) (in_buffer b (o + k)))

-- So what it reads is what the trace means.
abbrev pub DirectRunsReadTheTrace : Type 0
DirectRunsReadTheTrace =
    (t : List Entry) (steps : List Step) (s : Stage) (m : HostMemory) (b o n : ℕ) (xs : List Entry) (atoms : List ℕ) → first_fault t ≡ None → DirectRun t steps s m → s.left ≡ entry.Read b o n ∷ xs
    → read_in (world s.front.past) s.count (entry.Read b o n) ≡ (s.count, map (λ k. host_view (memory_after_atoms (entry.Read b o n) atoms m) (in_buffer b (o + k))) (below n)) ∷ []

-- Where the cache does nothing by itself just before, that is what the host sees already.
abbrev pub DirectRunsReadMemory : Type 0
DirectRunsReadMemory =
    (t : List Entry) (steps : List Step) (s : Stage) (m : HostMemory) (b o n : ℕ) (xs : List Entry) → first_fault t ≡ None → DirectRun t steps s m → s.left ≡ entry.Read b o n ∷ xs
    → read_in (world s.front.past) s.count (entry.Read b o n) ≡ (s.count, map (λ k. host_view m (in_buffer b (o + k))) (below n)) ∷ []

-- And each byte that a piece writes has the model's value after the piece's node then, where the model defines one.
abbrev pub DirectRunsAreWritten : Type 0
DirectRunsAreWritten =
    (t : List Entry) (steps : List Step) (s : Stage) (m : HostMemory) (x : Name) (c : Byte) (w : ByteWrite) (v : ℕ) → first_fault t ≡ None → DirectRun t steps s m
    → IsTrue (is_done (offered s.front.past s.done) x) → write_to c (named_piece s.front.past x) ≡ Some w → value_before (order t) (suc x.0) c ≡ Some v
    → (memory_after_piece (named_piece s.front.past x) m).region c ≡ v

-- Where nothing may come next, each byte has the value that the trace leaves in it, where the model defines one: in memory, or still dirty in the host's cache.
abbrev pub DirectRunsMeanTheTrace : Type 0
DirectRunsMeanTheTrace =
    (t : List Entry) (steps : List Step) (s : Stage) (m : HostMemory) (c : Byte) (v : ℕ) → first_fault t ≡ None → DirectRun t steps s m → IsOver s → (world (order t)).value c ≡ Some v
    → (m.region c ≡ v) ⊎ (m.host c ≡ Some (Dirty v))
