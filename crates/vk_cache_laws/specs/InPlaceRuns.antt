-- How a run through caches goes on for a device that keeps bytes in place.
use Rattle.std.specs.Prelude.{◌≡◌, ℕ, ◌<◌, List, [], ◌∷◌, ◌++◌, Bool, false, Some, None, IsTrue}
use Rattle.vk_model.specs.declared.entry.Entry.{Entry}
use Rattle.vk_model.specs.Basics.{among}
use Rattle.vk_model.specs.Sync.Node.{Node}
use Rattle.vk_model.specs.World.Bytes.{Byte}
use Rattle.vk_model.specs.Rules.Table.{first_fault}
use Rattle.vk_model.specs.Run.Runs.{Name, Step, Apply, RunPiece, CopyPart, Stage, start, is_done, offered, may_go, are_atoms, applied, parts_left}
use Rattle.vk_model.specs.Run.CachedRuns.{Cells, numbered, named_piece, Touch}
use Rattle.vk_laws.specs.DirectRuns.{HostMemory, bare_memory, DirectRun, memory_after_piece, memory_after_entry, is_made}
use Rattle.vk_laws.specs.CacheRuns.{CachedRun}
use Rattle.vk_cache_laws.specs.InPlace.{Lag, no_lag, AreTold, IsOfQueues, lag_after_piece, lag_after_nodes, lag_after_entry, lag_after_touch}

-- The steps of a trace lead, through caches of the host and of four queues, to this stage; the newest bytes and the host's cache are these, and memory is behind so. The same steps lead there without caches of queues.
pub record InPlaceRun (t : List Entry) (steps : List Step) (s : Stage) (m : HostMemory) (lag : Lag) : Type 0 where
  pub direct : DirectRun t steps s m
  pub cells : Cells
  pub cached : CachedRun t steps s cells
  pub told : AreTold m lag cells
  pub queues : IsOfQueues lag
  pub new : (c : Byte) → is_made s.front.past c ≡ false → lag c ≡ None

-- A run begins with any values in memory, which is behind nowhere.
abbrev pub InPlaceRunsBegin : Type 0
InPlaceRunsBegin = (t : List Entry) (first : Byte → ℕ) → InPlaceRun t [] (start t) (bare_memory first) no_lag

-- A piece that is offered may run, on a queue of the four: its writes are in place then, memory is behind by them, and catches up as dependencies, waits and signals happen (Vulkan, "Execution and Memory Dependencies").
abbrev pub PiecesGoOnInPlace : Type 0
PiecesGoOnInPlace =
    (t : List Entry) (steps : List Step) (s : Stage) (m : HostMemory) (lag : Lag) (x : Name) (n : Node) → first_fault t ≡ None → InPlaceRun t steps s m lag → IsTrue (is_done (offered s.front.past s.done) x)
    → numbered s.front.past x.0 ≡ Some n → n.point.queue < 4
    → InPlaceRun t (steps ++ RunPiece x ∷ []) (record s { done = x ∷ s.done }) (memory_after_piece (named_piece s.front.past x) m)
    (lag_after_nodes s (record s { done = x ∷ s.done }) (lag_after_piece n.point.queue (named_piece s.front.past x) m lag))

-- The next entry may be applied, with some atoms and parts, and moves some resources where it is of a pass.
abbrev pub EntriesGoOnInPlace : Type 0
EntriesGoOnInPlace =
    (t : List Entry) (steps : List Step) (s : Stage) (m : HostMemory) (lag : Lag) (x : Entry) (xs : List Entry) (atoms : List ℕ) (parts : ℕ) (moved : List ℕ) → first_fault t ≡ None → InPlaceRun t steps s m lag
    → s.left ≡ x ∷ xs → IsTrue (may_go s x) → IsTrue (are_atoms s.front.past x atoms)
    → InPlaceRun t (steps ++ Apply atoms parts ∷ []) (applied s parts x xs) (memory_after_entry s.front.past atoms moved x m) (lag_after_nodes s (applied s parts x xs) (lag_after_entry moved x lag))

-- A part of what an open pass moves may be copied: no byte of a resource changes (VMA, "Defragmentation").
abbrev pub PartsGoOnInPlace : Type 0
PartsGoOnInPlace =
    (t : List Entry) (steps : List Step) (s : Stage) (m : HostMemory) (lag : Lag) (k : ℕ) → first_fault t ≡ None → InPlaceRun t steps s m lag → IsTrue (among k (parts_left s))
    → InPlaceRun t (steps ++ CopyPart k ∷ []) (record s { copied = k ∷ s.copied }) m lag

-- At any stage a queue's cache may touch the bytes that pass a test.
abbrev pub TouchesGoOnInPlace : Type 0
TouchesGoOnInPlace =
    (t : List Entry) (steps : List Step) (s : Stage) (m : HostMemory) (lag : Lag) (touch : Touch) (queue : ℕ) (test : Byte → Bool) → InPlaceRun t steps s m lag
    → InPlaceRun t steps s m (lag_after_touch touch queue test lag)

-- A run of a trace is one of each longer trace.
abbrev pub LongerTracesGoOnInPlace : Type 0
LongerTracesGoOnInPlace =
    (t more : List Entry) (steps : List Step) (s : Stage) (m : HostMemory) (lag : Lag) → InPlaceRun t steps s m lag → InPlaceRun (t ++ more) steps (record s { left = s.left ++ more }) m lag

-- Memory may hold anything where no resource was made: a run of a trace without a fault leads to all bytes that are the same where one was (undefined contents of new memory: profile).
abbrev pub NewBytesHoldAnything : Type 0
NewBytesHoldAnything =
    (t : List Entry) (steps : List Step) (s : Stage) (m n : HostMemory) (lag : Lag) → first_fault t ≡ None → InPlaceRun t steps s m lag
    → ((c : Byte) → IsTrue (is_made s.front.past c) → (m.region c ≡ n.region c) × (m.host c ≡ n.host c)) → ((c : Byte) → is_made s.front.past c ≡ false → n.host c ≡ None)
    → InPlaceRun t steps s n lag

-- Bytes are known one by one.
abbrev pub BytesAreThemselves : Type 0
BytesAreThemselves =
    (t : List Entry) (steps : List Step) (s : Stage) (m n : HostMemory) (lag other : Lag) → InPlaceRun t steps s m lag → ((c : Byte) → (m.region c ≡ n.region c) × (m.host c ≡ n.host c)) → ((c : Byte) → lag c ≡ other c)
    → InPlaceRun t steps s n other
