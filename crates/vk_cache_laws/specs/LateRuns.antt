-- How a run through caches goes on for a device that keeps bytes in place, and of each byte that memory is behind by which command wrote it.
use Rattle.std.specs.Prelude.{◌≡◌, ℕ, ◌<◌, List, [], ◌∷◌, ◌++◌, Bool, ◌&&◌, false, nat_lt, ◌==◌, if◌then◌else◌, Option, Some, None, IsTrue}
use Rattle.std.specs.List.{fold}
use Rattle.vk_model.specs.declared.command.Cmd.{Cmd}
use Rattle.vk_model.specs.declared.entry.Entry.{Entry}
use Rattle.vk_model.specs.declared.entry.Entry.TheVariants as entry
use Rattle.vk_model.specs.Basics.{among}
use Rattle.vk_model.specs.Trace.Point.{Past}
use Rattle.vk_model.specs.Sync.Node.{Node, Runs}
use Rattle.vk_model.specs.World.Bytes.{Byte, resource_at}
use Rattle.vk_model.specs.World.ByteWrites.{ByteWrite}
use Rattle.vk_model.specs.Rules.Table.{first_fault}
use Rattle.vk_model.specs.Run.Runs.{Name, Step, Apply, RunPiece, CopyPart, Stage, start, is_done, offered, may_go, are_atoms, applied, parts_left}
use Rattle.vk_model.specs.Run.CachedRuns.{numbered, named_piece, last_writer, write_to, happening, Touch, WriteBack}
use Rattle.vk_laws.specs.DirectRuns.{HostMemory, bare_memory, memory_after_piece, memory_after_entry, is_made}
use Rattle.vk_laws.specs.WriteBacks.{frees_byte}
use Rattle.vk_cache_laws.specs.InPlace.{Behind, Lag}
use Rattle.vk_cache_laws.specs.InPlaceRuns.{InPlaceRun}

-- Memory is behind by a byte: the command of the node of this number, on this queue, has written its newest value, and memory still has this one (Vulkan, "Execution and Memory Dependencies", on availability operations).
pub record LateByte : Type 0 where
  pub queue : ℕ
  pub node : ℕ
  pub value : ℕ

-- Of each byte whether memory is behind.
abbrev pub Late : Type 0
Late = Byte → Option LateByte

-- The same without the command.
abbrev pub behind_of : Option LateByte → Option Behind
behind_of None = None
behind_of (Some l) = Some (record { queue = l.queue; value = l.value })

abbrev pub lag_of : Late → Lag
lag_of late c = behind_of (late c)

-- ---- where memory is behind after a step

-- After a piece of a node's command it is behind by each byte that the piece wrote, which memory has as it was.
abbrev pub late_after_write : Node → ℕ → Option ByteWrite → Option LateByte → Option LateByte
late_after_write n value None late = late
late_after_write n value (Some w) late = Some (record { queue = n.point.queue; node = n.number; value = value })

abbrev pub late_after_piece : Node → List ByteWrite → HostMemory → Late → Late
late_after_piece n ms m late c = late_after_write n (m.region c) (write_to c ms) (late c)

-- Memory catches up with a byte that an earlier command of a node's queue wrote, where the node frees it.
abbrev pub caught_by : Node → Bool → Option LateByte → Option LateByte
caught_by n frees None = None
caught_by n frees (Some l) = if (frees && nat_lt l.node n.number) && l.queue == n.point.queue then None else Some l

-- When a dependency, wait or signal happens, memory catches up with what it makes available.
abbrev pub late_after_node : Past → Node → Late → Late
late_after_node past n late c = caught_by n (frees_byte past n c) (late c)

abbrev pub late_after_nodes : Stage → Stage → Late → Late
late_after_nodes s e late = fold (λ l n. late_after_node e.front.past n l) late (happening s e)

-- The beginning of a pass writes back what it moves (VMA, "Defragmentation").
abbrev pub late_after_entry : List ℕ → Entry → Late → Late
late_after_entry moved (entry.Pass d) late c = if among (resource_at c) moved then None else late c
late_after_entry moved x late c = late c

-- A cache that writes bytes back by itself makes memory catch up with those of its queue (profile).
abbrev pub caught_all : ℕ → Bool → Option LateByte → Option LateByte
caught_all q passes None = None
caught_all q passes (Some l) = if passes && l.queue == q then None else Some l

abbrev pub late_after_touch : Touch → ℕ → (Byte → Bool) → Late → Late
late_after_touch WriteBack q test late c = caught_all q (test c) (late c)
late_after_touch touch q test late c = late c

-- ---- runs

-- The command that wrote a byte by which memory is behind is the last one that did.
pub record IsWriter (past : Past) (done : List Name) (c : Byte) (l : LateByte) : Type 0 where
  pub node : Node
  pub command : Cmd
  pub last : last_writer past done c ≡ Some node
  pub act : node.act ≡ Runs command
  pub number : node.number ≡ l.node
  pub queue : node.point.queue ≡ l.queue

-- The steps of a trace lead in place to a stage, and of each byte that memory is behind by this command wrote it.
pub record LateRun (t : List Entry) (steps : List Step) (s : Stage) (m : HostMemory) (late : Late) : Type 0 where
  pub run : InPlaceRun t steps s m (lag_of late)
  pub writers : (c : Byte) (l : LateByte) → late c ≡ Some l → IsWriter s.front.past s.done c l

-- A run begins with any values in memory, which is behind nowhere.
abbrev pub LateRunsBegin : Type 0
LateRunsBegin = (t : List Entry) (first : Byte → ℕ) → LateRun t [] (start t) (bare_memory first) (λ c. None)

-- A piece that is offered may run, on a queue of the four: its writes are in place then, memory is behind by them, and catches up as dependencies, waits and signals happen (Vulkan, "Execution and Memory Dependencies").
abbrev pub PiecesGoOnLate : Type 0
PiecesGoOnLate =
    (t : List Entry) (steps : List Step) (s : Stage) (m : HostMemory) (late : Late) (x : Name) (n : Node) → first_fault t ≡ None → LateRun t steps s m late → IsTrue (is_done (offered s.front.past s.done) x)
    → numbered s.front.past x.0 ≡ Some n → n.point.queue < 4
    → LateRun t (steps ++ RunPiece x ∷ []) (record s { done = x ∷ s.done }) (memory_after_piece (named_piece s.front.past x) m)
    (late_after_nodes s (record s { done = x ∷ s.done }) (late_after_piece n (named_piece s.front.past x) m late))

-- The next entry may be applied, with some atoms and parts, and moves some resources where it is of a pass.
abbrev pub EntriesGoOnLate : Type 0
EntriesGoOnLate =
    (t : List Entry) (steps : List Step) (s : Stage) (m : HostMemory) (late : Late) (x : Entry) (xs : List Entry) (atoms : List ℕ) (parts : ℕ) (moved : List ℕ) → first_fault t ≡ None → LateRun t steps s m late
    → s.left ≡ x ∷ xs → IsTrue (may_go s x) → IsTrue (are_atoms s.front.past x atoms)
    → LateRun t (steps ++ Apply atoms parts ∷ []) (applied s parts x xs) (memory_after_entry s.front.past atoms moved x m) (late_after_nodes s (applied s parts x xs) (late_after_entry moved x late))

-- A part of what an open pass moves may be copied: no byte of a resource changes (VMA, "Defragmentation").
abbrev pub PartsGoOnLate : Type 0
PartsGoOnLate =
    (t : List Entry) (steps : List Step) (s : Stage) (m : HostMemory) (late : Late) (k : ℕ) → first_fault t ≡ None → LateRun t steps s m late → IsTrue (among k (parts_left s))
    → LateRun t (steps ++ CopyPart k ∷ []) (record s { copied = k ∷ s.copied }) m late

-- At any stage a queue's cache may touch the bytes that pass a test.
abbrev pub TouchesGoOnLate : Type 0
TouchesGoOnLate =
    (t : List Entry) (steps : List Step) (s : Stage) (m : HostMemory) (late : Late) (touch : Touch) (queue : ℕ) (test : Byte → Bool) → LateRun t steps s m late
    → LateRun t steps s m (late_after_touch touch queue test late)

-- A run of a trace is one of each longer trace.
abbrev pub LongerTracesGoOnLate : Type 0
LongerTracesGoOnLate =
    (t more : List Entry) (steps : List Step) (s : Stage) (m : HostMemory) (late : Late) → LateRun t steps s m late → LateRun (t ++ more) steps (record s { left = s.left ++ more }) m late

-- Memory may hold anything where no resource was made: a run of a trace without a fault leads to all bytes that are the same where one was (undefined contents of new memory: profile).
abbrev pub NewBytesAreNotLate : Type 0
NewBytesAreNotLate =
    (t : List Entry) (steps : List Step) (s : Stage) (m n : HostMemory) (late : Late) → first_fault t ≡ None → LateRun t steps s m late
    → ((c : Byte) → IsTrue (is_made s.front.past c) → (m.region c ≡ n.region c) × (m.host c ≡ n.host c)) → ((c : Byte) → is_made s.front.past c ≡ false → n.host c ≡ None)
    → LateRun t steps s n late

-- Bytes are known one by one.
abbrev pub LateBytesAreThemselves : Type 0
LateBytesAreThemselves =
    (t : List Entry) (steps : List Step) (s : Stage) (m n : HostMemory) (late other : Late) → LateRun t steps s m late → ((c : Byte) → (m.region c ≡ n.region c) × (m.host c ≡ n.host c)) → ((c : Byte) → late c ≡ other c)
    → LateRun t steps s n other
