-- Bytes that are kept in place, with what memory still has of those that a queue's cache holds dirty: so a device may have write-back caches of queues without a second copy of all that is written.
use Rattle.std.specs.Prelude.{◌≡◌, ◌↔◌, ℕ, ◌<◌, List, ◌∷◌, Bool, ◌&&◌, not, ◌==◌, if◌then◌else◌, Option, Some, None, IsTrue}
use Rattle.std.specs.List.{fold}
use Rattle.vk_model.specs.declared.entry.Entry.{Entry}
use Rattle.vk_model.specs.declared.entry.Entry.TheVariants as entry
use Rattle.vk_model.specs.Basics.{among}
use Rattle.vk_model.specs.Trace.Point.{Past}
use Rattle.vk_model.specs.Sync.Node.{Node}
use Rattle.vk_model.specs.World.Bytes.{Byte, resource_at}
use Rattle.vk_model.specs.World.ByteWrites.{ByteWrite}
use Rattle.vk_model.specs.Rules.Table.{first_fault}
use Rattle.vk_model.specs.Run.Caches.{Held, Dirty, Cell, queue_agent}
use Rattle.vk_model.specs.Run.Runs.{Name, Step, Stage, is_done, offered, may_go}
use Rattle.vk_model.specs.Run.CachedRuns.{Cells, numbered, named_piece, write_to, after_piece, after_host, after_atoms, happening, Touch, WriteBack, touched}
use Rattle.vk_laws.specs.DirectRuns.{HostMemory, memory_after_piece, memory_after_entry}
use Rattle.vk_laws.specs.CacheRuns.{CachedRun}
use Rattle.vk_laws.specs.WriteBacks.{frees_byte, is_overtaken, after_nodes_by_starts}

-- Memory is behind by a byte: the cache of this queue holds it dirty, and memory still has this value (Vulkan, "Execution and Memory Dependencies", on availability operations).
pub record Behind : Type 0 where
  pub queue : ℕ
  pub value : ℕ

-- Of each byte whether memory is behind.
abbrev pub Lag : Type 0
Lag = Byte → Option Behind

-- Memory is behind nowhere.
abbrev pub no_lag : Lag
no_lag c = None

-- What memory has of a byte of this newest value.
abbrev pub in_memory : ℕ → Option Behind → ℕ
in_memory value None = value
in_memory value (Some b) = b.value

-- The host's cache holds a byte in two ways alike: not at all, as a copy of some value, or dirty with the same value.
abbrev pub IsAlikeHeld : Option Held → Option Held → Type 0
IsAlikeHeld one other = ((one ≡ None) ↔ (other ≡ None)) × ((v : ℕ) → (one ≡ Some (Dirty v)) ↔ (other ≡ Some (Dirty v)))

-- A byte with its caches, told in place: by its newest value, by whether memory is behind, and by what the host's cache holds. Copies in caches of queues are left open: no read tells them (Vulkan, "Execution and Memory Dependencies", on availability and visibility).
pub record IsTold (value : ℕ) (host : Option Held) (behind : Option Behind) (cell : Cell) : Type 0 where
  pub region : cell.region ≡ in_memory value behind
  pub dirty : (q v : ℕ) → cell.held (queue_agent q) ≡ Some (Dirty v) → (v ≡ value) × (u : ℕ) × (behind ≡ Some (record { queue = q; value = u }))
  pub held : (b : Behind) → behind ≡ Some b → cell.held (queue_agent b.queue) ≡ Some (Dirty value)
  pub alike : IsAlikeHeld host (cell.held 0)

-- All bytes are told so.
abbrev pub AreTold : HostMemory → Lag → Cells → Type 0
AreTold m lag cells = (c : Byte) → IsTold (m.region c) (m.host c) (lag c) (cells c)

-- ---- where memory is behind after a step

-- After a piece of a queue it is behind by each byte that the piece wrote, which memory has as it was.
abbrev pub lag_after_write : ℕ → ℕ → Option ByteWrite → Option Behind → Option Behind
lag_after_write q value None behind = behind
lag_after_write q value (Some w) behind = Some (record { queue = q; value = value })

abbrev pub lag_after_piece : ℕ → List ByteWrite → HostMemory → Lag → Lag
lag_after_piece q ms m lag c = lag_after_write q (m.region c) (write_to c ms) (lag c)

-- Memory catches up with the bytes of a queue that pass a test.
abbrev pub caught_up : ℕ → Bool → Option Behind → Option Behind
caught_up q passes None = None
caught_up q passes (Some b) = if passes && b.queue == q then None else Some b

-- When a dependency, wait or signal happens it does so with what it makes available, but for bytes that a later command has begun to write.
abbrev pub lag_after_node : Past → List Name → Node → Lag → Lag
lag_after_node past done n lag c = caught_up n.point.queue (frees_byte past n c && not (is_overtaken past done n c)) (lag c)

abbrev pub lag_after_nodes : Stage → Stage → Lag → Lag
lag_after_nodes s e lag = fold (λ l n. lag_after_node e.front.past e.done n l) lag (happening s e)

-- The beginning of a pass writes back what it moves, in all caches; no other entry makes memory catch up (VMA, "Defragmentation").
abbrev pub lag_after_entry : List ℕ → Entry → Lag → Lag
lag_after_entry moved (entry.Pass d) lag c = if among (resource_at c) moved then None else lag c
lag_after_entry moved x lag c = lag c

-- A cache that writes bytes back by itself makes memory catch up; one that drops or loads copies doesn't (profile).
abbrev pub lag_after_touch : Touch → ℕ → (Byte → Bool) → Lag → Lag
lag_after_touch WriteBack q test lag c = caught_up q (test c) (lag c)
lag_after_touch touch q test lag c = lag c

-- ---- the laws

-- A piece that is offered in a run of a trace without a fault finds memory nowhere behind in what it copies and writes, so it may run in place: then memory is behind by what it wrote (Vulkan, "Execution and Memory Dependencies", on data hazards).
abbrev pub PiecesRunInPlace : Type 0
PiecesRunInPlace =
    (t : List Entry) (steps : List Step) (s : Stage) (m : HostMemory) (lag : Lag) (cells : Cells) (x : Name) (n : Node) → first_fault t ≡ None → CachedRun t steps s cells → AreTold m lag cells
    → IsTrue (is_done (offered s.front.past s.done) x) → numbered s.front.past x.0 ≡ Some n
    → AreTold (memory_after_piece (named_piece s.front.past x) m) (lag_after_piece n.point.queue (named_piece s.front.past x) m lag) (after_piece (queue_agent n.point.queue) (named_piece s.front.past x) cells)

-- And it finds memory not behind in what it writes.
abbrev pub PiecesFindNoLag : Type 0
PiecesFindNoLag =
    (t : List Entry) (steps : List Step) (s : Stage) (m : HostMemory) (lag : Lag) (cells : Cells) (x : Name) (c : Byte) (w : ByteWrite) → first_fault t ≡ None → CachedRun t steps s cells → AreTold m lag cells
    → IsTrue (is_done (offered s.front.past s.done) x) → write_to c (named_piece s.front.past x) ≡ Some w → lag c ≡ None

-- What happens writes back in place: memory catches up.
abbrev pub NodesHappenInPlace : Type 0
NodesHappenInPlace = (s e : Stage) (m : HostMemory) (lag : Lag) (cells : Cells) → AreTold m lag cells → AreTold m (lag_after_nodes s e lag) (after_nodes_by_starts s e cells)

-- So does what a queue's cache does by itself.
abbrev pub TouchesGoInPlace : Type 0
TouchesGoInPlace =
    (m : HostMemory) (lag : Lag) (cells : Cells) (touch : Touch) (queue : ℕ) (test : Byte → Bool) → AreTold m lag cells
    → AreTold m (lag_after_touch touch queue test lag) (λ c. if test c then touched touch (queue_agent queue) (cells c) else cells c)

-- Memory is behind by caches of the four queues alone (four: profile).
abbrev pub IsOfQueues : Lag → Type 0
IsOfQueues lag = (c : Byte) (b : Behind) → lag c ≡ Some b → b.queue < 4

-- An entry that comes next has its effect in place: memory isn't behind in what the host writes, or writes back (Vulkan, "Host Access to Device Memory Objects"; passes: VMA, "Defragmentation").
abbrev pub EntriesComeInPlace : Type 0
EntriesComeInPlace =
    (t : List Entry) (steps : List Step) (s : Stage) (m : HostMemory) (lag : Lag) (cells : Cells) (x : Entry) (xs : List Entry) (atoms moved : List ℕ) → first_fault t ≡ None → CachedRun t steps s cells → AreTold m lag cells → IsOfQueues lag
    → s.left ≡ x ∷ xs → IsTrue (may_go s x)
    → AreTold (memory_after_entry s.front.past atoms moved x m) (lag_after_entry moved x lag) (λ c. after_host s.front.past moved x c (after_atoms x atoms cells c))
