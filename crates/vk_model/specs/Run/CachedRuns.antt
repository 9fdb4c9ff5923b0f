-- Runs through caches: the host reaches memory that isn't coherent through a cache, and each queue reaches all memory through its own. Bytes are those of resources, so that a move changes none.
use Rattle.std.specs.Prelude.{◌≡◌, ℕ, ◌+◌, ◌*◌, ◌/◌, List, [], ◌∷◌, map, reverse, length, Bool, true, false, not, ◌&&◌, ◌||◌, ◌==◌, nat_lt, if◌then◌else◌, Option, Some, None, option_and_then, slice_get}
use Rattle.std.specs.List.{find, filter, fold}
use Rattle.vk_model.specs.declared.entry.Entry.{Entry}
use Rattle.vk_model.specs.declared.entry.Entry.TheVariants as entry
use Rattle.vk_model.specs.Basics.{holds, among}
use Rattle.vk_model.specs.Trace.Point.{Past}
use Rattle.vk_model.specs.Trace.Objects.{is_cached}
use Rattle.vk_model.specs.World.Bytes.{Byte, in_buffer, in_image, resource_at, same_byte}
use Rattle.vk_model.specs.World.ByteWrites.{ByteWrite, Source, Value, From}
use Rattle.vk_model.specs.World.Effect.{written, reaches}
use Rattle.vk_model.specs.Sync.Node.{Node, Act, Hosts, Waits, Signals, Runs, Depends, nodes}
use Rattle.vk_model.specs.Sync.Seen.{available_by, makes_writes_visible, is_wait}
use Rattle.vk_model.specs.Run.Pieces.{pieces}
use Rattle.vk_model.specs.Run.Runs.{Name, Step, Apply, RunPiece, CopyPart, Stage, Next, start, is_free, touched_by}
use Rattle.vk_model.specs.Run.Caches.{Cell, queue_agent, view, written_back, dropped, loaded, forgotten, with_write}

-- The bytes of all resources, each in memory with what caches hold of it.
abbrev pub Cells : Type 0
Cells = Byte → Cell

-- ---- pieces

-- The node of a number.
abbrev pub numbered : Past → ℕ → Option Node
numbered past k = find (λ n. n.number == k) (nodes past)

-- Piece k of an act; only commands have any.
abbrev pub piece_of : Past → Act → ℕ → Option (List ByteWrite)
piece_of past (Runs c) k = slice_get (pieces past c) k
piece_of past _ k = None

-- The byte writes of a piece by its name.
abbrev pub named_piece : Past → Name → List ByteWrite
named_piece past x = elim (option_and_then (λ n. piece_of past n.act x.1) (numbered past x.0)) [ None ↦ [] | Some ms ↦ ms ]

-- The write of a byte among some, if there is one.
abbrev pub write_to : Byte → List ByteWrite → Option ByteWrite
write_to c ms = find (λ m. same_byte m.to c) ms

-- The value of a source as it is visible to an agent.
abbrev pub source_through : ℕ → Cells → Source → ℕ
source_through a cells (Value v) = v
source_through a cells (From d) = view a (cells d)

-- A byte after a write, if there is one, by an agent that reads and writes through its cache.
abbrev pub after_write : ℕ → Cells → Option ByteWrite → Cell → Cell
after_write a cells None cell = cell
after_write a cells (Some m) cell = with_write a (source_through a cells m.source) cell

-- The bytes after a piece: all its writes at once, from the bytes as they were (Vulkan, "Clear Commands" and "Copy Commands").
abbrev pub after_piece : ℕ → List ByteWrite → Cells → Cells
after_piece a ms cells c = after_write a cells (write_to c ms) (cells c)

-- ---- dependencies, waits and signals

-- Whether an act is neither a command's nor the host's.
abbrev pub is_synchronization : Act → Bool
is_synchronization (Waits s) = true
is_synchronization (Signals s) = true
is_synchronization (Depends r e) = true
is_synchronization _ = false

-- The node of the piece that wrote a byte last, of those that have run, the newest first.
abbrev pub last_writer : Past → List Name → Byte → Option Node
last_writer past done c = option_and_then (λ x. numbered past x.0) (find (λ x. holds (write_to c (named_piece past x)) (λ m. true)) done)

-- Whether a node makes the last write of a byte available, a command's (Vulkan, "Execution and Memory Dependencies" and "Semaphore Signaling").
abbrev pub makes_last_available : Past → List Name → Node → Byte → Bool
makes_last_available past done n c = holds (last_writer past done c) (λ w. available_by (λ b. false) (nodes past) w w.act c n)

-- All kinds of access: TRANSFER_READ, TRANSFER_WRITE, HOST_READ, HOST_WRITE, MEMORY_READ and MEMORY_WRITE (Vulkan, "Access Types").
abbrev pub any_access : ℕ
any_access = 2048 + 4096 + 8192 + 16384 + 32768 + 65536

-- Whether a node makes writes of a byte visible, to whichever accesses: a dependency that has some in its destination, or a wait (Vulkan, "Execution and Memory Dependencies" and "Semaphore Waiting").
abbrev pub makes_byte_visible : Past → Node → Byte → Bool
makes_byte_visible past n c = is_wait n.act || makes_writes_visible (λ b. false) (nodes past) any_access c n n.act

-- A byte when a node happens: in the cache of its queue it is written back where the node makes it available, and then dropped where the node makes it visible (Vulkan, "Execution and Memory Dependencies", on availability and visibility operations).
abbrev pub after_node : Past → List Name → Node → Cells → Cells
after_node past done n cells c =
    let a = queue_agent n.point.queue in
    let back = if makes_last_available past done n c then written_back a (cells c) else cells c in
    if makes_byte_visible past n c then dropped a back else back

-- Whether a node has happened at a stage: its batch was started, and all pieces of commands before it have run (Vulkan, "Execution and Memory Dependencies"; that it happens as soon as it can: profile).
abbrev pub node_happened : Stage → Node → Bool
node_happened s n = nat_lt n.number (length (nodes s.front.past)) && is_free s.front.past s.done n

-- The nodes that happen from one stage to the next, in reference order (profile).
abbrev pub happening : Stage → Stage → List Node
happening s e = filter (λ n. is_synchronization n.act && node_happened e n && not (node_happened s n)) (reverse (nodes e.front.past))

-- The bytes when they have happened.
abbrev pub after_nodes : Stage → Stage → Cells → Cells
after_nodes s e cells = fold (λ cs n. after_node e.front.past e.done n cs) cells (happening s e)

-- ---- host entries

-- Whether a byte of the buffer that an entry accesses lies in one of these atoms of 64 bytes (Vulkan, "Host Access to Device Memory Objects").
abbrev pub in_atoms : Option ℕ → List ℕ → Byte → Bool
in_atoms (Some b) atoms (in_buffer i k) = b == i && among (k / 64) atoms
in_atoms _ atoms c = false

-- A byte that the host's cache holds is written back and dropped, and one that it doesn't hold is loaded (profile).
abbrev pub turned_over : Cell → Cell
turned_over cell = elim (cell.held 0) [ None ↦ loaded 0 cell | Some h ↦ dropped 0 (written_back 0 cell) ]

-- The bytes when the host's cache has taken up or given back some atoms.
abbrev pub after_atoms : Entry → List ℕ → Cells → Cells
after_atoms x atoms cells c = if in_atoms (touched_by x) atoms c then turned_over (cells c) else cells c

-- The host and all four queues do the same with a byte.
abbrev pub in_all_caches : (ℕ → Cell → Cell) → Cell → Cell
in_all_caches change cell = change 4 (change 3 (change 2 (change 1 (change 0 cell))))

-- The host writes a byte: into its cache, or where the memory is coherent into memory (Vulkan, "Host Access to Device Memory Objects").
abbrev pub after_host_write : Bool → Option ℕ → Cell → Cell
after_host_write through None cell = cell
after_host_write true (Some v) cell = with_write 0 v cell
after_host_write false (Some v) cell = record cell { region = v }

-- A byte after an entry that moves these resources. A write, flush or invalidation is of the host's cache; a submit drops the copies of its queue; the beginning of a pass writes back what moves and its end drops the copies of it, in all caches. What an entry ends is read no more (Vulkan, "Host Access to Device Memory Objects" and "Host Write Ordering Guarantees"; passes: VMA, "Defragmentation").
abbrev pub after_host : Past → List ℕ → Entry → Byte → Cell → Cell
after_host past moved (entry.Write b o bytes) c cell = after_host_write (is_cached past b) (written b o bytes c) cell
after_host past moved (entry.Flush b o n) c cell = if is_cached past b && reaches b o n c then written_back 0 cell else cell
after_host past moved (entry.Invalidate b o n) c cell = if is_cached past b && reaches b o n c then forgotten 0 cell else cell
after_host past moved (entry.Submit q bs) c cell = dropped (queue_agent q) cell
after_host past moved (entry.Pass d) c cell = if among (resource_at c) moved then in_all_caches written_back cell else cell
after_host past moved (entry.EndPass d kept lost) c cell = if among (resource_at c) moved then in_all_caches dropped cell else cell
after_host past moved x c cell = cell

-- ---- runs

-- What a cache may do at any time with bytes: write dirty ones back, drop copies, or load what it doesn't hold (profile).
pub data Touch : Type 0 where
  WriteBack : Touch
  Drop : Touch
  Load : Touch

-- A byte when an agent's cache has done so.
abbrev pub touched : Touch → ℕ → Cell → Cell
touched WriteBack a cell = written_back a cell
touched Drop a cell = dropped a cell
touched Load a cell = loaded a cell

-- A step of a run through caches: one of the run, in which a pass that begins or ends moves these resources; or a queue's cache touches the bytes that pass a test.
pub data CachedStep : Type 0 where
  Does : Step → (moved : List ℕ) → CachedStep
  Touches : Touch → (queue : ℕ) → (Byte → Bool) → CachedStep

-- The stage of a run, and its bytes.
pub record CachedStage : Type 0 where
  pub stage : Stage
  pub cells : Cells

-- The bytes after the next entry, or after none.
abbrev pub after_next : Stage → List ℕ → List ℕ → List Entry → Cells → Cells
after_next s atoms moved [] cells = cells
after_next s atoms moved (x ∷ xs) cells = λ c. after_host s.front.past moved x c (after_atoms x atoms cells c)

-- The bytes after a step from one stage to another, before what happens then.
abbrev pub after_step : Stage → Step → List ℕ → Cells → Cells
after_step s (Apply atoms parts) moved cells = after_next s atoms moved s.left cells
after_step s (RunPiece x) moved cells = after_piece (elim (numbered s.front.past x.0) [ None ↦ 0 | Some n ↦ queue_agent n.point.queue ]) (named_piece s.front.past x) cells
after_step s (CopyPart k) moved cells = cells

-- A step that is allowed, and where it leads: to a stage of the run, and to its bytes when the dependencies, waits and signals that can happen have.
abbrev pub CachedNext : CachedStage → CachedStep → CachedStage → Type 0
CachedNext s (Does step moved) e = Next s.stage step e.stage × (e.cells ≡ after_nodes s.stage e.stage (after_step s.stage step moved s.cells))
CachedNext s (Touches touch q test) e = (e.stage ≡ s.stage) × (e.cells ≡ (λ c. if test c then touched touch (queue_agent q) (s.cells c) else s.cells c))

-- An allowed run through caches, step by step (Vulkan, "Execution and Memory Dependencies").
abbrev pub CachedAllowed : CachedStage → List CachedStep → CachedStage → Type 0
CachedAllowed s [] e = e ≡ s
CachedAllowed s (step ∷ steps) e = (mid : CachedStage) × CachedNext s step mid × CachedAllowed mid steps e

-- Where a run of a trace begins, with these bytes in memory: the caches hold nothing.
abbrev pub cached_start : List Entry → (Byte → ℕ) → CachedStage
cached_start t region = record { stage = start t; cells = λ c. record { region = region c; held = λ a. None } }
