-- The runs of a trace that the rules allow: entries in order, pieces of commands in any order that what comes before leaves.
use Rattle.std.specs.Prelude.{◌≡◌, ℕ, ◌+◌, ◌/◌, List, [], ◌∷◌, map, reverse, length, Bool, true, false, not, ◌&&◌, ◌||◌, ◌==◌, nat_lt, if◌then◌else◌, Option, Some, None, IsTrue}
use Rattle.std.specs.List.{flat_map, filter, list_any, list_all}
use Rattle.vk_model.specs.declared.entry.Entry.{Entry}
use Rattle.vk_model.specs.declared.entry.Entry.TheVariants as entry
use Rattle.vk_model.specs.Basics.{below, among}
use Rattle.vk_model.specs.Trace.Point.{Past}
use Rattle.vk_model.specs.Trace.Objects.{is_cached}
use Rattle.vk_model.specs.Trace.Order.{Front, after_entry}
use Rattle.vk_model.specs.World.ByteWrites.{buffer_size}
use Rattle.vk_model.specs.Sync.Node.{Node, Act, Runs, nodes}
use Rattle.vk_model.specs.Sync.Before.{before}
use Rattle.vk_model.specs.Run.Pieces.{pieces}

-- A piece, by the number of its command's node and its place among the command's pieces.
abbrev pub Name : Type 0
Name = ℕ × ℕ

-- Whether two names are equal.
abbrev pub same_name : Name → Name → Bool
same_name x y = x.0 == y.0 && x.1 == y.1

-- Whether a piece has run.
abbrev pub is_done : List Name → Name → Bool
is_done done x = list_any (same_name x) done

-- The pieces of a node; only commands have any.
abbrev pub node_pieces : Past → Node → Act → List Name
node_pieces past n (Runs c) = map (λ k. (n.number, k)) (below (length (pieces past c)))
node_pieces past n _ = []

-- Whether all pieces of commands before node n have run.
abbrev pub is_free : Past → List Name → Node → Bool
is_free past done n = list_all (λ m. not (before (nodes past) m n) || list_all (is_done done) (node_pieces past m m.act)) (nodes past)

-- The pieces that may run next, in reference order: each once, after all pieces of commands before its own (Vulkan, "Execution and Memory Dependencies" and "Implicit Synchronization Guarantees").
abbrev pub offered : Past → List Name → List Name
offered past done = flat_map (λ n. if is_free past done n then filter (λ x. not (is_done done x)) (node_pieces past n n.act) else []) (reverse (nodes past))

-- A step of a run: the next entry, with the atoms of its buffer that the host's cache writes back, drops or loads just before, and, where it begins a pass, how many parts of what moves are to be copied; a piece; or, inside a pass, part k of what moves (Vulkan, "Host Access to Device Memory Objects"; VMA, "Defragmentation").
pub data Step : Type 0 where
  Apply : (atoms : List ℕ) (parts : ℕ) → Step
  RunPiece : Name → Step
  CopyPart : ℕ → Step

-- The stage of a run: the batches started and those that wait, the pieces that have run, how many parts the open pass has, 0 where none is open, and which of them are copied, the entries to come, and how many have been applied.
pub record Stage : Type 0 where
  pub front : Front
  pub done : List Name
  pub parts : ℕ
  pub copied : List ℕ
  pub left : List Entry
  pub count : ℕ

-- Where a run of a trace begins.
abbrev pub start : List Entry → Stage
start t = record { front = record { past = []; waiting = [] }; done = []; parts = 0; copied = []; left = t; count = 0 }

-- Whether an entry is a wait of the host.
abbrev pub is_host_wait : Entry → Bool
is_host_wait (entry.Wait ws) = true
is_host_wait _ = false

-- The past when an entry comes next.
abbrev pub past_with : Stage → Entry → Past
past_with s x = (after_entry s.count x s.front).past

-- Whether the next entry may be applied: at once, and a wait when all pieces of commands before it have run (Vulkan, "Semaphores", on `vkWaitSemaphores`).
abbrev pub may_go : Stage → Entry → Bool
may_go s x = not (is_host_wait x) || list_all (λ n. not (n.point.entry == s.count) || is_free (past_with s x) s.done n) (nodes (past_with s x))

-- The buffer that the host accesses by an entry through its cache.
abbrev pub touched_by : Entry → Option ℕ
touched_by (entry.Write b o bytes) = Some b
touched_by (entry.Read b o n) = Some b
touched_by (entry.Flush b o n) = Some b
touched_by (entry.Invalidate b o n) = Some b
touched_by _ = None

-- How many atoms of 64 bytes the next entry's buffer has in the host's cache; 0 where the entry accesses none (Vulkan, "Host Access to Device Memory Objects"; 64: profile).
abbrev pub atom_count : Past → Entry → ℕ
atom_count past x = elim (touched_by x) [ None ↦ 0 | Some b ↦ if is_cached past b then (buffer_size past b + 63) / 64 else 0 ]

-- Whether these are atoms of the buffer that an entry accesses.
abbrev pub are_atoms : Past → Entry → List ℕ → Bool
are_atoms past x atoms = list_all (λ k. nat_lt k (atom_count past x)) atoms

-- The stage when an entry has come, with the batches that could be started then.
abbrev pub entered : Stage → Entry → List Entry → Stage
entered s x xs = record s { front = after_entry s.count x s.front; left = xs; count = s.count + 1 }

-- The parts to copy after an entry: so many when a pass begins, none when it has ended (VMA, "Defragmentation").
abbrev pub with_parts : ℕ → Entry → Stage → Stage
with_parts n (entry.Pass d) s = record s { parts = n; copied = [] }
with_parts n (entry.EndPass d kept lost) s = record s { parts = 0; copied = [] }
with_parts n x s = s

-- The stage of a run when an entry has been applied.
abbrev pub applied : Stage → ℕ → Entry → List Entry → Stage
applied s parts x xs = with_parts parts x (entered s x xs)

-- The next entry may be applied, with these atoms touched and so many parts where it begins a pass, and leads to a stage; how many parts there are depends on where the resources of the pool are.
abbrev pub Applies : Stage → List ℕ → ℕ → List Entry → Stage → Type 0
Applies s atoms parts [] e = ⊥
Applies s atoms parts (x ∷ xs) e = IsTrue (may_go s x) × IsTrue (are_atoms s.front.past x atoms) × (e ≡ applied s parts x xs)

-- ---- runs

-- The parts of the open pass that aren't copied; none outside a pass (VMA, "Defragmentation"; parts of 4,096 bytes: profile).
abbrev pub parts_left : Stage → List ℕ
parts_left s = filter (λ k. not (among k s.copied)) (below s.parts)

-- A step that is allowed at a stage, and where it leads.
abbrev pub Next : Stage → Step → Stage → Type 0
Next s (Apply atoms parts) e = Applies s atoms parts s.left e
Next s (RunPiece n) e = IsTrue (is_done (offered s.front.past s.done) n) × (e ≡ record s { done = n ∷ s.done })
Next s (CopyPart k) e = IsTrue (among k (parts_left s)) × (e ≡ record s { copied = k ∷ s.copied })

-- An allowed run from a stage to a stage, step by step (Vulkan, "Execution and Memory Dependencies").
abbrev pub Allowed : Stage → List Step → Stage → Type 0
Allowed s [] e = e ≡ s
Allowed s (step ∷ steps) e = (mid : Stage) × Next s step mid × Allowed mid steps e
