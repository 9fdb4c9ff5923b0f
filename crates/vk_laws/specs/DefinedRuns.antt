-- The allowed runs of the definitions as runs of the machine.
use Rattle.std.specs.Prelude.{◌≡◌, ◌⊎◌, ◌↔◌, ℕ, suc, ◌<◌, List, [], ◌∷◌, ◌++◌, length, Bool, true, false, not, ◌||◌, nat_lt, Option, Some, None, IsTrue, Contains, slice_get}
use Rattle.std.specs.List.{filter, list_any}
use Rattle.vk_model.specs.declared.command.Cmd.{Cmd}
use Rattle.vk_model.specs.declared.entry.Entry.{Entry}
use Rattle.vk_model.specs.declared.entry.Entry.TheVariants as entry
use Rattle.vk_model.specs.Basics.{holds}
use Rattle.vk_model.specs.World.Bytes.{Byte}
use Rattle.vk_model.specs.World.ByteWrites.{Value, From}
use Rattle.vk_model.specs.Trace.Point.{Past}
use Rattle.vk_model.specs.Trace.Order.{order_from, order}
use Rattle.vk_model.specs.World.Effect.{world}
use Rattle.vk_model.specs.Sync.Node.{Node, Act, Hosts, Runs, nodes}
use Rattle.vk_model.specs.Sync.Edge.{is_host}
use Rattle.vk_model.specs.Rules.Table.{first_fault}
use Rattle.vk_model.specs.Run.Pieces.{pieces}
use Rattle.vk_model.specs.Run.CachedRuns.{numbered, named_piece}
use Rattle.vk_model.specs.Run.Runs.{Name, is_done, offered, Step, Apply, RunPiece, CopyPart, Stage, start, may_go, Allowed}
use Rattle.vk_laws.specs.Machine.{IsIn, Task, Put, Puts, Unknown, TraceAccesses, Reads, Conflict, MayRun, IsAllowed, latest}
use Rattle.vk_laws.specs.Growth.{IsEager}
use Rattle.vk_laws.specs.Trace.{accesses}
use Rattle.vk_laws.specs.Tasks.{node_at, accesses_of}
use Rattle.vk_laws.specs.TraceBytes.{value_before}

-- Whether a task is an event: neither a command's piece nor a host entry.
abbrev pub is_event : Past → Task → Bool
is_event all u = holds (node_at all u.node) (λ n. not (accesses n.act))

-- The task of a piece.
abbrev pub piece_task : Name → Task
piece_task x = record { node = x.0; index = x.1 }

-- The task of the entry that comes next at a stage: its node is the next one.
abbrev pub entry_task : Stage → Task
entry_task s = record { node = length (nodes s.front.past); index = 0 }

-- The tasks after a step, the newest first: a part of a pass that is copied is none.
abbrev pub with_step : Stage → Step → List Task → List Task
with_step s (Apply atoms parts) done = entry_task s ∷ done
with_step s (RunPiece x) done = piece_task x ∷ done
with_step s (CopyPart k) done = done

-- The pieces and host entries that an allowed run has done after others, the newest first.
abbrev pub done_by : (s : Stage) (steps : List Step) (e : Stage) → Allowed s steps e → List Task → List Task
done_by s [] e run done = done
done_by s (step ∷ steps) e run done = done_by run.0 steps e run.2 (with_step s step done)

-- The value of a byte after a write of this to it, if any, from the values before it; for a write of an unknown value, 0.
abbrev pub stored : Option Put → (Byte → ℕ) → Byte → ℕ
stored None bytes c = bytes c
stored (Some (Puts (Value v))) bytes c = v
stored (Some (Puts (From d))) bytes c = bytes d
stored (Some Unknown) bytes c = 0

-- The bytes after tasks, the newest first, on one memory that held these at first.
abbrev pub bytes_after : TraceAccesses → (Byte → ℕ) → List Task → Byte → ℕ
bytes_after tr first [] c = first c
bytes_after tr first (u ∷ done) c = stored (tr.write_of u c) (bytes_after tr first done) c

-- Whether a piece has run, or the entry of a host entry's node has been applied.
abbrev pub act_happened : Stage → Task → Node → Act → Bool
act_happened s u n (Runs c) = is_done s.done (u.node, u.index)
act_happened s u n (Hosts x) = nat_lt n.point.entry s.count
act_happened s u n _ = false

-- Whether a piece or host entry has happened at a stage.
abbrev pub has_happened : Past → Stage → Task → Bool
has_happened all s u = holds (node_at all u.node) (λ n. act_happened s u n n.act)

-- A piece or host entry that may come next at a stage: a piece that is offered, or the next entry if it may be applied.
pub data MayCome (s : Stage) : Task → Type 0 where
  Offers : (x : Name) → IsTrue (is_done (offered s.front.past s.done) x) → MayCome s (piece_task x)
  Enters : (x : Entry) (xs : List Entry) → s.left ≡ x ∷ xs → IsTrue (may_go s x) → MayCome s (entry_task s)

-- Whether a task is a host entry, or a piece of a batch that was started: the pieces of one that waits still aren't asked about.
abbrev pub has_come : Past → Stage → Task → Bool
has_come all s u = nat_lt u.node (length (nodes s.front.past)) || holds (node_at all u.node) (λ n. is_host n.act)

-- Tasks done in an allowed order, as a stage has them: the pieces that have run, the entries that have been applied, and each event that could happen. What may come next at the stage may come next in the machine, and of the host entries and the pieces of batches that were started nothing else may.
pub record Matches (all : Past) (s : Stage) (done : List Task) : Type 0 where
  pub allowed : IsAllowed (accesses_of all) done
  pub happened : (u : Task) → IsTrue ((accesses_of all).has u) → is_event all u ≡ false → IsIn u done ↔ IsTrue (has_happened all s u)
  pub eager : IsEager (accesses_of all) (is_event all) done
  pub next : (u : Task) → MayCome s u → MayRun (accesses_of all) done u
  pub only : (u : Task) → is_event all u ≡ false → IsTrue (has_come all s u) → MayRun (accesses_of all) done u → MayCome s u

-- A run from a trace's start to a stage that the definitions allow.
abbrev pub RunOf : List Entry → List Step → Stage → Type 0
RunOf t steps e = Allowed (start t) steps e

-- The pieces and host entries of a run, the newest first.
abbrev pub tasks_of : (t : List Entry) (steps : List Step) (e : Stage) → RunOf t steps e → List Task
tasks_of t steps e run = done_by (start t) steps e run []

-- Each allowed run of a trace without a fault is an allowed run of the machine, with events between its steps: without them these are its pieces and entries in their order.
abbrev pub DefinedRunsAreAllowed : Type 0
DefinedRunsAreAllowed =
    (t : List Entry) (steps : List Step) (e : Stage) (run : RunOf t steps e) → first_fault t ≡ None
    → (done : List Task) × Matches (order t) e done × (filter (λ u. not (is_event (order t) u)) done ≡ tasks_of t steps e run)

-- ---- what the law of the machine says of them

-- When a piece or host entry may come next, of those whose accesses conflict with its own the earlier ones have happened, and the later ones haven't.
abbrev pub DefinedRunsAreSettled : Type 0
DefinedRunsAreSettled =
    (t : List Entry) (steps : List Step) (e : Stage) (next other : Task) (c : Byte) → RunOf t steps e → first_fault t ≡ None → MayCome e next
    → (other.node < next.node → Conflict (accesses_of (order t)) other next c → IsTrue (has_happened (order t) e other))
    × (next.node < other.node → Conflict (accesses_of (order t)) next other c → has_happened (order t) e other ≡ false)

-- When a piece or host entry may come next, each byte that it reads has the model's value before its node, where the model defines one: the run's pieces and entries took effect one after another on one memory, whatever it held at first.
abbrev pub DefinedRunsAreFresh : Type 0
DefinedRunsAreFresh =
    (t : List Entry) (steps : List Step) (e : Stage) (run : RunOf t steps e) (first : Byte → ℕ) (next : Task) (c : Byte) (v : ℕ) → first_fault t ≡ None → MayCome e next
    → Reads (accesses_of (order t)) next c → value_before (order t) next.node c ≡ Some v → bytes_after (accesses_of (order t)) first (tasks_of t steps e run) c ≡ v

-- And at any stage each byte that was written has the model's value after the node of its last write, where the model defines one.
abbrev pub DefinedRunsAreWritten : Type 0
DefinedRunsAreWritten =
    (t : List Entry) (steps : List Step) (e : Stage) (run : RunOf t steps e) (first : Byte → ℕ) (writer : Task) (c : Byte) (v : ℕ) → first_fault t ≡ None
    → latest (accesses_of (order t)) c (tasks_of t steps e run) ≡ Some writer → value_before (order t) (suc writer.node) c ≡ Some v
    → bytes_after (accesses_of (order t)) first (tasks_of t steps e run) c ≡ v

-- ---- the end of a run

-- Nothing may come next at a stage.
abbrev pub IsOver : Stage → Type 0
IsOver s = (u : Task) → MayCome s u → ⊥

-- A run of a trace without a fault is never stuck: where nothing may come next, no entry is left, and each piece and host entry of the trace has happened.
abbrev pub DefinedRunsEnd : Type 0
DefinedRunsEnd =
    (t : List Entry) (steps : List Step) (e : Stage) → RunOf t steps e → first_fault t ≡ None → IsOver e
    → (e.left ≡ []) × ((u : Task) → IsTrue ((accesses_of (order t)).has u) → is_event (order t) u ≡ false → IsTrue (has_happened (order t) e u))

-- And each byte has the value that the trace leaves in it, where the model defines one.
abbrev pub DefinedRunsMeanTheTrace : Type 0
DefinedRunsMeanTheTrace =
    (t : List Entry) (steps : List Step) (e : Stage) (run : RunOf t steps e) (first : Byte → ℕ) (c : Byte) (v : ℕ) → first_fault t ≡ None → IsOver e
    → (world (order t)).value c ≡ Some v → bytes_after (accesses_of (order t)) first (tasks_of t steps e run) c ≡ v

-- ---- where a run is in its trace

-- Whether an entry begins a pass (VMA, "Defragmentation").
abbrev pub begins_pass : Entry → Bool
begins_pass (entry.Pass d) = true
begins_pass _ = false

-- A stage follows its trace: it comes after entries that were applied and before those that are left: it has what those applied lead to in reference order, and where none of them began a pass, none is open.
pub record FollowsTrace (t : List Entry) (s : Stage) : Type 0 where
  pub gone : List Entry
  pub whole : t ≡ gone ++ s.left
  pub counted : s.count ≡ length gone
  pub front : s.front ≡ order_from 0 (record { past = []; waiting = [] }) gone
  pub no_pass : list_any begins_pass gone ≡ false → (s.parts ≡ 0) × (s.copied ≡ [])

-- The stage of each allowed run does.
abbrev pub DefinedRunsFollow : Type 0
DefinedRunsFollow = (t : List Entry) (steps : List Step) (s : Stage) → RunOf t steps s → FollowsTrace t s

-- In a run of a trace without a fault, while an entry is left it may be applied, or some piece is offered.
abbrev pub DefinedRunsGoOn : Type 0
DefinedRunsGoOn =
    (t : List Entry) (steps : List Step) (s : Stage) (x : Entry) (xs : List Entry) → RunOf t steps s → first_fault t ≡ None → s.left ≡ x ∷ xs
    → IsTrue (may_go s x) ⊎ (y : Name) × IsTrue (is_done (offered s.front.past s.done) y)

-- ---- what is offered

-- A name of a piece of a command of a past, and so a list of byte writes.
pub record IsPiece (past : Past) (x : Name) : Type 0 where
  pub node : Node
  pub command : Cmd
  pub present : numbered past x.0 ≡ Some node
  pub act : node.act ≡ Runs command
  pub content : slice_get (pieces past command) x.1 ≡ Some (named_piece past x)

-- What is offered is one, and hasn't run.
abbrev pub OfferedArePieces : Type 0
OfferedArePieces = (past : Past) (done : List Name) (x : Name) → IsTrue (is_done (offered past done) x) → IsPiece past x × (is_done done x ≡ false)

-- The pieces of the nodes of a past below a number have run.
abbrev pub HaveRun : Past → List Name → ℕ → Type 0
HaveRun past done k = (n : Node) (c : Cmd) (j : ℕ) → Contains (nodes past) n → n.number < k → n.act ≡ Runs c → j < length (pieces past c) → IsTrue (is_done done (n.number, j))

-- Where those before its node have run, a piece that hasn't is offered: so pieces may run in reference order.
abbrev pub EarliestAreOffered : Type 0
EarliestAreOffered =
    (past : Past) (done : List Name) (n : Node) (c : Cmd) (j : ℕ) → Contains (nodes past) n → n.act ≡ Runs c → j < length (pieces past c) → HaveRun past done n.number
    → is_done done (n.number, j) ≡ false → IsTrue (is_done (offered past done) (n.number, j))
