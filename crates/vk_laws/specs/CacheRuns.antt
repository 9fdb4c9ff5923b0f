-- How a run through caches goes on, for a device whose queues each have a cache: by its steps and its bytes alone.
use Rattle.std.specs.Prelude.{◌≡◌, ◌⊎◌, ℕ, suc, ◌+◌, List, [], ◌∷◌, ◌++◌, map, Bool, false, if◌then◌else◌, Some, None, IsTrue}
use Rattle.vk_model.specs.declared.entry.Entry.{Entry}
use Rattle.vk_model.specs.declared.entry.Entry.TheVariants as entry
use Rattle.vk_model.specs.Basics.{below}
use Rattle.vk_model.specs.World.Bytes.{Byte, in_buffer}
use Rattle.vk_model.specs.World.ByteWrites.{ByteWrite}
use Rattle.vk_model.specs.World.Effect.{world}
use Rattle.vk_model.specs.World.Meaning.{read_in}
use Rattle.vk_model.specs.Trace.Order.{order}
use Rattle.vk_model.specs.Sync.Node.{Node}
use Rattle.vk_model.specs.Rules.Table.{first_fault}
use Rattle.vk_model.specs.Run.Caches.{Dirty, queue_agent, view}
use Rattle.vk_model.specs.Run.Runs.{Name, Step, RunPiece, Stage, start, Next}
use Rattle.vk_model.specs.Run.CachedRuns.{Cells, numbered, named_piece, write_to, after_atoms, after_step, Touch, touched, CachedStep}
use Rattle.vk_laws.specs.TraceBytes.{value_before}
use Rattle.vk_laws.specs.DefinedRuns.{RunOf, IsOver}
use Rattle.vk_laws.specs.CachedRuns.{CachedRunOf, steps_of}
use Rattle.vk_laws.specs.DirectRuns.{is_made}
use Rattle.vk_laws.specs.WriteBacks.{after_nodes_by_starts}

-- The steps of a trace lead to this stage and these bytes: with what caches do between them they are an allowed run through caches, from some first values.
pub record CachedRun (t : List Entry) (steps : List Step) (s : Stage) (cells : Cells) : Type 0 where
  pub first : Byte → ℕ
  pub cached_steps : List CachedStep
  pub run : CachedRunOf t first cached_steps (record { stage = s; cells = cells })
  pub same_steps : steps_of cached_steps ≡ steps

-- Bytes of which no cache holds anything.
abbrev pub bare_cells : (Byte → ℕ) → Cells
bare_cells first c = record { region = first c; held = λ a. None }

-- ---- a run goes on

-- A run begins with any values in memory, and with empty caches.
abbrev pub CachedRunsBegin : Type 0
CachedRunsBegin = (t : List Entry) (first : Byte → ℕ) → CachedRun t [] (start t) (bare_cells first)

-- In a run of a trace without a fault, a step that is allowed may be made: a piece, the next entry, or a part of a pass. It has its effect, and then the dependencies, waits and signals that can happen write back and drop what they do by which commands have started.
abbrev pub CachedStepsGoOn : Type 0
CachedStepsGoOn =
    (t : List Entry) (steps : List Step) (s e : Stage) (cells : Cells) (step : Step) (moved : List ℕ) → first_fault t ≡ None → CachedRun t steps s cells → Next s step e
    → CachedRun t (steps ++ step ∷ []) e (after_nodes_by_starts s e (after_step s step moved cells))

-- Nothing happens where no batch is started and no piece runs, as when a part of a pass is copied.
abbrev pub NothingHappensAlone : Type 0
NothingHappensAlone = (s e : Stage) (cells : Cells) → e.front ≡ s.front → e.done ≡ s.done → after_nodes_by_starts s e cells ≡ cells

-- At any stage a queue's cache may touch the bytes that pass a test.
abbrev pub TouchesGoOn : Type 0
TouchesGoOn =
    (t : List Entry) (steps : List Step) (s : Stage) (cells : Cells) (touch : Touch) (queue : ℕ) (test : Byte → Bool) → CachedRun t steps s cells
    → CachedRun t steps s (λ c. if test c then touched touch (queue_agent queue) (cells c) else cells c)

-- A run of a trace is a run of each longer one.
abbrev pub LongerTracesCarryOn : Type 0
LongerTracesCarryOn = (t more : List Entry) (steps : List Step) (s : Stage) (cells : Cells) → CachedRun t steps s cells → CachedRun (t ++ more) steps (record s { left = s.left ++ more }) cells

-- Bytes are known by what is in memory and what each cache holds.
abbrev pub CellsAreTheirBytes : Type 0
CellsAreTheirBytes =
    (t : List Entry) (steps : List Step) (s : Stage) (cells other : Cells) → CachedRun t steps s cells → ((c : Byte) → (cells c).region ≡ (other c).region) → ((c : Byte) (a : ℕ) → (cells c).held a ≡ (other c).held a)
    → CachedRun t steps s other

-- Memory may hold anything where no resource was made: a run of a trace without a fault leads to all bytes that are the same where one was, and of which no cache holds anything elsewhere (undefined contents of new memory: profile).
abbrev pub NewCellsHoldAnything : Type 0
NewCellsHoldAnything =
    (t : List Entry) (steps : List Step) (s : Stage) (cells other : Cells) → first_fault t ≡ None → CachedRun t steps s cells → ((c : Byte) → IsTrue (is_made s.front.past c) → cells c ≡ other c)
    → ((c : Byte) (a : ℕ) → is_made s.front.past c ≡ false → (other c).held a ≡ None) → CachedRun t steps s other

-- ---- what such a run is

-- It is an allowed run.
abbrev pub CachedRunsAreOfTheTrace : Type 0
CachedRunsAreOfTheTrace = (t : List Entry) (steps : List Step) (s : Stage) (cells : Cells) → CachedRun t steps s cells → RunOf t steps s

-- In one of a trace without a fault, what the next entry reads is what the trace means, whichever atoms the host's cache takes up or gives back just before (Vulkan, "Host Access to Device Memory Objects").
abbrev pub CachedRunsReadTheTrace : Type 0
CachedRunsReadTheTrace =
    (t : List Entry) (steps : List Step) (s : Stage) (cells : Cells) (b o n : ℕ) (xs : List Entry) (atoms : List ℕ) → first_fault t ≡ None → CachedRun t steps s cells → s.left ≡ entry.Read b o n ∷ xs
    → read_in (world s.front.past) s.count (entry.Read b o n) ≡ (s.count, map (λ k. view 0 (after_atoms (entry.Read b o n) atoms cells (in_buffer b (o + k)))) (below n)) ∷ []

-- And of each byte that a piece writes its queue sees the model's value after the piece's node then, where the model defines one.
abbrev pub QueuesSeeWhatTheyWrote : Type 0
QueuesSeeWhatTheyWrote =
    (t : List Entry) (steps : List Step) (s e : Stage) (cells : Cells) (x : Name) (n : Node) (moved : List ℕ) (c : Byte) (w : ByteWrite) (v : ℕ) → first_fault t ≡ None → CachedRun t steps s cells → Next s (RunPiece x) e
    → numbered s.front.past x.0 ≡ Some n → write_to c (named_piece s.front.past x) ≡ Some w → value_before (order t) (suc x.0) c ≡ Some v
    → view (queue_agent n.point.queue) (after_nodes_by_starts s e (after_step s (RunPiece x) moved cells) c) ≡ v

-- Where nothing may come next, each byte has the value that the trace leaves in it, where the model defines one: in memory, or still dirty in a cache.
abbrev pub CachedRunsLeaveTheMeaning : Type 0
CachedRunsLeaveTheMeaning =
    (t : List Entry) (steps : List Step) (s : Stage) (cells : Cells) (c : Byte) (v : ℕ) → first_fault t ≡ None → CachedRun t steps s cells → IsOver s → (world (order t)).value c ≡ Some v
    → ((cells c).region ≡ v) ⊎ (a : ℕ) × ((cells c).held a ≡ Some (Dirty v))
