-- The runs of the definitions through caches as runs of the machine.
use Rattle.std.specs.Prelude.{◌≡◌, ◌⊎◌, ℕ, suc, List, [], ◌∷◌, Some, None, IsTrue, false, not, ◌↔◌}
use Rattle.std.specs.List.{filter}
use Rattle.vk_model.specs.declared.entry.Entry.{Entry}
use Rattle.vk_model.specs.World.Bytes.{Byte}
use Rattle.vk_model.specs.Trace.Point.{Past}
use Rattle.vk_model.specs.Trace.Order.{order}
use Rattle.vk_model.specs.Rules.Table.{first_fault}
use Rattle.vk_model.specs.World.Effect.{world}
use Rattle.vk_model.specs.Run.Runs.{Step, may_go}
use Rattle.vk_model.specs.Run.Caches.{Dirty, view}
use Rattle.vk_model.specs.Run.CachedRuns.{CachedStep, Does, Touches, CachedStage, CachedAllowed, cached_start, after_atoms}
use Rattle.vk_laws.specs.Machine.{Task, IsIn, MayRun, Reads, latest}
use Rattle.vk_laws.specs.Caches.{Reached}
use Rattle.vk_laws.specs.Discards.{with_discards}
use Rattle.vk_laws.specs.TraceBytes.{value_before}
use Rattle.vk_laws.specs.TraceCaches.{caching_of}
use Rattle.vk_laws.specs.DefinedRuns.{is_event, entry_task, with_step, has_happened, MayCome, RunOf, IsOver}

-- A run of a trace through caches, from memory that holds these values, to a stage that the definitions allow.
abbrev pub CachedRunOf : List Entry → (Byte → ℕ) → List CachedStep → CachedStage → Type 0
CachedRunOf t region steps e = CachedAllowed (cached_start t region) steps e

-- Its steps without what the caches do.
abbrev pub steps_of : List CachedStep → List Step
steps_of [] = []
steps_of (Does step moved ∷ steps) = step ∷ steps_of steps
steps_of (Touches touch queue test ∷ steps) = steps_of steps

-- Each allowed run through caches is, without them, an allowed run: so what is known of those its stage has.
abbrev pub CachedRunsAreRuns : Type 0
CachedRunsAreRuns = (t : List Entry) (region : Byte → ℕ) (steps : List CachedStep) (e : CachedStage) → CachedRunOf t region steps e → RunOf t (steps_of steps) e.stage

-- The pieces and host entries that an allowed run through caches has done after others, the newest first.
abbrev pub done_through : (s : CachedStage) (steps : List CachedStep) (e : CachedStage) → CachedAllowed s steps e → List Task → List Task
done_through s [] e run done = done
done_through s (Does step moved ∷ steps) e run done = done_through run.0 steps e run.2 (with_step s.stage step done)
done_through s (Touches touch queue test ∷ steps) e run done = done_through run.0 steps e run.2 done

-- The pieces and host entries of a run through caches, the newest first.
abbrev pub tasks_through : (t : List Entry) (region : Byte → ℕ) (steps : List CachedStep) (e : CachedStage) → CachedRunOf t region steps e → List Task
tasks_through t region steps e run = done_through (cached_start t region) steps e run []

-- Tasks with which the machine has reached the bytes of a stage: the pieces that have run, the entries that have been applied, and what has happened with them; what may come next at the stage may come next in the machine.
pub record HasReached (all : Past) (s : CachedStage) (done : List Task) : Type 0 where
  pub reached : Reached (with_discards all) (caching_of all) done s.cells
  pub happened : (u : Task) → IsTrue ((with_discards all).has u) → is_event all u ≡ false → IsIn u done ↔ IsTrue (has_happened all s.stage u)
  pub next : (u : Task) → MayCome s.stage u → MayRun (with_discards all) done u

-- Each allowed run through caches of a trace without a fault has reached its bytes in the machine, with events between its steps: without them these are its pieces and entries in their order (Vulkan, "Execution and Memory Dependencies").
abbrev pub CachedRunsAreReached : Type 0
CachedRunsAreReached =
    (t : List Entry) (region : Byte → ℕ) (steps : List CachedStep) (e : CachedStage) (run : CachedRunOf t region steps e) → first_fault t ≡ None
    → (done : List Task) × HasReached (order t) e done × (filter (λ u. not (is_event (order t) u)) done ≡ tasks_through t region steps e run)

-- So a piece or host entry that may come next sees, through the cache of its queue or of the host, the model's value of each byte that it reads, where the model defines one.
abbrev pub CachedRunsAreFresh : Type 0
CachedRunsAreFresh =
    (t : List Entry) (region : Byte → ℕ) (steps : List CachedStep) (e : CachedStage) (next : Task) (c : Byte) (v : ℕ) → CachedRunOf t region steps e → first_fault t ≡ None → MayCome e.stage next
    → Reads (with_discards (order t)) next c → value_before (order t) next.node c ≡ Some v → view ((caching_of (order t)).agent next) (e.cells c) ≡ v

-- And the bytes that a host read sees, whichever atoms its cache takes up or gives back just before, are what the trace means, each of them defined.
abbrev pub CachedHostReads : Type 0
CachedHostReads =
    (t : List Entry) (region : Byte → ℕ) (steps : List CachedStep) (e : CachedStage) (x : Entry) (xs : List Entry) (atoms : List ℕ) (c : Byte) → CachedRunOf t region steps e → first_fault t ≡ None
    → e.stage.left ≡ x ∷ xs → IsTrue (may_go e.stage x) → Reads (with_discards (order t)) (entry_task e.stage) c
    → value_before (order t) (entry_task e.stage).node c ≡ Some (view 0 (after_atoms x atoms e.cells c))

-- And at any stage the model's value after the node of a byte's last write is visible to the queue or host that wrote it, where the model defines one.
abbrev pub CachedRunsAreWritten : Type 0
CachedRunsAreWritten =
    (t : List Entry) (region : Byte → ℕ) (steps : List CachedStep) (e : CachedStage) (run : CachedRunOf t region steps e) (writer : Task) (c : Byte) (v : ℕ) → first_fault t ≡ None
    → latest (with_discards (order t)) c (tasks_through t region steps e run) ≡ Some writer → value_before (order t) (suc writer.node) c ≡ Some v → view ((caching_of (order t)).agent writer) (e.cells c) ≡ v

-- Where nothing may come next, each byte has the value that the trace leaves in it, where the model defines one: in memory, or still dirty in a cache.
abbrev pub CachedRunsMeanTheTrace : Type 0
CachedRunsMeanTheTrace =
    (t : List Entry) (region : Byte → ℕ) (steps : List CachedStep) (e : CachedStage) (c : Byte) (v : ℕ) → CachedRunOf t region steps e → first_fault t ≡ None → IsOver e.stage → (world (order t)).value c ≡ Some v
    → ((e.cells c).region ≡ v) ⊎ (a : ℕ) × ((e.cells c).held a ≡ Some (Dirty v))
