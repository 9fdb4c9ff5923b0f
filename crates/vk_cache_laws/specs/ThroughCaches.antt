-- What the host reads on a device whose queues each have a write-back cache.
use Rattle.std.specs.Prelude.{◌≡◌, ℕ, ◌+◌, List, [], ◌∷◌, ◌++◌, map, length, None}
use Rattle.vk_model.specs.declared.entry.Entry.{Entry}
use Rattle.vk_model.specs.declared.entry.Entry.TheVariants as entry
use Rattle.vk_model.specs.Basics.{below}
use Rattle.vk_model.specs.World.Bytes.{Byte, in_buffer}
use Rattle.vk_model.specs.World.Meaning.{Reads, meaning}
use Rattle.vk_model.specs.Rules.Table.{first_fault}
use Rattle.vk_model.specs.Run.Caches.{view}
use Rattle.vk_model.specs.Run.Runs.{Step, Apply}
use Rattle.vk_model.specs.Run.CachedRuns.{Cells, after_atoms, CachedStep, Does, CachedStage, CachedNext, CachedAllowed, cached_start}
use Rattle.vk_laws.specs.CachedRuns.{CachedRunOf}

-- What the host reads by the next entry, of this number: the bytes as it sees them when its cache has taken up or given back some atoms of the buffer (Vulkan, "Host Access to Device Memory Objects").
abbrev pub entry_reads : ℕ → List ℕ → Cells → List Entry → Reads
entry_reads e atoms cells (entry.Read b o n ∷ xs) = (e, map (λ k. view 0 (after_atoms (entry.Read b o n) atoms cells (in_buffer b (o + k)))) (below n)) ∷ []
entry_reads e atoms cells _ = []

-- What it reads by a step of a run through caches.
abbrev pub step_reads : CachedStage → CachedStep → Reads
step_reads s (Does (Apply atoms parts) moved) = entry_reads s.stage.count atoms s.cells s.stage.left
step_reads s _ = []

-- What it reads in a run through caches, one step after another.
abbrev pub reads_through : (s : CachedStage) (steps : List CachedStep) (e : CachedStage) → CachedAllowed s steps e → Reads
reads_through s [] e run = []
reads_through s (step ∷ steps) e run = step_reads s step ++ reads_through run.0 steps e run.2

-- In each run of a trace without a fault through caches of queues, whatever the caches write back, drop or load by themselves, the host reads what the entries so far mean (Vulkan, "Execution and Memory Dependencies", on availability and visibility).
abbrev pub CachedRunsReadTheMeaning : Type 0
CachedRunsReadTheMeaning =
    (t : List Entry) (first : Byte → ℕ) (steps : List CachedStep) (e : CachedStage) (run : CachedRunOf t first steps e) → first_fault t ≡ None
    → reads_through (cached_start t first) steps e run ≡ meaning t e.stage.count

-- So when no entry is left it has read what the trace means.
abbrev pub CachedRunsReadTheWhole : Type 0
CachedRunsReadTheWhole =
    (t : List Entry) (first : Byte → ℕ) (steps : List CachedStep) (e : CachedStage) (run : CachedRunOf t first steps e) → first_fault t ≡ None → e.stage.left ≡ []
    → reads_through (cached_start t first) steps e run ≡ meaning t (length t)

-- And such a run isn't stuck: while an entry is left, a step is allowed that is none of a cache.
abbrev pub CachedRunsAreNotStuck : Type 0
CachedRunsAreNotStuck =
    (t : List Entry) (first : Byte → ℕ) (steps : List CachedStep) (s : CachedStage) (x : Entry) (xs : List Entry) → CachedRunOf t first steps s → first_fault t ≡ None → s.stage.left ≡ x ∷ xs
    → (step : Step) × (moved : List ℕ) × (e : CachedStage) × CachedNext s (Does step moved) e
