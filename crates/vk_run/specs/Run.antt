-- What a run answers to the trace that it reads.
use Rattle.std.specs.Prelude.{◌≡◌, ℕ, List, [], ◌∷◌, length, Option, Some, None}
use Rattle.vk_model.specs.Memory.HeapSizes.{HeapSizes}
use Rattle.vk_model.specs.declared.entry.Entry.{Entry}
use Rattle.vk_model.specs.Rules.Table.{first_fault}
use Rattle.vk_model.specs.World.Bytes.{Byte}
use Rattle.vk_model.specs.World.Meaning.{Reads, meaning}
use Rattle.vk_model.specs.Memory.Allocations.{Allocated, EndsOn, EndsOnWith}
use Rattle.vk_model.specs.Run.Runs.{Step, Stage, start}
use Rattle.vk_model.specs.Run.CachedRuns.{CachedStep, Does, CachedStage, CachedNext, cached_start}
use Rattle.vk_model.specs.Run.Picks.{trace_picks}
use Rattle.vk_trace.specs.declared.printing.Outcome.{Outcome}
use Rattle.vk_laws.specs.CachedRuns.{CachedRunOf}
use Rattle.vk_cache_laws.specs.ThroughCaches.{reads_through}
use Rattle.vk_trace.specs.declared.printing.Outcome.TheVariants as outcome
use Rattle.vk_run.specs.declared.running.Status.{Status}
use Rattle.vk_run.specs.declared.running.Status.TheVariants as status
use Rattle.vk_trace.specs.Trace.{IsTrace}
use Rattle.vk_trace.specs.Text.{lines_of}

-- How a run ended, by what it reported.
abbrev pub status_of : Outcome → Status
status_of (outcome.Reads reads None) = status.Replayed
status_of (outcome.Reads reads (Some e)) = status.Stopped
status_of (outcome.Refused at rule) = status.Refused

-- A replay of the trace ends there on some device with heaps of these sizes.
abbrev pub Ends : HeapSizes → List Entry → Option ℕ → Type 0
Ends config t stop = (d : Allocated) × EndsOn config t stop d

-- What is reported of a trace. It is refused by its first fault; or it has none, and then reported are the bytes that it means: all of them where each entry finds room on a device with heaps of these sizes, else those of the entries before the first one that finds none.
abbrev pub IsAnswer : HeapSizes → List Entry → Outcome → Type 0
IsAnswer config t (outcome.Refused at rule) = first_fault t ≡ Some (at, rule)
IsAnswer config t (outcome.Reads reads None) = (first_fault t ≡ None) × Ends config t None × (reads ≡ meaning t (length t))
IsAnswer config t (outcome.Reads reads (Some n)) = (first_fault t ≡ None) × Ends config t (Some n) × (reads ≡ meaning t n)

-- A stage at which the reported entries have been applied: where no entry is left, or before the one that found no room.
abbrev pub IsReported : Option ℕ → Stage → Type 0
IsReported None s = s.left ≡ []
IsReported (Some n) s = s.count ≡ n

-- These reads hold on a device, too, whose queues each keep a write-back cache: in each allowed run of the trace there, whatever the caches write back, drop or load by themselves, the host has read just them when the reported entries have been applied; and while an entry is left, the run may go on (Vulkan, "Execution and Memory Dependencies", on availability and visibility).
pub record HoldThroughCaches (t : List Entry) (reads : Reads) (stop : Option ℕ) : Type 0 where
  pub same : (first : Byte → ℕ) (steps : List CachedStep) (e : CachedStage) (run : CachedRunOf t first steps e) → IsReported stop e.stage → reads_through (cached_start t first) steps e run ≡ reads
  pub goes_on : (first : Byte → ℕ) (steps : List CachedStep) (s : CachedStage) (x : Entry) (xs : List Entry) → CachedRunOf t first steps s → s.stage.left ≡ x ∷ xs → (step : Step) × (moved : List ℕ) × (e : CachedStage) × CachedNext s (Does step moved) e

-- What is reported of a trace holds on such a device. Of a trace that breaks a rule nothing is read.
abbrev pub IsAnswerThroughCaches : List Entry → Outcome → Type 0
IsAnswerThroughCaches t (outcome.Refused at rule) = Unit {0}
IsAnswerThroughCaches t (outcome.Reads reads stop) = HoldThroughCaches t reads stop

-- The input is a trace, the outcome is the answer to it, also on a device whose queues each keep a write-back cache, and the text is that of the outcome.
pub record Reports (config : HeapSizes) (input text : List ℕ) (outcome : Outcome) : Type 0 where
  pub entries : List Entry
  pub trace : IsTrace input entries
  pub answer : IsAnswer config entries outcome
  pub caches : IsAnswerThroughCaches entries outcome
  pub lines : text ≡ lines_of outcome

module _ (config : HeapSizes) (answer : List ℕ → ℕ → ℕ) (next : List ℕ → ℕ → List ℕ) where
  -- What a scheduler holds after an outcome: where the trace was refused it wasn't asked; else it was asked for each pick before an entry, up to and with one that found no room, on some device on which a replay of the trace ends there, and on which a pass has as many parts to copy as its moves have (profile).
  abbrev pub Leaves : List Entry → Outcome → List ℕ → List ℕ → Type 0
  Leaves t (outcome.Refused at rule) before after = after ≡ before
  Leaves t (outcome.Reads reads stop) before after = (parts : ℕ → ℕ) × (d : Allocated) × EndsOnWith parts config t stop d × (after ≡ (trace_picks answer next parts stop (start t) before t).held)
