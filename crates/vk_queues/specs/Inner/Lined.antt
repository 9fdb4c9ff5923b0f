-- Batches that wait, by their queues.
use Rattle.std.specs.Prelude.{◌≡◌, ⊤, ◌+◌, ◌<◌, ◌⊎◌, ℕ, List, [], ◌∷◌, map, take, length, ◌==◌, true, if◌then◌else◌, Option, Some, None, Contains, slice_get}
use Rattle.std.specs.List.{list_all, filter}
use Rattle.vk_model.specs.Trace.Point.{Past}
use Rattle.vk_model.specs.Trace.Order.{SubmittedBatch, is_met}
use Rattle.vk_queues.specs.declared.lines.Submission.{Submission}
use Rattle.vk_queues.specs.declared.lines.Line.{Line}
use Rattle.vk_queues.specs.declared.lines.Candidate.{Candidate}
use Rattle.vk_queues.specs.PointViews.{batch_of}

-- ---- when batches were submitted

-- One batch was submitted before another: by an earlier entry, or earlier in it (Vulkan, "Implicit Synchronization Guarantees").
abbrev pub Precedes : Submission → Submission → Type 0
Precedes t u = (t.entry < u.entry) ⊎ (t.entry ≡ u.entry) × (t.batch < u.batch)

-- When a batch was submitted.
abbrev pub submission_of : SubmittedBatch → Submission
submission_of t = record { entry = t.entry; batch = t.batch }

-- The batches are in the order of their submission.
abbrev pub IsRising : List SubmittedBatch → Type 0
IsRising [] = ⊤
IsRising (t ∷ ts) = ((u : SubmittedBatch) → Contains ts u → Precedes (submission_of t) (submission_of u)) × IsRising ts

-- ---- the batches of one queue

-- The batches of a line.
abbrev pub batches_on : Line → List SubmittedBatch
batches_on l = map batch_of l.batches.items

-- When the first batch was submitted, where its waits are met (Vulkan, "Semaphore Waiting").
abbrev pub ready_submission : Past → List SubmittedBatch → Option Submission
ready_submission past [] = None
ready_submission past (t ∷ ts) = if list_all (is_met past) t.waits then Some (submission_of t) else None

-- So many waits of the first batch are met.
abbrev pub AreFirstMet : Past → ℕ → List SubmittedBatch → Type 0
AreFirstMet past met [] = met ≡ 0
AreFirstMet past met (t ∷ ts) = list_all (is_met past) (take met t.waits) ≡ true

-- What a line knows to be met is met.
abbrev pub AreMet : Past → Line → Type 0
AreMet past l = AreFirstMet past l.met (batches_on l)

-- What each line knows to be met is met.
abbrev pub AreAllMet : Past → List Line → Type 0
AreAllMet past lines = (k : ℕ) (l : Line) → slice_get lines k ≡ Some l → AreMet past l

-- ---- the lines of all queues

-- The batches of a queue.
pub record Queued : Type 0 where
  pub queue : ℕ
  pub batches : List SubmittedBatch

-- What a line has.
abbrev pub queued : Line → Queued
queued l = record { queue = l.queue; batches = batches_on l }

-- How many batches wait.
abbrev pub count_of : List Queued → ℕ
count_of [] = 0
count_of (v ∷ vs) = length v.batches + count_of vs

-- Each queue has one line, with its batches that wait.
pub record IsLined (lines : List Queued) (waiting : List SubmittedBatch) : Type 0 where
  pub each : (k : ℕ) (v : Queued) → slice_get lines k ≡ Some v → filter (λ t. t.queue == v.queue) waiting ≡ v.batches
  pub all : (t : SubmittedBatch) → Contains waiting t → (k : ℕ) × (v : Queued) × (slice_get lines k ≡ Some v) × (v.queue ≡ t.queue)
  pub apart : (j k : ℕ) (v w : Queued) → slice_get lines j ≡ Some v → slice_get lines k ≡ Some w → v.queue ≡ w.queue → j ≡ k

-- The line of a queue is at an index.
abbrev pub HasLine : ℕ → ℕ → List Line → Type 0
HasLine queue k lines = (l : Line) × (slice_get lines k ≡ Some l) × (l.queue ≡ queue)

-- ---- which line is next

-- When the first batches were submitted, of the lines whose first batch can be started.
abbrev pub submissions : Past → List Queued → List (Option Submission)
submissions past lines = map (λ v. ready_submission past v.batches) lines

-- Of the first lines, which one has the batch that was submitted first; none where none can be started.
abbrev pub IsBest : List (Option Submission) → ℕ → Option Candidate → Type 0
IsBest submissions count None = (k : ℕ) (u : Submission) → k < count → slice_get submissions k ≡ Some (Some u) → ⊥
IsBest submissions count (Some c) = (slice_get submissions c.line ≡ Some (Some c.submission)) × ((k : ℕ) (u : Submission) → k < count → slice_get submissions k ≡ Some (Some u) → Precedes u c.submission → ⊥)
