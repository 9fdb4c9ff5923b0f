-- What rows tell of the points that they stand for (profile).
use Rattle.std.specs.Prelude.{◌≡◌, ◌⊎◌, ℕ, List, [], map}
use Rattle.std.proofs.Common.{inl, inr}
use Rattle.vk_model.specs.declared.command.Cmd.{Cmd}
use Rattle.vk_model.specs.declared.command.Cmd.TheVariants.{Update}
use Rattle.vk_model.specs.declared.entry.Batch.{Batch}
use Rattle.vk_model.specs.declared.entry.Entry.{Entry}
use Rattle.vk_model.specs.declared.entry.Entry.TheVariants as entry
use Rattle.vk_row_text.specs.declared.names.RowName.{RowName}
use Rattle.vk_row_text.specs.declared.names.BatchName.TheVariants.{BatchWait, BatchSignal}
use Rattle.vk_row_text.specs.declared.steps.Step.{Step}
use Rattle.vk_row_text.specs.declared.steps.Step.TheVariants as step
use Rattle.vk_row_text.specs.Names.{row_name}
use Rattle.vk_row_text.specs.Words.{CallWords, RowWords}
use Rattle.vk_row_text.specs.Rows.{entry_row, command_row, submit_row, batch_row}

-- The bytes that go with the row of an entry: those that it writes.
abbrev pub written_bytes : Entry → List ℕ
written_bytes (entry.Write buffer offset bytes) = bytes
written_bytes _ = []

-- The bytes that go with the row of a command: those of an update.
abbrev pub updated_bytes : Cmd → List ℕ
updated_bytes (Update buffer offset bytes) = bytes
updated_bytes _ = []

-- An entry without the batches of a submit, which have rows of their own where they are started (profile).
abbrev pub without_batches : Entry → Entry
without_batches (entry.Submit queue batches) = entry.Submit queue []
without_batches x = x

-- The rows of a batch: its beginning, its waits, its commands with their bytes, its signals (profile).
abbrev pub BatchRows : Type 0
BatchRows = CallWords × (List CallWords × (List (RowWords × List ℕ) × List CallWords))

-- A command as its row and its bytes.
abbrev pub command_rows : Cmd → RowWords × List ℕ
command_rows c = (command_row c, updated_bytes c)

-- The rows of a step, with the bytes that it writes: those of an entry with its number, or of a batch (profile).
abbrev pub StepRows : Type 0
StepRows = (ℕ × (RowWords × List ℕ)) ⊎ BatchRows

abbrev pub step_rows : Step → StepRows
step_rows (step.Entry e x) = inl (e, (entry_row x.now, written_bytes x.now))
step_rows (step.Batch b) = inr (batch_row b.entry b.batch b.queue, (map (submit_row BatchWait) b.content.now.waits, (map command_rows b.content.now.commands, map (submit_row BatchSignal) b.content.now.signals)))

-- A step as its points: an entry with its number, or a batch of an entry, by its number there, on a queue.
abbrev pub StepPoints : Type 0
StepPoints = (ℕ × Entry) ⊎ ((ℕ × (ℕ × ℕ)) × Batch)

abbrev pub step_points : Step → StepPoints
step_points (step.Entry e x) = inl (e, without_batches x.now)
step_points (step.Batch b) = inr ((b.entry, (b.batch, b.queue)), b.content.now)

-- Steps with the same rows and the same bytes are the same points, in the same order.
abbrev pub RowsTellPoints : Type 0
RowsTellPoints = (ss ts : List Step) → map step_rows ss ≡ map step_rows ts → map step_points ss ≡ map step_points ts

-- Names of rows that are written alike are the same name.
abbrev pub NamesDiffer : Type 0
NamesDiffer = (n m : RowName) → row_name n ≡ row_name m → n ≡ m
