-- The lines of a plan, and the bytes that go with them (profile).
use Rattle.std.specs.Prelude.{ℕ, ◌+◌, ◌==◌, if◌then◌else◌, List, [], ◌∷◌, ◌++◌, codes, Option, Some, None}
use Rattle.std.specs.List.{flat_map}
use Rattle.hex.specs.Hex.{encode_lower}
use Rattle.vk_model.specs.Trace.Order.{SubmittedBatch}
use Rattle.vk_model.specs.declared.rule.At.{At}
use Rattle.vk_model.specs.declared.rule.At.TheVariants as at
use Rattle.vk_model.specs.declared.command.Cmd.{Cmd}
use Rattle.vk_model.specs.declared.command.Cmd.TheVariants.{Update}
use Rattle.vk_model.specs.declared.entry.Entry.{Entry}
use Rattle.vk_model.specs.declared.entry.Entry.TheVariants.{Write, Read}
use Rattle.vk_queues.specs.PointViews.{batch_of}
use Rattle.vk_words.specs.Points.{at_text}
use Rattle.vk_row_text.specs.declared.steps.Step.{Step}
use Rattle.vk_row_text.specs.declared.steps.Step.TheVariants as step
use Rattle.vk_row_text.specs.Texts.{entry_lines, batch_lines}

-- The lines of a step: the row of its entry, or those of the points of its batch (profile).
abbrev pub step_lines : Step → List ℕ
step_lines (step.Entry e x) = entry_lines e x.now
step_lines (step.Batch b) = batch_lines (batch_of b)

-- A point with the bytes that go with its row; none are promised of a read where there are none (profile).
abbrev pub ByteRow : Type 0
ByteRow = At × Option (List ℕ)

-- The reads of which bytes are promised, with the numbers of their entries, in their order.
abbrev pub Promised : Type 0
Promised = List (ℕ × List ℕ)

-- The bytes that are promised of the read at an entry: those of the next read, if that is it.
abbrev pub next_bytes : ℕ → Promised → Option (List ℕ)
next_bytes e [] = None
next_bytes e (r ∷ rs) = if r.0 == e then Some r.1 else None

-- What is promised of the reads behind it.
abbrev pub promised_after : ℕ → Promised → Promised
promised_after e [] = []
promised_after e (r ∷ rs) = if r.0 == e then rs else r ∷ rs

-- The bytes of an entry: those that it writes, or those that its read has to give.
abbrev pub entry_bytes : Promised → ℕ → Entry → List ByteRow
entry_bytes p e (Write buffer offset bytes) = (at.Entry e, Some bytes) ∷ []
entry_bytes p e (Read buffer offset size) = (at.Entry e, next_bytes e p) ∷ []
entry_bytes p e _ = []

-- What is promised of the reads behind an entry.
abbrev pub left_after : Promised → ℕ → Entry → Promised
left_after p e (Read buffer offset size) = promised_after e p
left_after p e _ = p

-- The bytes of a command: those of an update.
abbrev pub command_bytes : ℕ → ℕ → ℕ → Cmd → List ByteRow
command_bytes e b k (Update buffer offset bytes) = (at.Command e b k, Some bytes) ∷ []
command_bytes e b k _ = []

-- The bytes of commands, which are numbered from one on.
abbrev pub commands_bytes : ℕ → ℕ → ℕ → List Cmd → List ByteRow
commands_bytes e b k [] = []
commands_bytes e b k (c ∷ cs) = command_bytes e b k c ++ commands_bytes e b (k + 1) cs

-- The bytes of a batch.
abbrev pub batch_bytes : SubmittedBatch → List ByteRow
batch_bytes s = commands_bytes s.entry s.batch 0 s.content.commands

-- The bytes of a step.
abbrev pub bytes_of_step : Promised → Step → List ByteRow
bytes_of_step p (step.Entry e x) = entry_bytes p e x.now
bytes_of_step p (step.Batch b) = batch_bytes (batch_of b)

-- What is promised of the reads behind a step.
abbrev pub left_of_step : Promised → Step → Promised
left_of_step p (step.Entry e x) = left_after p e x.now
left_of_step p (step.Batch b) = p

-- The bytes of steps, in the order of their rows.
abbrev pub step_bytes : Promised → List Step → List ByteRow
step_bytes p [] = []
step_bytes p (s ∷ ss) = bytes_of_step p s ++ step_bytes (left_of_step p s) ss

-- Bytes as a text of hex, or 0 where none are promised (profile).
abbrev pub bytes_text : Option (List ℕ) → List ℕ
bytes_text None = codes "0,\n"
bytes_text (Some bytes) = codes "\"" ++ encode_lower bytes ++ codes "\",\n"

-- The line of bytes, behind their point (profile).
abbrev pub byte_line : ByteRow → List ℕ
byte_line r = codes "    /* " ++ at_text r.0 ++ codes " */ " ++ bytes_text r.1
