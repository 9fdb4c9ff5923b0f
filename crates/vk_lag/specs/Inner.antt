-- What the parts of the crate keep.
pub mod HasRoom
use Rattle.std.specs.Prelude.{◌≡◌, ℕ, ◌*◌, ◌+◌, ◌/◌, ◌<◌, ◌≤◌, min, Bool, true, ◌&&◌, ◌==◌, nat_lt, if◌then◌else◌, List, Option, Some, None, length, map, slice_index, slice_index_or}
use Rattle.std.specs.Option.{option_map}
use Rattle.std.specs.List.{range_with_len}
use Rattle.vk_lag.specs.declared.late.Late.{Late}
use Rattle.vk_lag.specs.declared.late.Writer.{Writer}
use Rattle.vk_lag.specs.declared.late.Due.{Due}
use Rattle.vk_lag.specs.declared.late.Due.TheVariants as due
use Rattle.vk_lag.specs.declared.marks.Mark.{Mark}
use Rattle.vk_lag.specs.declared.marks.Mark.TheVariants as mark
use Rattle.vk_lag.specs.declared.parts.Part.{Part}
use Rattle.vk_lag.specs.Lags.{late_in}

-- Late bytes stand between two places, inside the resource.
pub record AreLateBetween (bytes : List (Option Late)) (low high : ℕ) : Type 0 where
  pub inside : high ≤ length bytes
  pub between : (k : ℕ) (late : Late) → late_in bytes k ≡ Some late → (low ≤ k) × (k < high)

-- ---- chunks of 2048 bytes

-- What is so of the chunk of byte k.
abbrev pub mark_at : List Mark → ℕ → Mark
mark_at marks k = slice_index_or marks (k / 2048) mark.Clean

-- The writer of byte k, as a mixed chunk has it.
abbrev pub writer_at : List (Option Writer) → ℕ → Option Writer
writer_at writers k = slice_index_or writers k None

-- The writer of a byte by the mark of its chunk; none where the byte isn't late.
abbrev pub writer_by : Mark → Option Writer → Option Writer
writer_by mark.Clean writer = None
writer_by (mark.Whole w) writer = Some w
writer_by mark.Mixed writer = writer

abbrev pub writer_in : List Mark → List (Option Writer) → ℕ → Option Writer
writer_in marks writers k = writer_by (mark_at marks k) (writer_at writers k)

-- A byte of this writer, of which memory has this value.
abbrev pub late_by : ℕ → Option Writer → Option Late
late_by value writer = option_map (λ (w : Writer). record { writer = w; value = value }) writer

-- All bytes of a resource of this size.
abbrev pub bytes_of : ℕ → List Mark → List ℕ → List (Option Writer) → List (Option Late)
bytes_of size marks values writers = map (λ k. late_by (slice_index values k) (writer_in marks writers k)) (range_with_len 0 size)

-- Whether memory catches up with what a command wrote.
abbrev pub is_due_of : Due → Writer → Bool
is_due_of due.All writer = true
is_due_of (due.Of q) writer = writer.queue == q
is_due_of (due.Before w) writer = writer.queue == w.queue && nat_lt writer.node w.node

-- The writer of a byte that is late still when memory has caught up.
abbrev pub still_late : Due → Option Writer → Option Writer
still_late d None = None
still_late d (Some w) = if is_due_of d w then None else Some w

-- Some bytes of one chunk of a resource of this size.
pub record IsPart (size : ℕ) (part : Part) : Type 0 where
  pub first : part.first ≡ 2048 * part.chunk
  pub from : part.first ≤ part.low
  pub some : part.low < part.high
  pub to : part.high ≤ part.stop
  pub stop : part.stop ≡ min (part.first + 2048) size
