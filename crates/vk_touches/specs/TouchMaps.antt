-- What is kept of what bytes remember: the last write by a command, the last reads, and all else.
use Rattle.std.specs.Prelude.{◌≡◌, ℕ, Bool, List, length, Option, None, Some, false, if◌then◌else◌}
use Rattle.std.specs.Simd.Lanes.{zip2}
use Rattle.vk_order.specs.declared.lines.Line.TheVariants.{Commands}
use Rattle.vk_touches.specs.declared.touches.LastTouches.{LastTouches}
use Rattle.vk_touches.specs.declared.touches.Spot.{Spot}
use Rattle.vk_touches.specs.declared.others.OtherTouches.{OtherTouches}
use Rattle.vk_touches.specs.declared.reads.LastReads.{LastReads}
use Rattle.vk_touches.specs.declared.writes.LastWrite.{LastWrite}
use Rattle.vk_touches.specs.Remembered.{untouched}

-- What a byte that no command wrote remembers, by the last reads and all else. (profile)
abbrev pub with_reads : OtherTouches → LastReads → LastTouches
with_reads t r = record { write = None; is_invalidated = false; host_write = t.host_write; flush = t.flush; transition = t.transition; host_read = r.by_host; reads = r.by_queues }

-- What a byte remembers of reads. (profile)
abbrev pub reads_of : LastTouches → LastReads
reads_of t = record { by_host = t.host_read; by_queues = t.reads }

-- All that a byte remembers but reads and writes by commands. (profile)
abbrev pub others_of : LastTouches → OtherTouches
others_of t = record { host_write = t.host_write; flush = t.flush; transition = t.transition }

-- What a byte remembers that nobody read and no command wrote. (profile)
abbrev pub without_reads : OtherTouches → LastTouches
without_reads t = with_reads t (reads_of untouched)

-- What a byte remembers that nobody touched otherwise. (profile)
abbrev pub with_reads_alone : LastReads → LastTouches
with_reads_alone r = with_reads (others_of untouched) r

-- What a byte remembers, by the last write by a command and what it remembers of all else. (profile)
abbrev pub with_write : LastWrite → LastTouches → LastTouches
with_write w t = record t { write = w.write; is_invalidated = w.is_invalidated }

-- The same of a byte that nothing else has touched. (profile)
abbrev pub with_write_alone : LastWrite → LastTouches
with_write_alone w = with_write w untouched

-- What a byte remembers of writes by commands. (profile)
abbrev pub write_of : LastTouches → LastWrite
write_of t = record { write = t.write; is_invalidated = t.is_invalidated }

-- What each of some bytes remembers, by the three lists that are kept of it. (profile)
unfoldable pub all_remembered : List LastWrite → List OtherTouches → List LastReads → List LastTouches
all_remembered ws ts rs = zip2 with_write ws (zip2 with_reads ts rs)

-- Each of the three lists is as long as the others. (profile)
pub record HaveOneLength (ws : List LastWrite) (ts : List OtherTouches) (rs : List LastReads) : Type 0 where
  pub writes : length ws ≡ length ts
  pub reads : length ts ≡ length rs

-- The last command that wrote a byte, where there is one, by its queue, place and number. (profile)
abbrev pub kept_spot : Bool → ℕ → ℕ → ℕ → Option Spot
kept_spot is_written queue place number = if is_written then Some (record { line = Commands queue; place = place; number = number }) else None
