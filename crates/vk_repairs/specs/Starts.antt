-- The points of a trace before its first fault.
use Rattle.std.specs.Prelude.{◌≡◌, ℕ, ◌+◌, List, [], ◌∷◌, length, sum_by, Contains, is_none, if◌then◌else◌}
use Rattle.vk_model.specs.declared.entry.Batch.{Batch}
use Rattle.vk_model.specs.declared.entry.Entry.{Entry}
use Rattle.vk_model.specs.declared.entry.Entry.TheVariants as entry
use Rattle.vk_model.specs.declared.rule.At.{At}
use Rattle.vk_model.specs.Trace.Point.{Past, Point, at_of}
use Rattle.vk_model.specs.Rules.Table.{fault}

-- The points of a past before its first fault; all of them where there is none.
unfoldable pub sound_start : Past → Past
sound_start [] = []
sound_start (p ∷ past) = if is_none (fault (p ∷ past)) then p ∷ past else sound_start past

-- A past has a point that is reported so.
pub record IsAmong (past : Past) (reported : At) : Type 0 where
  pub point : Point
  pub there : Contains past point
  pub same : at_of point ≡ reported

-- How many points a batch has once it is started.
abbrev pub batch_points : Batch → ℕ
batch_points b = length b.waits + length b.commands + length b.signals

-- How many points an entry has, once all batches that it submits are started.
abbrev pub entry_points : Entry → ℕ
entry_points (entry.Submit q bs) = 1 + sum_by batch_points bs
entry_points x = 1

-- How many points a trace has, once all of its batches are started.
abbrev pub all_points : List Entry → ℕ
all_points t = sum_by entry_points t
