use Rattle.std.proofs.Common.{◌≡◌, ◌<◌, ℕ, false}
use Rattle.vk_model.specs.Trace.Image.{texel}
use Rattle.vk_overlaps.specs.Inner.Rows.{row_meets_some}
use Rattle.vk_overlaps.proofs.rows.rows_meet.Given as goal

abbrev pub invariant-loop-row : goal.invariant-loop-row
invariant-loop-row l = (k : ℕ) → k < l.row → row_meets_some (texel l.format) l.one k l.other ≡ false
