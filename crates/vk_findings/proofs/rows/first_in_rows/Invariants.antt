use Rattle.std.proofs.Common.{◌≡◌, ◌<◌, ℕ, false}
use Rattle.vk_model.specs.Trace.Image.{texel}
use Rattle.vk_findings.specs.Inner.Rows.{row_meets_some}
use Rattle.vk_findings.proofs.rows.first_in_rows.Given as goal

abbrev pub invariant-loop-row : goal.invariant-loop-row
invariant-loop-row l = (k : ℕ) → k < l.row → row_meets_some (texel l.format) l.one k (texel l.other_format) l.other ≡ false
