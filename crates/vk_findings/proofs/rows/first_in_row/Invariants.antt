use Rattle.std.proofs.Common.{◌≡◌, ◌<◌, ◌*◌, ℕ, false}
use Rattle.vk_model.specs.Trace.Image.{texel}
use Rattle.vk_model.specs.Memory.Suballocation.{ranges_meet}
use Rattle.vk_model.specs.World.Areas.{row_start}
use Rattle.vk_findings.proofs.rows.first_in_row.Given as goal

abbrev pub invariant-loop-other_row : goal.invariant-loop-other_row
invariant-loop-other_row l = (k : ℕ) → k < l.other_row → ranges_meet l.start l.size (row_start (texel l.other_format) l.other k) (l.other.width * texel l.other_format) ≡ false
