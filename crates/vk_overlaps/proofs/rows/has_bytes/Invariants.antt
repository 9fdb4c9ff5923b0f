use Rattle.std.proofs.Common.{◌≡◌, ◌<◌, ◌*◌, ℕ, false}
use Rattle.vk_model.specs.Trace.Image.{texel}
use Rattle.vk_model.specs.Memory.Suballocation.{ranges_meet}
use Rattle.vk_model.specs.World.Areas.{row_start}
use Rattle.vk_overlaps.proofs.rows.has_bytes.Given as goal

abbrev pub invariant-loop-row : goal.invariant-loop-row
invariant-loop-row l = (k : ℕ) → k < l.row → ranges_meet l.start l.size (row_start (texel l.format) l.region k) (l.region.width * texel l.format) ≡ false
