use Rattle.std.proofs.Common.{◌≡◌, ◌++◌, map}
use Rattle.vk_model.specs.Basics.{below}
use Rattle.vk_model.specs.Trace.Image.{texel}
use Rattle.vk_overlaps.specs.Inner.Places.{row_at}
use Rattle.vk_overlaps.proofs.rows.push_rows.Given as goal

abbrev pub invariant-loop-row : goal.invariant-loop-row
invariant-loop-row l = l.rows.items ≡ l.fn.rows.items ++ map (row_at (texel l.format) l.region) (below l.row)
