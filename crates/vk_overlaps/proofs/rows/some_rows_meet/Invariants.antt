use Rattle.std.proofs.Common.{◌≡◌, length}
use Rattle.vk_model.specs.Basics.{some_pair}
use Rattle.vk_model.specs.Trace.Image.{texel}
use Rattle.vk_model.specs.World.Areas.{rows_meet}
use Rattle.vk_overlaps.proofs.rows.some_rows_meet.Given as goal

abbrev pub invariant-loop-rest : goal.invariant-loop-rest
invariant-loop-rest l = some_pair (λ g h. rows_meet (texel l.format) g (texel l.format) h) l.rest ≡ some_pair (λ g h. rows_meet (texel l.format) g (texel l.format) h) l.regions

abbrev pub decreases-loop-rest : goal.decreases-loop-rest
decreases-loop-rest l = length l.rest
