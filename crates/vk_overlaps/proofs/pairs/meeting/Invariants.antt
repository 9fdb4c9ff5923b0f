use Rattle.std.proofs.Common.{◌≡◌, List, ◌++◌, length}
use Rattle.vk_model.specs.Basics.{some_pair}
use Rattle.vk_overlaps.specs.declared.extents.Extent.{Extent}
use Rattle.vk_overlaps.specs.Extents.{extents_meet}
use Rattle.vk_overlaps.proofs.pairs.meeting.Given as goal

abbrev pub invariant-loop-rest : goal.invariant-loop-rest
invariant-loop-rest l = (some_pair extents_meet l.rest ≡ some_pair extents_meet l.parts) × (seen : List Extent) × (l.parts ≡ seen ++ l.rest)

abbrev pub decreases-loop-rest : goal.decreases-loop-rest
decreases-loop-rest l = length l.rest
