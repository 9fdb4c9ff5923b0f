use Rattle.std.proofs.Common.{◌≡◌, List, ◌++◌, length}
use Rattle.std.specs.List.{list_any}
use Rattle.vk_overlaps.specs.declared.extents.Extent.{Extent}
use Rattle.vk_overlaps.specs.Extents.{extents_meet}
use Rattle.vk_overlaps.proofs.pairs.meeting_some.Given as goal

abbrev pub invariant-loop-rest : goal.invariant-loop-rest
invariant-loop-rest l = (list_any (λ w. list_any (extents_meet w) l.read) l.rest ≡ list_any (λ w. list_any (extents_meet w) l.read) l.written) × (seen : List Extent) × (l.written ≡ seen ++ l.rest)

abbrev pub decreases-loop-rest : goal.decreases-loop-rest
decreases-loop-rest l = length l.rest
