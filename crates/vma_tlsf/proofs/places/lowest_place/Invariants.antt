use Rattle.std.proofs.Common.{◌-◌, ◌^◌}
use Rattle.vma_tlsf.specs.Inner.Fits.{NoneBelow}
use Rattle.vma_tlsf.specs.Inner.Wants.{request_of_want}
use Rattle.vma_tlsf.proofs.Walking.{IsAt}
use Rattle.vma_tlsf.proofs.places.lowest_place.Given as goal

abbrev pub invariant-walk : goal.invariant-walk
invariant-walk l = record { at : IsAt l.nodes l.slot l.node; below : NoneBelow l.nodes (request_of_want l.want) l.limit l.node.start }

abbrev pub decreases-walk : goal.decreases-walk
decreases-walk l = 2 ^ 62 - l.node.start
