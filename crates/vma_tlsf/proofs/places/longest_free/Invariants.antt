use Rattle.std.proofs.Common.{◌-◌, ◌^◌}
use Rattle.vma_tlsf.proofs.Walking.{IsAt}
use Rattle.vma_tlsf.proofs.Longest.{IsLongestTo}
use Rattle.vma_tlsf.proofs.places.longest_free.Given as goal

abbrev pub invariant-walk : goal.invariant-walk
invariant-walk l = record { at : IsAt l.nodes l.slot l.node; longest : IsLongestTo l.size l.nodes l.node.start l.longest }

abbrev pub decreases-walk : goal.decreases-walk
decreases-walk l = 2 ^ 62 - l.node.start
