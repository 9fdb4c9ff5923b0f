use Rattle.std.proofs.Common.{◌-◌, ◌≤◌}
use Rattle.vma_tlsf.proofs.Walking.{IsAt}
use Rattle.vma_tlsf.proofs.near.slot_from.Given as goal

abbrev pub invariant-back : goal.invariant-back
invariant-back l = IsAt l.nodes l.slot l.node

abbrev pub decreases-back : goal.decreases-back
decreases-back l = l.node.start

abbrev pub invariant-on : goal.invariant-on
invariant-on l = record { at : IsAt l.nodes l.slot l.node; low : l.node.start ≤ l.byte }

abbrev pub decreases-on : goal.decreases-on
decreases-on l = l.byte - l.node.start
