use Rattle.std.proofs.Common.{subst, ◌+◌, arith}
use Rattle.vma_tlsf.specs.Inner.Listed.{IsTakenHere}
use Rattle.vma_tlsf.proofs.Listing.{with_more, with_default}
use Rattle.vma_tlsf.proofs.ranges.ranges_of.Goals.{in-Some+in_ok-push, in_default}
use Rattle.vma_tlsf.proofs.ranges.ranges_of.Goals as goal

pub loop-slot-preserved : goal.loop-slot-preserved
loop-slot-preserved c = elim c.match-range_of_slot.branch [
  | in-Some+in_ok-push w ↦
      rw (w.ranges-is, w.in_ok-push.ensures.items)
      (with_more c.args.nodes.now c.loop-slot.slot (c.loop-slot.slot + 1) c.loop-slot.ranges.items w.in-Some.range c.loop-slot.invariant
      (subst (IsTakenHere c.args.nodes.now c.loop-slot.slot) w.in-Some.is c.range_of_slot.ensures) (omega arith))
  | in_default w ↦
      rw w.ranges-is
      (with_default c.args.nodes.now c.loop-slot.slot (c.loop-slot.slot + 1) c.loop-slot.ranges.items c.range_of_slot.result c.loop-slot.invariant c.range_of_slot.ensures w.in_default.not-Some (omega arith))
]
