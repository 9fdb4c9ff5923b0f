use Rattle.std.proofs.Common.{◌+◌, ◌<◌, ◌^◌, arith}
use Rattle.vma_linear.proofs.Tidying.{slot_in_ranges}
use Rattle.vma_linear.proofs.walks.walk_down.Goals as goal

pub overflow_add-slot : goal.overflow_add-slot
overflow_add-slot c =
    let end = slot_in_ranges (λ t. t.start + t.size < 2 ^ 64) c.args.slots.now c.loop-slot.slot-index _ c.requires c.loop-slot-test.true c.if-slot.true in
    omega arith
