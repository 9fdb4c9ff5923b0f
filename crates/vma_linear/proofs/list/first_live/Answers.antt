use Rattle.vma_linear.proofs.SlotLists.{some_live, dead_more}
use Rattle.vma_linear.proofs.list.first_live.Goals as goal

pub loop-place-init : goal.loop-place-init
loop-place-init c = record { dead = c.requires.front; within = some_live _ _ c.requires.front c.requires.some }

pub loop-place-preserved : goal.loop-place-preserved
loop-place-preserved c =
    let dead = dead_more _ _ _ c.loop-place.invariant.dead c.loop-place.invariant.within c.loop-place-test.true in
    record { dead = dead; within = some_live _ _ dead c.requires.some }
