use Rattle.vma_blocks.proofs.any.AnyBlockPoolBlock.largest_free.Goals as goal

pub returns-in-Stack : goal.returns-in-Stack
returns-in-Stack c = rw c.in-Stack.is c.widest_gap.ensures
