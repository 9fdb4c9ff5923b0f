use Rattle.vma_blocks.proofs.any.AnyBlockPoolBlock.is_empty.Goals as goal

pub returns-in-General : goal.returns-in-General
returns-in-General c = rw c.in-General.is c.is_empty.ensures
