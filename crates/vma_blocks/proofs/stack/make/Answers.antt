use Rattle.vma_blocks.proofs.stack.make.Goals as goal

pub returns : goal.returns
returns c = c.new.ensures
