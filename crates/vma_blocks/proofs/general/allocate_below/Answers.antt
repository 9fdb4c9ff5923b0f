use Rattle.vma_tlsf.specs.Block.{taken}
use Rattle.vma_blocks.proofs.BlockLemmas.{lowest_put}
use Rattle.vma_blocks.proofs.general.allocate_below.Goals as goal

pub returns-clause-ok : goal.returns-clause-ok
returns-clause-ok c =
    lowest_put c.args.block.now.size c.allocate_below.new.self.size c.args.limit (taken c.args.block.now) (taken c.allocate_below.new.self) (record { size = c.args.bytes; align = c.args.align; kind = c.args.kind })
    c.allocate_below.result c.allocate_below.ensures.block c.allocate_below.ensures.ok c.allocate_below.ensures.lowest
