use Rattle.vma_pools.proofs.LargestLemmas.{IsLargestTo}
use Rattle.vma_pools.proofs.blocks.largest_in.Given as goal

abbrev pub invariant-loop-held : goal.invariant-loop-held
invariant-loop-held g l = IsLargestTo g.B.PoolBlock.block l.blocks l.held-index l.largest
