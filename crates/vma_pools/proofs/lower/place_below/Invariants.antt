use Rattle.vma_pools.specs.Inner.Lower.{NoneLower}
use Rattle.vma_pools.specs.Inner.Walk.{seen}
use Rattle.vma_pools.proofs.lower.place_below.Given as goal

abbrev pub invariant-loop-i : goal.invariant-loop-i
invariant-loop-i g l =
    NoneLower (seen g.B.PoolBlock.block l.blocks) (record { block = l.mover.block; start = l.mover.start }) (record { size = l.mover.bytes; align = l.mover.align; kind = l.mover.kind }) l.i
