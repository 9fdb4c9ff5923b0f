use Rattle.std.proofs.Common.{◌≡◌}
use Rattle.vma_pools.specs.Inner.Lower.{NoneLower}
use Rattle.vma_pools.specs.Inner.Walk.{seen, objects}
use Rattle.vma_pools.proofs.lower.take_below.Given as goal

abbrev pub invariant-loop-i : goal.invariant-loop-i
invariant-loop-i g l =
    let block = g.B.PoolBlock.block in
    (seen block l.blocks ≡ seen block l.initial.blocks) × (objects l.blocks ≡ objects l.initial.blocks)
    × NoneLower (seen block l.initial.blocks) (record { block = l.mover.block; start = l.mover.start }) (record { size = l.mover.bytes; align = l.mover.align; kind = l.mover.kind }) l.i
