use Rattle.std.proofs.Common.{◌≡◌}
use Rattle.vma_pools.specs.Inner.Walk.{seen, objects, NoneBefore}
use Rattle.vma_pools.proofs.blocks.take_in.Given as goal

abbrev pub invariant-loop-i : goal.invariant-loop-i
invariant-loop-i g l =
    let block = g.B.PoolBlock.block in
    (seen block l.blocks ≡ seen block l.initial.blocks) × (objects l.blocks ≡ objects l.initial.blocks)
    × NoneBefore (seen block l.initial.blocks) (record { size = l.bytes; align = l.align; kind = l.kind }) l.upper l.i
