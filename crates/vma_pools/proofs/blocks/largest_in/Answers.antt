use Rattle.std.proofs.Common.{inl, inr}
use Rattle.vma_pools.proofs.LargestLemmas.{largest-all, largest-next}
use Rattle.vma_pools.proofs.blocks.largest_in.Goals as goal
use Rattle.vma_pools.proofs.blocks.largest_in.Goals.{then-largest-length, else-largest-length}

pub loop-held-preserved : goal.loop-held-preserved
loop-held-preserved g c =
    let block = g.B.PoolBlock.block in
    largest-next block c.args.blocks.now c.loop-held.held-index c.loop-held.largest c.largest_free-length.result c.if-largest-length.largest c.held-item.result c.loop-held-test.true c.held-item.is c.loop-held.invariant c.largest_free-length.ensures
    (elim c.if-largest-length.branch [ then-largest-length w ↦ inl (w.if-largest-length.true, w.largest-is) | else-largest-length w ↦ inr (w.if-largest-length.false, w.largest-is) ])

pub returns : goal.returns
returns g c = largest-all g.B.PoolBlock.block c.args.blocks.now c.loop-held.held-index c.loop-held.largest c.loop-held-test.false c.loop-held.invariant
