use Rattle.std.proofs.Common.{Result, Ok, Err, get_or, refl}
use Rattle.std.specs.Prelude.{OnErr}
use Rattle.vma_pools.proofs.FreeLemmas.{held-rise}
use Rattle.vma_pools.proofs.SearchLemmas.{none-asked, none-behind, none-skipped}
use Rattle.vma_pools.proofs.TargetLemmas.{asked-general, is-lower-taken, none-lower-next}
use Rattle.vma_pools.proofs.WalkLemmas.{objects-kept, seen-kept}
use Rattle.vma_pools.proofs.lower.take_below.Goals as goal

on_err : {T E : Type 0} (P : Type 0) (r : Result T E) → P → OnErr r P
on_err P (Ok x) p = _
on_err P (Err e) p = p

pub take_at-requires-clause-general : goal.take_at-requires-clause-general
take_at-requires-clause-general g c =
    let i = c.loop-i.invariant in (asked-general g.B.PoolBlock.block _ _ _ c.index-blocks-i.result i.0 c.loop-i-test.true _ _ i.2 c.args.size c.requires.general).0

pub take_at-requires-clause-bytes : goal.take_at-requires-clause-bytes
take_at-requires-clause-bytes g c =
    let i = c.loop-i.invariant in (asked-general g.B.PoolBlock.block _ _ _ c.index-blocks-i.result i.0 c.loop-i-test.true _ _ i.2 c.args.size c.requires.general).1

pub returns-in_err-start-clause-err : goal.returns-in_err-start-clause-err
returns-in_err-start-clause-err g c =
    on_err _ _ (seen-kept g.B.PoolBlock.block c.args.blocks.now c.loop-i.blocks c.loop-i.i c.index-blocks-i.result c.take_at.new.block c.loop-i.invariant.0 c.loop-i-test.true c.in_err-start.ensures.err)

pub returns-in_err-start-clause-objects : goal.returns-in_err-start-clause-objects
returns-in_err-start-clause-objects g c =
    let i = c.loop-i.invariant in objects-kept g.B.PoolBlock.block c.args.blocks.now c.loop-i.blocks c.loop-i.i c.index-blocks-i.result c.take_at.new.block i.0 c.loop-i-test.true i.1

pub returns-in-Some-clause-ok : goal.returns-in-Some-clause-ok
returns-in-Some-clause-ok g c =
    let i = c.loop-i.invariant in let ok = rw c.in-Some.is at c.in_ok-start.ensures.ok in
    is-lower-taken g.B.PoolBlock.block c.args.blocks.now c.loop-i.blocks c.loop-i.i c.index-blocks-i.result i.0 c.loop-i-test.true _ _ i.2 c.take_at.new.block c.in-Some.start ok.0 ok.1

pub returns-in-Some-clause-objects : goal.returns-in-Some-clause-objects
returns-in-Some-clause-objects g c =
    let i = c.loop-i.invariant in objects-kept g.B.PoolBlock.block c.args.blocks.now c.loop-i.blocks c.loop-i.i c.index-blocks-i.result c.take_at.new.block i.0 c.loop-i-test.true i.1

pub loop-i-preserved : goal.loop-i-preserved
loop-i-preserved g c =
    let i = c.loop-i.invariant in let ok = rw c.in-None.is at c.in_ok-start.ensures.ok in (
      seen-kept g.B.PoolBlock.block c.args.blocks.now c.loop-i.blocks c.loop-i.i c.index-blocks-i.result c.take_at.new.block i.0 c.loop-i-test.true ok.1,
      objects-kept g.B.PoolBlock.block c.args.blocks.now c.loop-i.blocks c.loop-i.i c.index-blocks-i.result c.take_at.new.block i.0 c.loop-i-test.true i.1,
      none-lower-next g.B.PoolBlock.block c.args.blocks.now c.loop-i.blocks c.loop-i.i c.index-blocks-i.result i.0 c.loop-i-test.true _ _ i.2 ok.0,
    )

pub first_from-i-requires : goal.first_from-i-requires
first_from-i-requires g c = record { rising = held-rise g.B.PoolBlock.block c.args.blocks.now c.requires.rising }

pub loop-i-init : goal.loop-i-init
loop-i-init g c = (
  refl,
  refl,
  none-skipped g.B.PoolBlock.block c.args.blocks.now _ _ (record { block = c.args.low.block; start = c.args.low.start }) c.args.size c.first_from-i.result c.requires.general c.requires.inside c.requires.low
      c.first_from-i.ensures.within c.first_from-i.ensures.before,
)

pub returns-then-mover-held-clause-ok : goal.returns-then-mover-held-clause-ok
returns-then-mover-held-clause-ok g c =
    let i = c.loop-i.invariant in (
      none-behind g.B.PoolBlock.block c.args.blocks.now _ _ c.loop-i.blocks c.loop-i.i c.index-blocks-i.result i.0 c.loop-i-test.true c.requires.rising i.2 c.if-mover-held.true,
      seen-kept g.B.PoolBlock.block c.args.blocks.now c.loop-i.blocks c.loop-i.i c.index-blocks-i.result (get_or c.loop-i.blocks c.loop-i.i c.index-blocks-i.result).block i.0 c.loop-i-test.true refl,
    )

pub take_at-requires-clause-low : goal.take_at-requires-clause-low
take_at-requires-clause-low g c =
    none-asked g.B.PoolBlock.block c.args.blocks.now c.loop-i.blocks c.loop-i.i c.index-blocks-i.result c.loop-i.invariant.0 c.loop-i-test.true (record { block = c.args.low.block; start = c.args.low.start }) _ c.requires.low
