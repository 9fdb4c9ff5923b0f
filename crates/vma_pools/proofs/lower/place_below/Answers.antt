use Rattle.std.proofs.Common.{ap, refl, sym, ◌∙◌}
use Rattle.std.specs.Prelude.{option_map}
use Rattle.vma_pools.specs.Inner.Lower.{at_start}
use Rattle.vma_pools.proofs.FreeLemmas.{held-rise}
use Rattle.vma_pools.proofs.SearchLemmas.{none-asked, none-behind, none-skipped}
use Rattle.vma_pools.proofs.TargetLemmas.{is-lowest, none-read-next, read-general}
use Rattle.vma_pools.proofs.lower.place_below.Goals as goal

pub place_at-requires-clause-general : goal.place_at-requires-clause-general
place_at-requires-clause-general g c =
    (read-general g.B.PoolBlock.block c.args.blocks.now c.loop-i.i c.index-blocks-i.result c.index-blocks-i.is c.loop-i-test.true _ _ c.loop-i.invariant c.args.size c.requires.general).0

pub place_at-requires-clause-bytes : goal.place_at-requires-clause-bytes
place_at-requires-clause-bytes g c =
    (read-general g.B.PoolBlock.block c.args.blocks.now c.loop-i.i c.index-blocks-i.result c.index-blocks-i.is c.loop-i-test.true _ _ c.loop-i.invariant c.args.size c.requires.general).1

pub returns-in-Some : goal.returns-in-Some
returns-in-Some g c =
    let held = c.index-blocks-i.result in
    is-lowest g.B.PoolBlock.block c.args.blocks.now c.loop-i.i held c.index-blocks-i.is c.loop-i-test.true _ _ c.loop-i.invariant c.in-Some.start
    (c.place_at.ensures ∙ ap (option_map (at_start held.number)) c.in-Some.is)

pub loop-i-preserved : goal.loop-i-preserved
loop-i-preserved g c =
    let held = c.index-blocks-i.result in
    none-read-next g.B.PoolBlock.block c.args.blocks.now c.loop-i.i held c.index-blocks-i.is c.loop-i-test.true _ _ c.loop-i.invariant
    (c.place_at.ensures ∙ ap (option_map (at_start held.number)) c.in-None.is)

pub first_from-i-requires : goal.first_from-i-requires
first_from-i-requires g c = record { rising = held-rise g.B.PoolBlock.block c.args.blocks.now c.requires.rising }

pub loop-i-init : goal.loop-i-init
loop-i-init g c =
    none-skipped g.B.PoolBlock.block c.args.blocks.now _ _ (record { block = c.args.low.block; start = c.args.low.start }) c.args.size c.first_from-i.result c.requires.general c.requires.inside c.requires.low
    c.first_from-i.ensures.within c.first_from-i.ensures.before

pub returns-then-mover-held : goal.returns-then-mover-held
returns-then-mover-held g c =
    none-behind g.B.PoolBlock.block c.args.blocks.now _ _ c.args.blocks.now c.loop-i.i c.index-blocks-i.result refl c.loop-i-test.true c.requires.rising c.loop-i.invariant (rw (sym c.index-blocks-i.is) c.if-mover-held.true)

pub place_at-requires-clause-low : goal.place_at-requires-clause-low
place_at-requires-clause-low g c =
    rw c.index-blocks-i.is (none-asked g.B.PoolBlock.block c.args.blocks.now c.args.blocks.now c.loop-i.i c.index-blocks-i.result refl c.loop-i-test.true (record { block = c.args.low.block; start = c.args.low.start }) _ c.requires.low)
