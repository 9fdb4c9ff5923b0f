use Rattle.std.proofs.Common.{◌+◌, sym, subst, take, List}
use Rattle.vk_places.specs.declared.states.LiveBlock.{LiveBlock}
use Rattle.vk_places.specs.Listed.{AreBlocksOf}
use Rattle.vk_places.proofs.ListedItems.{blocks_more, blocks_all}
use Rattle.vk_places.proofs.listing.blocks_of.Goals as goal

pub loop-block-preserved : goal.loop-block-preserved
loop-block-preserved c =
    subst (λ (l : List LiveBlock). AreBlocksOf c.args.ranges.now (take (c.loop-block.block-index + 1) c.args.objects.now) l) (sym c.in_ok-push.ensures.items)
    (blocks_more c.args.ranges.now c.args.objects.now c.loop-block.block-index _ c.loop-block.found.items c.in_ok-one.one c.loop-block-test.true c.loop-block.invariant c.in_ok-one.ensures)

pub returns : goal.returns
returns c = blocks_all c.args.ranges.now c.args.objects.now c.loop-block.block-index c.loop-block.found.items c.loop-block-test.false c.loop-block.invariant
