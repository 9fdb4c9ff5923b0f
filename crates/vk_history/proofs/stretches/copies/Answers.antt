use Rattle.vk_history.proofs.Kept.Stretches.{copy_next_region}
use Rattle.vk_history.proofs.stretches.copies.Goals as goal

pub loop-region-preserved : goal.loop-region-preserved
loop-region-preserved c = λ fits.
    copy_next_region c.args.defined.now c.args.regions.now c.loop-region.region-index _ c.loop-region-test.true fits c.loop-region.stretches.items c.push_copies.new.stretches.items (c.loop-region.invariant fits) c.in_ok-push_copies.ensures
