use Rattle.std.proofs.Common.{rules}
use Rattle.vk_hazards.specs.Inner.Parts.{range_part}
use Rattle.vk_hazards.proofs.AreaLemmas.{added}
use Rattle.vk_hazards.proofs.regions.cleared.Goals as goal

pub loop-range-preserved : goal.loop-range-preserved
loop-range-preserved c = added (range_part c.args.image c.args.info.now) c.args.ranges.now c.loop-range.range-index _ c.loop-range.areas.items _ c.in_ok-more.more.items (search rules) c.loop-range-test.true c.loop-range.invariant c.in_ok-more.ensures
