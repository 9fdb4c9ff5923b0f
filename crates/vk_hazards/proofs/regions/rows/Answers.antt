use Rattle.std.proofs.Common.{rules}
use Rattle.vk_hazards.specs.Inner.Parts.{region_bytes}
use Rattle.vk_hazards.proofs.AreaLemmas.{added}
use Rattle.vk_hazards.proofs.regions.rows.Goals as goal

pub loop-region-preserved : goal.loop-region-preserved
loop-region-preserved c = added (region_bytes c.args.buffer c.args.texel) c.args.regions.now c.loop-region.region-index _ c.loop-region.areas.items _ c.in_ok-more.more.items (search rules) c.loop-region-test.true c.loop-region.invariant c.in_ok-more.ensures
