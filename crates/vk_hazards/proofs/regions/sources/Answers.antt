use Rattle.std.proofs.Common.{◌∷◌, []}
use Rattle.vk_hazards.specs.Inner.Parts.{source_bytes}
use Rattle.vk_hazards.proofs.AreaLemmas.{added}
use Rattle.vk_hazards.proofs.regions.sources.Goals as goal

pub loop-region-preserved : goal.loop-region-preserved
loop-region-preserved c = added (source_bytes c.args.image c.args.texel) c.args.regions.now c.loop-region.region-index _ c.loop-region.areas.items _ (c.source_box.result ∷ []) c.in_ok-push.ensures.items c.loop-region-test.true c.loop-region.invariant c.source_box.ensures
