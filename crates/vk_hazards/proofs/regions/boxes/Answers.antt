use Rattle.std.proofs.Common.{◌∷◌, []}
use Rattle.vk_hazards.specs.Inner.Parts.{box_bytes}
use Rattle.vk_hazards.proofs.AreaLemmas.{added}
use Rattle.vk_hazards.proofs.regions.boxes.Goals as goal

pub loop-region-preserved : goal.loop-region-preserved
loop-region-preserved c = added (box_bytes c.args.image c.args.texel) c.args.regions.now c.loop-region.region-index _ c.loop-region.areas.items _ (c.region_box.result ∷ []) c.in_ok-push.ensures.items c.loop-region-test.true c.loop-region.invariant c.region_box.ensures
