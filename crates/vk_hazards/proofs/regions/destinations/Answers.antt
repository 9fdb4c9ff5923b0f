use Rattle.std.proofs.Common.{◌∷◌, []}
use Rattle.vk_hazards.specs.Inner.Parts.{destination_bytes}
use Rattle.vk_hazards.proofs.AreaLemmas.{added}
use Rattle.vk_hazards.proofs.regions.destinations.Goals as goal

pub loop-region-preserved : goal.loop-region-preserved
loop-region-preserved c = added (destination_bytes c.args.image c.args.texel) c.args.regions.now c.loop-region.region-index _ c.loop-region.areas.items _ (c.destination_box.result ∷ []) c.in_ok-push.ensures.items c.loop-region-test.true c.loop-region.invariant c.destination_box.ensures
