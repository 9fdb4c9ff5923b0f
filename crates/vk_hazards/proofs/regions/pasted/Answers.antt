use Rattle.std.proofs.Common.{◌∷◌, []}
use Rattle.vk_model.specs.Sync.Access.{bytes_of}
use Rattle.vk_hazards.proofs.AreaLemmas.{added}
use Rattle.vk_hazards.proofs.regions.pasted.Goals as goal

pub loop-region-preserved : goal.loop-region-preserved
loop-region-preserved c = added (λ g. bytes_of c.args.destination g.destination_offset g.size) c.args.regions.now c.loop-region.region-index _ c.loop-region.areas.items _ (c.bytes.result ∷ []) c.in_ok-push.ensures.items c.loop-region-test.true c.loop-region.invariant c.bytes.ensures
