use Rattle.std.proofs.Common.{rules}
use Rattle.vk_hazards.specs.Inner.Parts.{layer_bytes}
use Rattle.vk_hazards.proofs.AreaLemmas.{added_at}
use Rattle.vk_hazards.proofs.regions.region_rows.Goals as goal

pub loop-layer-preserved : goal.loop-layer-preserved
loop-layer-preserved c = added_at (λ z. layer_bytes c.args.buffer c.args.texel c.args.region.now z) c.loop-layer.layer c.loop-layer.areas.items _ c.in_ok-more.more.items (search rules) c.loop-layer.invariant c.in_ok-more.ensures
