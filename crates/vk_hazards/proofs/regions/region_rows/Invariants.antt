use Rattle.vk_model.specs.Basics.{below}
use Rattle.std.specs.List.{flat_map}
use Rattle.vk_hazards.specs.Inner.Parts.{layer_bytes}
use Rattle.vk_hazards.specs.Areas.{AreAreas}
use Rattle.vk_hazards.proofs.regions.region_rows.Given as goal

abbrev pub invariant-loop-layer : goal.invariant-loop-layer
invariant-loop-layer l = AreAreas l.areas.items (flat_map (λ z. layer_bytes l.buffer l.texel l.region z) (below l.layer))
