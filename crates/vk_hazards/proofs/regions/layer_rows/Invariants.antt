use Rattle.vk_model.specs.Basics.{below}
use Rattle.std.specs.List.{flat_map}
use Rattle.vk_hazards.specs.Inner.Parts.{row_bytes}
use Rattle.vk_hazards.specs.Areas.{AreAreas}
use Rattle.vk_hazards.proofs.regions.layer_rows.Given as goal

abbrev pub invariant-loop-row : goal.invariant-loop-row
invariant-loop-row l = AreAreas l.areas.items (flat_map (λ y. row_bytes l.buffer l.texel l.region l.layer y) (below l.row))
