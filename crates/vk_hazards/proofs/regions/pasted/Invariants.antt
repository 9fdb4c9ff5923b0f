use Rattle.std.proofs.Common.{take}
use Rattle.std.specs.List.{flat_map}
use Rattle.vk_model.specs.Sync.Access.{bytes_of}
use Rattle.vk_hazards.specs.Areas.{AreAreas}
use Rattle.vk_hazards.proofs.regions.pasted.Given as goal

abbrev pub invariant-loop-region : goal.invariant-loop-region
invariant-loop-region l = AreAreas l.areas.items (flat_map (λ g. bytes_of l.destination g.destination_offset g.size) (take l.region-index l.regions))
