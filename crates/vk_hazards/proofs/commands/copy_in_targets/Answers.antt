use Rattle.std.proofs.Common.{List, Option, None, sym, subst}
use Rattle.std.specs.List.{flat_map}
use Rattle.vk_model.specs.declared.resource.ImageInfo.{ImageInfo}
use Rattle.vk_model.specs.World.ByteWrites.{copy_in_writes}
use Rattle.vk_model.specs.Sync.Access.{targets}
use Rattle.vk_hazards.specs.declared.areas.Area.{Area}
use Rattle.vk_hazards.specs.Areas.{AreAreas}
use Rattle.vk_hazards.proofs.CommandAreas.{some_in_targets, none_in_targets}
use Rattle.vk_hazards.proofs.commands.copy_in_targets.Goals as goal

pub returns-in_default : goal.returns-in_default
returns-in_default c = λ b.
    subst (λ (o : Option ImageInfo). AreAreas c.new.result.items (targets (flat_map (copy_in_writes b c.args.image o) c.args.regions.now))) (sym c.in_default.is)
    (subst (λ (l : List Area). AreAreas l (targets (flat_map (copy_in_writes b c.args.image None) c.args.regions.now))) (sym c.new.ensures.items) (none_in_targets b c.args.image c.args.regions.now))

pub returns : goal.returns
returns c = λ b.
    subst (λ (o : Option ImageInfo). AreAreas c.in_ok-areas.areas.items (targets (flat_map (copy_in_writes b c.args.image o) c.args.regions.now))) (sym c.in-Some.is)
    (some_in_targets c.in-Some.info c.texel_size.result c.texel_size.ensures.size c.in_ok-areas.areas.items b c.args.image c.args.regions.now c.in_ok-areas.ensures)
