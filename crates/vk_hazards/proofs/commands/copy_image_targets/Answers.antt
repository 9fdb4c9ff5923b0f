use Rattle.std.proofs.Common.{List, Option, None, sym, subst}
use Rattle.std.specs.List.{flat_map}
use Rattle.vk_model.specs.declared.resource.ImageInfo.{ImageInfo}
use Rattle.vk_model.specs.World.ByteWrites.{copy_image_writes}
use Rattle.vk_model.specs.Sync.Access.{targets}
use Rattle.vk_hazards.specs.declared.areas.Area.{Area}
use Rattle.vk_hazards.specs.Areas.{AreAreas}
use Rattle.vk_hazards.proofs.CommandAreas.{some_image_targets, none_image_targets}
use Rattle.vk_hazards.proofs.commands.copy_image_targets.Goals as goal

pub returns-in_default : goal.returns-in_default
returns-in_default c = λ s.
    subst (λ (o : Option ImageInfo). AreAreas c.new.result.items (targets (flat_map (copy_image_writes s c.args.destination o) c.args.regions.now))) (sym c.in_default.is)
    (subst (λ (l : List Area). AreAreas l (targets (flat_map (copy_image_writes s c.args.destination None) c.args.regions.now))) (sym c.new.ensures.items) (none_image_targets s c.args.destination c.args.regions.now))

pub returns : goal.returns
returns c = λ s.
    subst (λ (o : Option ImageInfo). AreAreas c.in_ok-areas.areas.items (targets (flat_map (copy_image_writes s c.args.destination o) c.args.regions.now))) (sym c.in-Some.is)
    (some_image_targets c.in-Some.info c.texel_size.result c.texel_size.ensures.size c.in_ok-areas.areas.items s c.args.destination c.args.regions.now c.in_ok-areas.ensures)
