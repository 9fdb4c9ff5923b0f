use Rattle.std.proofs.Common.{List, Option, None, sym, subst}
use Rattle.std.specs.List.{flat_map}
use Rattle.vk_model.specs.declared.resource.ImageInfo.{ImageInfo}
use Rattle.vk_model.specs.World.ByteWrites.{copy_image_writes}
use Rattle.vk_model.specs.Sync.Access.{origins}
use Rattle.vk_hazards.specs.declared.areas.Area.{Area}
use Rattle.vk_hazards.specs.Areas.{AreAreas}
use Rattle.vk_hazards.proofs.CommandAreas.{some_image_reads, none_image_reads}
use Rattle.vk_hazards.proofs.commands.copy_image_reads.Goals as goal

pub returns-in_default : goal.returns-in_default
returns-in_default c = λ d.
    subst (λ (o : Option ImageInfo). AreAreas c.new.result.items (origins (flat_map (copy_image_writes c.args.source d o) c.args.regions.now))) (sym c.in_default.is)
    (subst (λ (l : List Area). AreAreas l (origins (flat_map (copy_image_writes c.args.source d None) c.args.regions.now))) (sym c.new.ensures.items) (none_image_reads c.args.source d c.args.regions.now))

pub returns : goal.returns
returns c = λ d.
    subst (λ (o : Option ImageInfo). AreAreas c.in_ok-areas.areas.items (origins (flat_map (copy_image_writes c.args.source d o) c.args.regions.now))) (sym c.in-Some.is)
    (some_image_reads c.in-Some.info c.texel_size.result c.texel_size.ensures.size c.in_ok-areas.areas.items c.args.source d c.args.regions.now c.in_ok-areas.ensures)
