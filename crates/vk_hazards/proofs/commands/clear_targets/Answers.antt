use Rattle.std.proofs.Common.{List, Option, None, sym, subst}
use Rattle.std.specs.List.{flat_map}
use Rattle.vk_model.specs.declared.resource.ImageInfo.{ImageInfo}
use Rattle.vk_model.specs.World.ByteWrites.{clear_writes}
use Rattle.vk_model.specs.Sync.Access.{targets}
use Rattle.vk_hazards.specs.declared.areas.Area.{Area}
use Rattle.vk_hazards.specs.Areas.{AreAreas}
use Rattle.vk_hazards.proofs.CommandAreas.{some_cleared, none_cleared}
use Rattle.vk_hazards.proofs.commands.clear_targets.Goals as goal

pub returns-in_default : goal.returns-in_default
returns-in_default c = λ color.
    subst (λ (o : Option ImageInfo). AreAreas c.new.result.items (targets (flat_map (clear_writes c.args.image color o) c.args.ranges.now))) (sym c.in_default.is)
    (subst (λ (l : List Area). AreAreas l (targets (flat_map (clear_writes c.args.image color None) c.args.ranges.now))) (sym c.new.ensures.items) (none_cleared c.args.image color c.args.ranges.now))

pub returns : goal.returns
returns c = λ color.
    subst (λ (o : Option ImageInfo). AreAreas c.in_ok-areas.areas.items (targets (flat_map (clear_writes c.args.image color o) c.args.ranges.now))) (sym c.in-Some.is)
    (some_cleared c.args.image color c.in-Some.info c.args.ranges.now c.in_ok-areas.areas.items c.in_ok-areas.ensures)
