use Rattle.std.proofs.Common.{List, sym, subst}
use Rattle.vk_model.specs.Sync.Access.{bytes_of}
use Rattle.vk_hazards.specs.declared.areas.Area.{Area}
use Rattle.vk_hazards.specs.Areas.{AreAreas}
use Rattle.vk_hazards.proofs.CommandAreas.{fill_targets}
use Rattle.vk_hazards.proofs.commands.fill_targets.Goals as goal

pub returns : goal.returns
returns c = λ w. fill_targets c.args.buffer c.args.offset c.args.size w c.in_ok-areas.areas.items
    (subst (λ (l : List Area). AreAreas l (bytes_of c.args.buffer c.args.offset c.args.size)) (sym c.in_ok-areas.ensures) c.bytes.ensures)
