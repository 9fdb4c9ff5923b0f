use Rattle.std.proofs.Common.{subst, sym}
use Rattle.vk_hazards.specs.declared.areas.Area.{Area}
use Rattle.vk_hazards.specs.Areas.{has}
use Rattle.vk_hazards.specs.Inner.Pairs.{IsMissed}
use Rattle.vk_hazards.proofs.past.Past.missing_in_area.Goals as goal

pub returns-in_ok-found-in-Bytes : goal.returns-in_ok-found-in-Bytes
returns-in_ok-found-in-Bytes c = λ x y pair.
    subst (λ (a : Area). IsMissed c.args.self.now c.args.hazard x y (has a) c.in_ok-found-in-Bytes.found) (sym c.in-Bytes.is) (c.in_ok-found-in-Bytes.ensures x y pair)

pub returns-in_ok-found-in-Texels : goal.returns-in_ok-found-in-Texels
returns-in_ok-found-in-Texels c = λ x y pair.
    subst (λ (a : Area). IsMissed c.args.self.now c.args.hazard x y (has a) c.in_ok-found-in-Texels.found) (sym c.in-Texels.is) (c.in_ok-found-in-Texels.ensures x y pair)
