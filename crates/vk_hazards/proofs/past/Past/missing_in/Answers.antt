use Rattle.std.proofs.Common.{◌&&◌}
use Rattle.vk_hazards.specs.Areas.{has}
use Rattle.vk_hazards.proofs.HazardLemmas.{missed_as}
use Rattle.vk_hazards.proofs.past.Past.missing_in.Goals as goal

pub returns : goal.returns
returns c = λ x y pair.
    missed_as c.args.self.now c.args.hazard x y (has c.in-Some.area) (λ b. has c.args.first.now b && has c.args.second.now b) c.in-Some.ensures.some c.in_ok-found.found (c.in_ok-found.ensures x y pair)
