use Rattle.vk_hazards.specs.Latest.{IsBest}
use Rattle.vk_hazards.proofs.past.Past.hazard_fact.Given as goal

abbrev pub invariant-loop-later : goal.invariant-loop-later
invariant-loop-later l = IsBest l.self l.hazard l.first l.later l.found
