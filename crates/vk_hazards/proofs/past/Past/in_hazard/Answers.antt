use Rattle.vk_hazards.proofs.FaultLemmas.{no_hazard_reported}
use Rattle.vk_hazards.proofs.past.Past.in_hazard.Goals as goal

pub returns-in-None : goal.returns-in-None
returns-in-None c = λ past p is. no_hazard_reported c.args.hazard c.args.self.now past p c.in_ok-fact.field-0 is c.in-None.is (c.in_ok-fact.ensures past p is)
