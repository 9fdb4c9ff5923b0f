use Rattle.vk_hazards.proofs.FaultLemmas.{none_reported, some_reported}
use Rattle.vk_hazards.proofs.facts.fact_of_fault.Goals as goal

pub returns-in_default : goal.returns-in_default
returns-in_default c = none_reported c.args.entries.now c.args.at c.args.rule c.in_ok-past.field-0 c.requires c.in_default.is c.in_ok-past.ensures

pub returns : goal.returns
returns c = some_reported c.args.entries.now c.args.at c.args.rule c.in_ok-past.field-0 c.in-Some.past c.in_ok-found.found c.requires c.in-Some.is c.in_ok-past.ensures c.in_ok-found.ensures
