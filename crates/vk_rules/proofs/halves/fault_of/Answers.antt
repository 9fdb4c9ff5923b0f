use Rattle.vk_rules.proofs.halves.fault_of.Goals as goal

pub returns-in-Some-clause-fault : goal.returns-in-Some-clause-fault
returns-in-Some-clause-fault c = λ done w are. c.in-Some.ensures.fault c.args.point.now.queue c.args.element.now (w.owner c.args.resource)
