use Rattle.vk_rules.proofs.subresources.of_copy.Goals as goal

pub returns-in-Some-clause-reported : goal.returns-in-Some-clause-reported
returns-in-Some-clause-reported c = c.in-Some.ensures.reported c.args.destination
