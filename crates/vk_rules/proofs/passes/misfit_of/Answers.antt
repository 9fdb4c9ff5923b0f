use Rattle.vk_rules.proofs.passes.misfit_of.Goals as goal

pub returns-in-EndPass-clause-broken : goal.returns-in-EndPass-clause-broken
returns-in-EndPass-clause-broken c = rw c.in-EndPass.is c.no_pass_of.ensures.broken
