use Rattle.vk_model.specs.declared.rule.Rule.TheVariants as rule
use Rattle.vk_model.specs.Rules.Table.{breaks}
use Rattle.vk_laws.proofs.Nodes.NoHazard.{no_hazard}
use Rattle.vk_laws.proofs.trace.no_hazard.Goals as goal

pub returns : goal.returns
unfolding breaks
returns c = λ all past p x y none comes cx cy new first.
    let sound = (c.no_fault_is_unbroken.ensures all).0 none in
    no_hazard c.growth_keeps.ensures all past p comes x y cx cy new first
    (λ h. sound past p rule.HazardWar (comes, h)) (λ h. sound past p rule.HazardRaw (comes, h)) (λ h. sound past p rule.HazardWaw (comes, h))
