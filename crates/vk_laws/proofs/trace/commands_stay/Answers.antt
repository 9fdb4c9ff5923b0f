use Rattle.vk_model.specs.declared.rule.Rule.TheVariants as rule
use Rattle.vk_model.specs.Rules.Table.{breaks}
use Rattle.vk_laws.proofs.Nodes.Steady.{commands_stay}
use Rattle.vk_laws.proofs.trace.commands_stay.Goals as goal

pub returns : goal.returns
unfolding breaks
returns c = λ all newer between past p command none same action.
    let sound = (c.no_fault_is_unbroken.ensures all).0 none in
    commands_stay all newer between past p command same action (λ b q comes h. sound b q rule.NewId (comes, h)) (λ b q comes h. sound b q rule.LiveId (comes, h))
