use Rattle.std.proofs.Common.{List, refl, subst}
use Rattle.vk_model.specs.declared.command.Dependency.{Dependency}
use Rattle.vk_rules.specs.Synchronization.{IsDifference}
use Rattle.vk_rules.proofs.synchronization.otherwise_than.Goals as goal

pub returns-clause-reported : goal.returns-clause-reported
returns-clause-reported c = λ past only. record {
  event = refl;
  element = λ es there. subst (λ (l : List Dependency). IsDifference c.args.elements.now l c.in_ok-element.element) (only es there) c.in_ok-element.ensures.reported;
}
