use Rattle.vk_order.proofs.BarrierLemmas.{elements_come_alone, elements_see_alone}
use Rattle.vk_order.proofs.laws.elements_are_alone.Goals as goal

pub returns-clause-before : goal.returns-clause-before
returns-clause-before c = elements_come_alone

pub returns-clause-seen : goal.returns-clause-seen
returns-clause-seen c = elements_see_alone
