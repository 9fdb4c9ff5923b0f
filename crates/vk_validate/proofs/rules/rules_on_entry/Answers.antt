use Rattle.std.proofs.Common.{◌∙◌, ap}
use Rattle.vk_model.specs.Trace.Point.{Host}
use Rattle.vk_validate.proofs.Judging.Rules.{entries_are, semaphores_are}
use Rattle.vk_validate.proofs.rules.rules_on_entry.Goals as goal

pub returns-in-Semaphore : goal.returns-in-Semaphore
returns-in-Semaphore c past p is = semaphores_are past p _ _ (is ∙ ap Host c.in-Semaphore.is)

pub returns-in_default : goal.returns-in_default
returns-in_default c past p is = entries_are past p _ is
