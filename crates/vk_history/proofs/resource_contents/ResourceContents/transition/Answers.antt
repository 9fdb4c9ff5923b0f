use Rattle.std.proofs.Common.{sym}
use Rattle.vk_touches.proofs.PartChanges.{on_three}
use Rattle.vk_history.proofs.Kept.ImageSteps.{discarded_at}
use Rattle.vk_history.proofs.resource_contents.ResourceContents.transition.Goals as goal

pub returns-then-eq : goal.returns-then-eq
returns-then-eq c = on_three c.discard.result c.discard.ensures c.discard.ensures c.discard.ensures (λ lost more again. discarded_at c.args.element.now c.args.self.now c.discard.new.self (sym c.if-is_transition.ensures) (sym c.if-eq.ensures) lost)
