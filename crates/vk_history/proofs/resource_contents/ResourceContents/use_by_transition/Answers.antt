use Rattle.std.proofs.Common.{sym}
use Rattle.vk_history.proofs.Kept.ImageSteps.{used_at}
use Rattle.vk_history.proofs.resource_contents.ResourceContents.use_by_transition.Goals as goal

pub returns-in_ok-transition : goal.returns-in_ok-transition
returns-in_ok-transition c = used_at c.args.family c.args.element.now c.args.self.now c.take_over.new.self c.transition.new.self (sym c.if-is_transition.ensures) c.in_ok-take_over.ensures c.in_ok-transition.ensures
