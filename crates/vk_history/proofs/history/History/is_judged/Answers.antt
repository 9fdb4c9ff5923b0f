use Rattle.vk_history.proofs.history.History.is_judged.Goals as goal

pub returns : goal.returns
returns c = rw c.self.view_is at c.self.invariant.2
