use Rattle.std.proofs.Common.{sym, ◌∙◌}
use Rattle.vk_resources.proofs.HostAccesses.{counted, uncounted}
use Rattle.vk_resources.proofs.resources.Resources.atoms.Goals as goal

pub returns-in-Some-cached-clause-counted : goal.returns-in-Some-cached-clause-counted
returns-in-Some-cached-clause-counted c = λ past m fits. c.atoms_in.ensures ∙ sym (counted past c.args.self.now m.live c.args.entry.now c.in-Some.buffer (sym c.in-Some.ensures) fits c.in-Some-cached.placed (sym c.in-Some-cached.ensures))

pub returns-in-None-cached-clause-counted : goal.returns-in-None-cached-clause-counted
returns-in-None-cached-clause-counted c = λ past m fits. uncounted past c.args.self.now m.live c.args.entry.now c.in-Some.buffer (sym c.in-Some.ensures) fits (sym c.in-None-cached.ensures)
