use Rattle.vk_nodes.proofs.FilledLemmas.{set-filled, set-seen}
use Rattle.vk_nodes.proofs.filled.Filled.set.Goals as goal

pub invariant_of-self : goal.invariant_of-self
invariant_of-self c = set-filled _ _ c.self.view_is c.self.invariant _ _ _ c.requires c.hold.ensures.nodes c.hold.ensures.names

pub returns : goal.returns
returns c = set-seen _ _ c.self.view_is c.self.invariant _ _ _ c.requires c.hold.ensures.nodes c.hold.ensures.names
