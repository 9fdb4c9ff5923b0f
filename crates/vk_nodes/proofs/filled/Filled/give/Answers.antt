use Rattle.std.proofs.Common.{arith}
use Rattle.vk_nodes.proofs.FilledLemmas.{push-room, push-filled, push-seen, freed-room}
use Rattle.vk_nodes.proofs.filled.Filled.give.Goals as goal

pub set_name-requires : goal.set_name-requires
set_name-requires c = freed-room _ _ c.self.view_is c.self.invariant _ c.requires _ c.release.ensures.nodes

pub overflow_add-self : goal.overflow_add-self
overflow_add-self c =
    let i = c.self.invariant in record { fits = omega (arith, push-room _ _ c.self.view_is i _ c.requires, i.long, i.few) }

pub invariant_of-self : goal.invariant_of-self
invariant_of-self c = push-filled _ _ c.self.view_is c.self.invariant _ c.requires _ _ c.release.ensures.nodes c.release.ensures.names c.set_name.ensures.nodes c.set_name.ensures.names

pub returns : goal.returns
returns c = push-seen _ _ c.self.view_is c.self.invariant _ c.requires _ _ c.release.ensures.nodes c.release.ensures.names c.set_name.ensures.nodes c.set_name.ensures.names
