use Rattle.std.proofs.Common.{arith}
use Rattle.vk_nodes.proofs.FilledLemmas.{counted, free-within}
use Rattle.vk_nodes.proofs.filled.Filled.free_slots.Goals as goal

pub overflow_add-result : goal.overflow_add-result
overflow_add-result c =
    let i = c.self.invariant in record { fits = omega (arith, free-within _ _ c.self.view_is i, i.used, i.slots, i.few) }

pub returns : goal.returns
returns c = counted _ _ c.self.view_is c.self.invariant
