use Rattle.vk_laws.proofs.Accesses.TaskAccesses.{settled}
use Rattle.vk_laws.proofs.tasks.trace_is_settled.Goals as goal

pub returns : goal.returns
returns c = λ all done next none ok may. settled c.pieces_are_byte_writes.ensures c.accesses_in_order.ensures all none done next ok may
