use Rattle.vk_laws.proofs.Accesses.HazardFree.{hazard_free}
use Rattle.vk_laws.proofs.tasks.trace_is_hazard_free.Goals as goal

pub returns : goal.returns
returns c = λ all none. hazard_free c.pieces_are_byte_writes.ensures c.pieces_write_apart.ensures all ((c.no_fault_is_unbroken.ensures all).0 none) c.accesses_in_order.ensures none
