use Rattle.vk_laws.proofs.Bytes.ModelBytes.{is_model}
use Rattle.vk_laws.proofs.tasks.trace_is_modelled.Goals as goal

pub returns : goal.returns
returns c = λ all none. is_model c.pieces_are_byte_writes.ensures c.pieces_write_apart.ensures all ((c.no_fault_is_unbroken.ensures all).0 none)
