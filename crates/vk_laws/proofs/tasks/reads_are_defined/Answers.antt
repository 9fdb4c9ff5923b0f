use Rattle.vk_laws.proofs.Bytes.ModelBytes.{read_defined}
use Rattle.vk_laws.proofs.tasks.reads_are_defined.Goals as goal

pub returns : goal.returns
returns c = λ all next b none reads host. read_defined c.pieces_are_byte_writes.ensures c.pieces_write_apart.ensures all ((c.no_fault_is_unbroken.ensures all).0 none) next b reads host
