use Rattle.vk_model.proofs.Run.Pieces.{pieces_together}
use Rattle.vk_model.proofs.laws.pieces_are_byte_writes.Goals as goal

pub returns : goal.returns
returns c = pieces_together
