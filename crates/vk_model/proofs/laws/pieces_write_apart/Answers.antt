use Rattle.vk_model.proofs.Run.Apart.{write_apart}
use Rattle.vk_model.proofs.laws.pieces_write_apart.Goals as goal

pub returns : goal.returns
returns c = write_apart
