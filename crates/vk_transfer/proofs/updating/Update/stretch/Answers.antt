use Rattle.vk_transfer.proofs.UpdatePieces.{update_stretch}
use Rattle.vk_transfer.proofs.updating.Update.stretch.Goals as goal

pub returns-clause-written : goal.returns-clause-written
returns-clause-written c = λ b. update_stretch b c.args.self.now c.args.number c.piece_size.result c.args.start c.requires.piece c.piece_size.ensures
