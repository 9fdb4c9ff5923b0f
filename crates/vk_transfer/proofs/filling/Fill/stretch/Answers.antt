use Rattle.vk_transfer.proofs.FillPieces.{fill_stretch}
use Rattle.vk_transfer.proofs.filling.Fill.stretch.Goals as goal

pub returns-clause-written : goal.returns-clause-written
returns-clause-written c = λ b. fill_stretch b c.args.self.now c.args.number c.piece_size.result c.args.start c.requires.piece c.piece_size.ensures
