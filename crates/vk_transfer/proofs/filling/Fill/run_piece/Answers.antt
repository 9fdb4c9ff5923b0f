use Rattle.vk_transfer.proofs.FillPieces.{piece_ran}
use Rattle.vk_transfer.proofs.filling.Fill.run_piece.Goals as goal

pub returns-clause-ran : goal.returns-clause-ran
returns-clause-ran c = λ b. rw (c.fill.ensures, c.piece_size-size.ensures) (piece_ran b c.args.self.now c.args.region.now c.args.start c.args.number c.requires.whole c.requires.inside c.requires.piece)
