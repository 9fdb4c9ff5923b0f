use Rattle.std.proofs.Common.{◌≡◌, ◌+◌, ◌-◌, ◌*◌, arith}
use Rattle.vk_transfer.specs.Updates.{update_piece_size}
use Rattle.vk_transfer.proofs.UpdatePieces.{update_ran}
use Rattle.vk_transfer.proofs.updating.Update.run_piece.Goals as goal

pub returns-clause-ran : goal.returns-clause-ran
returns-clause-ran c = λ b.
    let size = update_piece_size c.args.self.now c.args.number in
    let taken : 4096 * c.args.number + size - 4096 * c.args.number ≡ size = omega arith in
    rw (c.write.ensures, c.piece_size-size.ensures, taken) (update_ran b c.args.self.now c.args.region.now c.args.start c.args.number c.requires.inside c.requires.piece)
