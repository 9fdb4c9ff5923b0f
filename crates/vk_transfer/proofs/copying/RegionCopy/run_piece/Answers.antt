use Rattle.std.proofs.Common.{◌≡◌, ◌+◌, ◌*◌, arith}
use Rattle.vk_transfer.proofs.CopiedBytes.{between_copied}
use Rattle.vk_transfer.proofs.copying.RegionCopy.run_piece.Goals as goal

pub returns-clause-ran : goal.returns-clause-ran
returns-clause-ran c = λ s d m n ne fits.
    let g = c.args.self.now.region in
    let part = c.piece-piece.ensures in
    let at : c.args.source_start + (g.source_offset + 4096 * c.args.number) ≡ c.args.source_start + g.source_offset + 4096 * c.args.number = omega arith in
    let to : c.args.destination_start + (g.destination_offset + 4096 * c.args.number) ≡ c.args.destination_start + g.destination_offset + 4096 * c.args.number = omega arith in
    rw (c.copy_between.ensures, part.size, part.from, part.to, at, to)
    (between_copied g c.args.number c.requires.piece s d ne c.args.source.now c.args.destination.now c.args.source_start m c.args.destination_start n fits c.requires.from c.requires.to)
