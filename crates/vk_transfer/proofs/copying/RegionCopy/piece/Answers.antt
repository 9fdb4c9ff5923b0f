use Rattle.vk_transfer.proofs.CopiedBytes.{part_writes}
use Rattle.vk_transfer.proofs.copying.RegionCopy.piece.Goals as goal

pub returns-clause-writes : goal.returns-clause-writes
returns-clause-writes c = λ s d. rw c.piece_size.ensures (part_writes s d c.args.self.now.region c.args.number c.requires.piece)
