use Rattle.vk_transfer.proofs.CopiedBytes.{copy_stretch}
use Rattle.vk_transfer.proofs.copying.RegionCopy.stretch.Goals as goal

pub returns-clause-written : goal.returns-clause-written
returns-clause-written c = λ s d. copy_stretch s d c.args.self.now.region c.args.number c.piece_size.result c.args.start c.requires.piece c.piece_size.ensures
