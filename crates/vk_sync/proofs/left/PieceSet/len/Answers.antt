use Rattle.std.proofs.Common.{◌∙◌, ap, length}
use Rattle.vk_sync.proofs.LeftLemmas.{counted_len}
use Rattle.vk_sync.proofs.left.PieceSet.len.Goals as goal

pub returns : goal.returns
returns c = counted_len c.self.inside.count c.self.inside.many c.self.invariant ∙ ap length c.self.view_is
