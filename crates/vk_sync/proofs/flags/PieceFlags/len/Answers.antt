use Rattle.std.proofs.Common.{◌∙◌, ap, sym, length}
use Rattle.vk_sync.proofs.LeftLemmas.{left_len}
use Rattle.vk_sync.proofs.flags.PieceFlags.len.Goals as goal

pub returns : goal.returns
returns c = c.total.ensures ∙ sym (left_len c.self.inside.flags.items c.self.inside.groups c.self.invariant.0) ∙ ap length c.self.view_is
