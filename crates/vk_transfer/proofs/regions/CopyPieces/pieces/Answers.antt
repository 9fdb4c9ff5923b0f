use Rattle.std.proofs.Common.{List, length, ap, ◌∙◌}
use Rattle.vk_model.specs.declared.command.BufferCopy.{BufferCopy}
use Rattle.vk_transfer.specs.Copies.{copy_pieces, region_count}
use Rattle.vk_transfer.proofs.Counting.{whole_sum, copy_count}
use Rattle.vk_transfer.proofs.regions.CopyPieces.pieces.Goals as goal

pub returns : goal.returns
returns c = λ s d.
    let gs = c.self.inside.regions.now in
    c.all.ensures ∙ whole_sum region_count gs c.self.inside.counts c.self.invariant ∙ copy_count s d gs ∙ ap (λ (l : List BufferCopy). length (copy_pieces s d l)) c.self.view_is
