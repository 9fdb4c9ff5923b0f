use Rattle.std.proofs.Common.{List, length, ap, ◌∙◌}
use Rattle.vk_model.specs.declared.command.BufferImageCopy.{BufferImageCopy}
use Rattle.vk_model.specs.World.Areas.{row_count}
use Rattle.vk_image_transfer.specs.Pieces.{all_copied_in, all_copied_out}
use Rattle.vk_transfer.proofs.Counting.{whole_sum}
use Rattle.vk_image_transfer.proofs.AllPieces.{in_count, out_count}
use Rattle.vk_image_transfer.proofs.regions.RegionRows.pieces.Goals as goal

pub returns-clause-copied_in : goal.returns-clause-copied_in
returns-clause-copied_in c = λ a b m.
    let gs = c.self.inside.regions.now in
    c.all.ensures ∙ whole_sum row_count gs c.self.inside.counts c.self.invariant ∙ in_count a b m gs ∙ ap (λ (l : List BufferImageCopy). length (all_copied_in a b m l)) c.self.view_is

pub returns-clause-copied_out : goal.returns-clause-copied_out
returns-clause-copied_out c = λ a b m.
    let gs = c.self.inside.regions.now in
    c.all.ensures ∙ whole_sum row_count gs c.self.inside.counts c.self.invariant ∙ out_count a b m gs ∙ ap (λ (l : List BufferImageCopy). length (all_copied_out a b m l)) c.self.view_is
