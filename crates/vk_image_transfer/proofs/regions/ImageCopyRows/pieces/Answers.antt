use Rattle.std.proofs.Common.{List, length, ap, ◌∙◌}
use Rattle.vk_model.specs.declared.command.ImageCopy.{ImageCopy}
use Rattle.vk_image_transfer.specs.Pieces.{all_copied, copy_rows}
use Rattle.vk_transfer.proofs.Counting.{whole_sum}
use Rattle.vk_image_transfer.proofs.AllPieces.{image_count}
use Rattle.vk_image_transfer.proofs.regions.ImageCopyRows.pieces.Goals as goal

pub returns-clause-pieces : goal.returns-clause-pieces
returns-clause-pieces c = λ a b m.
    let gs = c.self.inside.regions.now in
    c.all.ensures ∙ whole_sum copy_rows gs c.self.inside.counts c.self.invariant ∙ image_count a b m gs ∙ ap (λ (l : List ImageCopy). length (all_copied a b m l)) c.self.view_is
