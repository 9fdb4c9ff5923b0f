use Rattle.std.proofs.Common.{List, get_or, ap, sym, subst, ◌∙◌}
use Rattle.std.specs.List.{Contains}
use Rattle.vk_model.specs.declared.command.ImageCopy.{ImageCopy}
use Rattle.vk_image_transfer.specs.Pieces.{piece_in, all_copied, copy_rows}
use Rattle.vk_transfer.proofs.Counting.{part_among, part_there}
use Rattle.vk_image_transfer.proofs.AllPieces.{image_found}
use Rattle.vk_image_transfer.proofs.regions.ImageCopyRows.find.Goals as goal

abbrev none : ImageCopy
none = record { source_level = 0; source_first_layer = 0; destination_level = 0; destination_first_layer = 0; layers = 0; source_x = 0; source_y = 0; destination_x = 0; destination_y = 0; width = 0; height = 0 }

pub returns-clause-piece : goal.returns-clause-piece
returns-clause-piece c = λ a b m.
    ap (λ (gs : List ImageCopy). piece_in (all_copied a b m gs) c.args.number) (sym c.self.view_is)
    ∙ image_found c.self.inside.regions.now c.self.inside.counts c.find-found.result.part c.args.number c.find-found.result.number none c.self.invariant c.find-found.ensures.inside c.find-found.ensures.low c.find-found.ensures.high a b m

pub returns-clause-region : goal.returns-clause-region
returns-clause-region c =
    let gs = c.self.inside.regions.now in
    let part = c.find-found.result.part in
    subst (λ (l : List ImageCopy). Contains l (get_or gs part none)) c.self.view_is
    (part_among gs part none (part_there copy_rows gs c.self.inside.counts part c.args.number c.find-found.result.number none c.self.invariant c.find-found.ensures.inside c.find-found.ensures.low c.find-found.ensures.high))
