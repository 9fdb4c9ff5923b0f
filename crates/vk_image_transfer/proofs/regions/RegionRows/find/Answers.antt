use Rattle.std.proofs.Common.{List, get_or, ap, sym, subst, ◌∙◌}
use Rattle.std.specs.List.{Contains}
use Rattle.vk_model.specs.declared.command.BufferImageCopy.{BufferImageCopy}
use Rattle.vk_model.specs.World.Areas.{row_count}
use Rattle.vk_image_transfer.specs.Pieces.{piece_in, all_copied_in, all_copied_out}
use Rattle.vk_transfer.proofs.Counting.{part_among, part_there}
use Rattle.vk_image_transfer.proofs.AllPieces.{in_found, out_found}
use Rattle.vk_image_transfer.proofs.regions.RegionRows.find.Goals as goal

abbrev none : BufferImageCopy
none = record { buffer_offset = 0; row_length = 0; image_height = 0; level = 0; first_layer = 0; layers = 0; x = 0; y = 0; width = 0; height = 0 }

pub returns-clause-copied_in : goal.returns-clause-copied_in
returns-clause-copied_in c = λ a b m.
    ap (λ (gs : List BufferImageCopy). piece_in (all_copied_in a b m gs) c.args.number) (sym c.self.view_is)
    ∙ in_found c.self.inside.regions.now c.self.inside.counts c.find-found.result.part c.args.number c.find-found.result.number none c.self.invariant c.find-found.ensures.inside c.find-found.ensures.low c.find-found.ensures.high a b m

pub returns-clause-copied_out : goal.returns-clause-copied_out
returns-clause-copied_out c = λ a b m.
    ap (λ (gs : List BufferImageCopy). piece_in (all_copied_out a b m gs) c.args.number) (sym c.self.view_is)
    ∙ out_found c.self.inside.regions.now c.self.inside.counts c.find-found.result.part c.args.number c.find-found.result.number none c.self.invariant c.find-found.ensures.inside c.find-found.ensures.low c.find-found.ensures.high a b m

pub returns-clause-region : goal.returns-clause-region
returns-clause-region c =
    let gs = c.self.inside.regions.now in
    let part = c.find-found.result.part in
    subst (λ (l : List BufferImageCopy). Contains l (get_or gs part none)) c.self.view_is
    (part_among gs part none (part_there row_count gs c.self.inside.counts part c.args.number c.find-found.result.number none c.self.invariant c.find-found.ensures.inside c.find-found.ensures.low c.find-found.ensures.high))
