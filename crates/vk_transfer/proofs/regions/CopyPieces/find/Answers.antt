use Rattle.std.proofs.Common.{◌<◌, List, length, get_or, ap, sym, subst, ◌∙◌, arith}
use Rattle.std.specs.List.{Contains}
use Rattle.vk_model.specs.declared.command.BufferCopy.{BufferCopy}
use Rattle.vk_transfer.specs.Copies.{copy_pieces, copy_piece, region_count}
use Rattle.vk_transfer.proofs.Counting.{whole_sum, part_among, part_there, copy_count, copy_found, copy_there}
use Rattle.vk_transfer.proofs.regions.CopyPieces.find.Goals as goal

abbrev none : BufferCopy
none = record { source_offset = 0; destination_offset = 0; size = 0 }

pub find-found-requires-clause-last : goal.find-found-requires-clause-last
find-found-requires-clause-last c =
    let gs = c.self.inside.regions.now in
    let below : c.args.number < length (copy_pieces 0 0 gs) = subst (λ (l : List BufferCopy). c.args.number < length (copy_pieces 0 0 l)) (sym c.self.view_is) c.requires in
    omega (arith, below, whole_sum region_count gs c.self.inside.counts c.self.invariant, copy_count 0 0 gs)

pub returns-clause-piece : goal.returns-clause-piece
returns-clause-piece c = λ s d.
    ap (λ (gs : List BufferCopy). copy_piece s d gs c.args.number) (sym c.self.view_is)
    ∙ copy_found c.self.inside.regions.now c.self.inside.counts c.find-found.result.part c.args.number c.find-found.result.number none c.self.invariant c.find-found.ensures.inside c.find-found.ensures.low c.find-found.ensures.high s d

pub returns-clause-region : goal.returns-clause-region
returns-clause-region c =
    let gs = c.self.inside.regions.now in
    let part = c.find-found.result.part in
    subst (λ (l : List BufferCopy). Contains l (get_or gs part none)) c.self.view_is
    (part_among gs part none (part_there region_count gs c.self.inside.counts part c.args.number c.find-found.result.number none c.self.invariant c.find-found.ensures.inside c.find-found.ensures.low c.find-found.ensures.high))

pub returns-clause-number : goal.returns-clause-number
returns-clause-number c = copy_there c.self.inside.regions.now c.self.inside.counts c.find-found.result.part c.args.number c.find-found.result.number none c.self.invariant c.find-found.ensures.inside c.find-found.ensures.low c.find-found.ensures.high
