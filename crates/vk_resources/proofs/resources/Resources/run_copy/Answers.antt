use Rattle.std.proofs.Common.{◌≡◌, refl, sym, ap, ◌∙◌, subst, arith}
use Rattle.vk_model.specs.World.ByteWrites.{copy_writes}
use Rattle.vk_transfer.specs.Copies.{copy_piece}
use Rattle.vk_resources.specs.Held.{Held, placed, shape_of, flat}
use Rattle.vk_resources.specs.Inner.Steps.{IsPlaced, HasRun}
use Rattle.vk_resources.proofs.Placing.{inside_of}
use Rattle.vk_resources.proofs.Matching.{flat_parts}
use Rattle.vk_resources.proofs.Commands.{piece_fits, copy_piece_ran}
use Rattle.vk_resources.proofs.resources.Resources.run_copy.Goals as goal

pub overflow_add-source : goal.overflow_add-source
overflow_add-source c =
    let s : Held = record { memory = c.self.inside.memories; backed = c.self.inside.backing; resources = c.self.inside.resources.entries; shapes = c.self.inside.shapes.entries; cache = c.self.inside.cache } in
    let at : IsPlaced s c.args.source = subst (λ (h : Held). IsPlaced h c.args.source) (sym c.self.view_is) c.requires.source in
    let inside = (inside_of s.memory s.backed s.resources c.self.invariant.0 at.0 c.args.source (flat_parts (shape_of s at.0) (placed s at.0) c.args.source at.1).1).room in
    let fits = piece_fits c.args.source c.args.destination c.args.pieces.now c.find-found.result.copy.region c.find-found.result.number c.piece-piece.result c.requires.piece.1 c.find-found.ensures.region c.find-found.ensures.number
    c.piece-piece.ensures.from c.piece-piece.ensures.to c.piece-piece.ensures.size in
    let fits_from = fits.0 in
    let size = rw c.region.ensures at c.size.ensures in
    let below = c.size.type_inv in
    omega (arith, inside, fits_from, size, below)

pub overflow_add-destination : goal.overflow_add-destination
overflow_add-destination c =
    let s : Held = record { memory = c.self.inside.memories; backed = c.self.inside.backing; resources = c.self.inside.resources.entries; shapes = c.self.inside.shapes.entries; cache = c.self.inside.cache } in
    let at : IsPlaced s c.args.destination = subst (λ (h : Held). IsPlaced h c.args.destination) (sym c.self.view_is) c.requires.destination in
    let inside = (inside_of s.memory s.backed s.resources c.self.invariant.0 at.0 c.args.destination (flat_parts (shape_of s at.0) (placed s at.0) c.args.destination at.1).1).room in
    let fits = piece_fits c.args.source c.args.destination c.args.pieces.now c.find-found.result.copy.region c.find-found.result.number c.piece-piece.result c.requires.piece.1 c.find-found.ensures.region c.find-found.ensures.number
    c.piece-piece.ensures.from c.piece-piece.ensures.to c.piece-piece.ensures.size in
    let fits_to = fits.1 in
    let size = rw c.region-2.ensures at c.size-2.ensures in
    let below = c.size-2.type_inv in
    omega (arith, inside, fits_to, size, below)

pub invariant_of-self : goal.invariant_of-self
invariant_of-self c =
    let s : Held = record { memory = c.self.inside.memories; backed = c.self.inside.backing; resources = c.self.inside.resources.entries; shapes = c.self.inside.shapes.entries; cache = c.self.inside.cache } in
    let from : IsPlaced s c.args.source = subst (λ (h : Held). IsPlaced h c.args.source) (sym c.self.view_is) c.requires.source in
    let to : IsPlaced s c.args.destination = subst (λ (h : Held). IsPlaced h c.args.destination) (sym c.self.view_is) c.requires.destination in
    let fits = piece_fits c.args.source c.args.destination c.args.pieces.now c.find-found.result.copy.region c.find-found.result.number c.piece-piece.result c.requires.piece.1 c.find-found.ensures.region c.find-found.ensures.number
    c.piece-piece.ensures.from c.piece-piece.ensures.to c.piece-piece.ensures.size in
    (copy_piece_ran s c.self.invariant to.0 c.args.destination to.1 from.0 c.args.source c.piece-piece.result (copy_writes from.0 to.0 c.piece-piece.result) c.copy.new.self from.1 fits refl c.copy.ensures).0

pub returns : goal.returns
returns c = λ b d here there.
    let s : Held = record { memory = c.self.inside.memories; backed = c.self.inside.backing; resources = c.self.inside.resources.entries; shapes = c.self.inside.shapes.entries; cache = c.self.inside.cache } in
    let fits = piece_fits c.args.source c.args.destination c.args.pieces.now c.find-found.result.copy.region c.find-found.result.number c.piece-piece.result c.requires.piece.1 c.find-found.ensures.region c.find-found.ensures.number
    c.piece-piece.ensures.from c.piece-piece.ensures.to c.piece-piece.ensures.size in
    let same : copy_piece b d c.args.pieces.now c.args.number ≡ copy_writes b d c.piece-piece.result = c.find-found.ensures.piece b d ∙ sym (c.piece-piece.ensures.writes b d) in
    subst (λ (h : Held). HasRun h (record s { memory = c.copy.new.self }) (copy_piece b d c.args.pieces.now c.args.number)) c.self.view_is
    (copy_piece_ran s c.self.invariant d c.args.destination (ap (λ (h : Held). flat h d) c.self.view_is ∙ there) b c.args.source c.piece-piece.result (copy_piece b d c.args.pieces.now c.args.number) c.copy.new.self
    (ap (λ (h : Held). flat h b) c.self.view_is ∙ here) fits same c.copy.ensures).1
