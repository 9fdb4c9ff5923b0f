use Rattle.std.proofs.Common.{◌≡◌, ap, sym, subst, ◌∙◌, Some}
use Rattle.vk_model.specs.declared.resource.ImageInfo.{ImageInfo}
use Rattle.vk_image_transfer.specs.Pieces.{piece_in, all_cleared}
use Rattle.vk_resources.specs.Held.{Held, placed, shape_of}
use Rattle.vk_resources.specs.Inner.Images.{ClearReady}
use Rattle.vk_resources.specs.Inner.Steps.{HasRun}
use Rattle.vk_resources.proofs.Commands.{with_bytes}
use Rattle.vk_resources.proofs.ImageSteps.{clear_step, room_step}
use Rattle.vk_resources.proofs.resources.Resources.run_clear.Goals as goal

pub run_piece-requires-clause-inside : goal.run_piece-requires-clause-inside
run_piece-requires-clause-inside c =
    let s : Held = record { memory = c.self.inside.memories; backed = c.self.inside.backing; resources = c.self.inside.resources.entries; shapes = c.self.inside.shapes.entries; cache = c.self.inside.cache } in
    rw c.region_mut-region.ensures.value (room_step s c.self.invariant c.args.image c.shape_at-shape.result.now c.picture-at.result c.shape_at-shape.ensures (ap (λ (h : Held). placed h c.args.image) c.self.view_is ∙ c.picture-at.ensures))

pub invariant_of-self : goal.invariant_of-self
invariant_of-self c =
    let s : Held = record { memory = c.self.inside.memories; backed = c.self.inside.backing; resources = c.self.inside.resources.entries; shapes = c.self.inside.shapes.entries; cache = c.self.inside.cache } in
    (clear_step s c.self.invariant c.texels_apart.ensures c.texels_inside.ensures c.args.image c.shape_at-shape.result.now c.picture-at.result c.shape_at-shape.ensures (ap (λ (h : Held). placed h c.args.image) c.self.view_is ∙ c.picture-at.ensures)
    c.args.clear.now.color c.args.clear.now.ranges.now c.args.number (subst (λ (h : Held). ClearReady h c.args.image c.args.clear.now.ranges.now c.args.number) (sym c.self.view_is) c.requires)
    c.find-found.result.clear c.find-found.result.number c.run_piece.new.region (c.find-found.ensures.piece c.args.image) c.find-found.ensures.range c.find-found.ensures.high c.find-found.ensures.row
    (rw c.region_mut-region.ensures.value at c.run_piece.ensures.kept)).0

pub returns : goal.returns
returns c =
    let s : Held = record { memory = c.self.inside.memories; backed = c.self.inside.backing; resources = c.self.inside.resources.entries; shapes = c.self.inside.shapes.entries; cache = c.self.inside.cache } in
    let new : Held = with_bytes s c.picture-at.result.object c.run_piece.new.region in
    subst (λ (h : Held). (m : ImageInfo) → shape_of h c.args.image ≡ Some m → HasRun h new (piece_in (all_cleared c.args.image c.args.clear.now.color m c.args.clear.now.ranges.now) c.args.number)) c.self.view_is
    (clear_step s c.self.invariant c.texels_apart.ensures c.texels_inside.ensures c.args.image c.shape_at-shape.result.now c.picture-at.result c.shape_at-shape.ensures (ap (λ (h : Held). placed h c.args.image) c.self.view_is ∙ c.picture-at.ensures)
    c.args.clear.now.color c.args.clear.now.ranges.now c.args.number (subst (λ (h : Held). ClearReady h c.args.image c.args.clear.now.ranges.now c.args.number) (sym c.self.view_is) c.requires)
    c.find-found.result.clear c.find-found.result.number c.run_piece.new.region (c.find-found.ensures.piece c.args.image) c.find-found.ensures.range c.find-found.ensures.high c.find-found.ensures.row
    (rw c.region_mut-region.ensures.value at c.run_piece.ensures.kept)).1
