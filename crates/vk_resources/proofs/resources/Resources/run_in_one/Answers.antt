use Rattle.std.proofs.Common.{◌≡◌, ap, sym, subst, ◌∙◌, Some}
use Rattle.vk_model.specs.declared.resource.ImageInfo.{ImageInfo}
use Rattle.vk_image_transfer.specs.Pieces.{piece_in, copy_image_pieces}
use Rattle.vk_resources.specs.Held.{Held, placed, shape_of}
use Rattle.vk_resources.specs.Inner.Images.{ImageRowReady}
use Rattle.vk_resources.specs.Inner.Steps.{HasRun}
use Rattle.vk_resources.proofs.Commands.{with_bytes}
use Rattle.vk_resources.proofs.ImageSteps.{room_step, image_step}
use Rattle.vk_resources.proofs.resources.Resources.run_in_one.Goals as goal

pub run_piece_in_one-requires-clause-inside : goal.run_piece_in_one-requires-clause-inside
run_piece_in_one-requires-clause-inside c =
    let s : Held = record { memory = c.self.inside.memories; backed = c.self.inside.backing; resources = c.self.inside.resources.entries; shapes = c.self.inside.shapes.entries; cache = c.self.inside.cache } in
    rw c.region_mut-region.ensures.value (room_step s c.self.invariant c.args.image c.shape_at-shape.result.now c.picture-at.result c.shape_at-shape.ensures (ap (λ (h : Held). placed h c.args.image) c.self.view_is ∙ c.picture-at.ensures))

pub invariant_of-self : goal.invariant_of-self
invariant_of-self c =
    let s : Held = record { memory = c.self.inside.memories; backed = c.self.inside.backing; resources = c.self.inside.resources.entries; shapes = c.self.inside.shapes.entries; cache = c.self.inside.cache } in
    (image_step s c.self.invariant c.args.image c.args.image c.args.row.region c.args.row.number (subst (λ (h : Held). ImageRowReady h c.args.image c.args.image c.args.row.region c.args.row.number) (sym c.self.view_is) c.requires)
    c.shape_at-shape.result.now c.shape_at-shape.result.now c.picture-at.result c.picture-at.result c.shape_at-shape.ensures c.shape_at-shape.ensures (ap (λ (h : Held). placed h c.args.image) c.self.view_is ∙ c.picture-at.ensures) (ap (λ (h : Held). placed h c.args.image) c.self.view_is ∙ c.picture-at.ensures)
    c.texels_apart.ensures c.texels_inside.ensures c.run_piece_in_one.new.region (rw c.region_mut-region.ensures.value at c.run_piece_in_one.ensures.kept)).0

pub returns : goal.returns
returns c =
    let s : Held = record { memory = c.self.inside.memories; backed = c.self.inside.backing; resources = c.self.inside.resources.entries; shapes = c.self.inside.shapes.entries; cache = c.self.inside.cache } in
    let new : Held = with_bytes s c.picture-at.result.object c.run_piece_in_one.new.region in
    subst (λ (h : Held). (m : ImageInfo) → shape_of h c.args.image ≡ Some m → HasRun h new (piece_in (copy_image_pieces c.args.image c.args.image m c.args.row.region) c.args.row.number)) c.self.view_is
    (image_step s c.self.invariant c.args.image c.args.image c.args.row.region c.args.row.number (subst (λ (h : Held). ImageRowReady h c.args.image c.args.image c.args.row.region c.args.row.number) (sym c.self.view_is) c.requires)
    c.shape_at-shape.result.now c.shape_at-shape.result.now c.picture-at.result c.picture-at.result c.shape_at-shape.ensures c.shape_at-shape.ensures (ap (λ (h : Held). placed h c.args.image) c.self.view_is ∙ c.picture-at.ensures) (ap (λ (h : Held). placed h c.args.image) c.self.view_is ∙ c.picture-at.ensures)
    c.texels_apart.ensures c.texels_inside.ensures c.run_piece_in_one.new.region (rw c.region_mut-region.ensures.value at c.run_piece_in_one.ensures.kept)).1
