use Rattle.std.proofs.Common.{◌≡◌, refl, ap, sym, subst, ◌∙◌, arith, Some}
use Rattle.vk_model.specs.declared.resource.ImageInfo.{ImageInfo}
use Rattle.vk_image_transfer.specs.Pieces.{piece_in, copy_image_pieces}
use Rattle.vk_resources.specs.Held.{Held, placed, shape_of}
use Rattle.vk_resources.specs.Inner.Images.{ImageRowReady}
use Rattle.vk_resources.specs.Stretches.{HasWrites}
use Rattle.vk_resources.proofs.ImageSteps.{destination_found}
use Rattle.vk_resources.proofs.WrittenBytes.{picture_has_writes, picture_size}
use Rattle.vk_resources.proofs.resources.Resources.copy_image_written.Goals as goal

pub stretches-requires-clause-end : goal.stretches-requires-clause-end
stretches-requires-clause-end c =
    let s : Held = record { memory = c.self.inside.memories; backed = c.self.inside.backing; resources = c.self.inside.resources.entries; shapes = c.self.inside.shapes.entries; cache = c.self.inside.cache } in
    let size = picture_size s c.self.invariant c.args.destination c.shape_at-shape.result.now c.picture-size.result c.shape_at-shape.ensures (ap (λ (h : Held). placed h c.args.destination) c.self.view_is ∙ c.picture-size.ensures) in
    omega (arith, size)

pub stretches-requires-clause-destination_region : goal.stretches-requires-clause-destination_region
stretches-requires-clause-destination_region c =
    let s : Held = record { memory = c.self.inside.memories; backed = c.self.inside.backing; resources = c.self.inside.resources.entries; shapes = c.self.inside.shapes.entries; cache = c.self.inside.cache } in
    destination_found s c.self.invariant c.args.source c.args.destination c.args.row.region c.args.row.number (subst (λ (h : Held). ImageRowReady h c.args.source c.args.destination c.args.row.region c.args.row.number) (sym c.self.view_is) c.requires)
    c.shape_at-shape.result.now c.shape_at-shape.ensures

pub returns : goal.returns
returns c =
    let s : Held = record { memory = c.self.inside.memories; backed = c.self.inside.backing; resources = c.self.inside.resources.entries; shapes = c.self.inside.shapes.entries; cache = c.self.inside.cache } in
    let g = c.args.row.region in
    let m = c.shape_at-shape.result.now in
    subst (λ (h : Held). (m : ImageInfo) → shape_of h c.args.destination ≡ Some m → HasWrites h (piece_in (copy_image_pieces c.args.source c.args.destination m g) c.args.row.number) (record { resource = c.args.destination; left = c.stretches.result })) c.self.view_is
    (picture_has_writes s c.self.invariant c.args.destination m c.picture-size.result c.shape_at-shape.ensures (ap (λ (h : Held). placed h c.args.destination) c.self.view_is ∙ c.picture-size.ensures)
    (piece_in (copy_image_pieces c.args.source c.args.destination m g) c.args.row.number) c.stretches.result
    (λ n. piece_in (copy_image_pieces c.args.source c.args.destination n g) c.args.row.number) refl (c.stretches.ensures c.args.source c.args.destination))
