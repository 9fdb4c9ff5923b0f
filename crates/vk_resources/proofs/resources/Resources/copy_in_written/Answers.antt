use Rattle.std.proofs.Common.{◌≡◌, ap, sym, subst, ◌∙◌, arith, Some}
use Rattle.vk_model.specs.declared.resource.ImageInfo.{ImageInfo}
use Rattle.vk_image_transfer.specs.Pieces.{piece_in, copy_in_pieces, all_copied_in}
use Rattle.vk_resources.specs.Held.{Held, placed, shape_of}
use Rattle.vk_resources.specs.Inner.Images.{MayCopyIn}
use Rattle.vk_resources.specs.Stretches.{HasWrites}
use Rattle.vk_resources.proofs.ImageSteps.{region_found}
use Rattle.vk_resources.proofs.WrittenBytes.{picture_has_writes, picture_size}
use Rattle.vk_resources.proofs.resources.Resources.copy_in_written.Goals as goal

pub stretches-requires-clause-end : goal.stretches-requires-clause-end
stretches-requires-clause-end c =
    let s : Held = record { memory = c.self.inside.memories; backed = c.self.inside.backing; resources = c.self.inside.resources.entries; shapes = c.self.inside.shapes.entries; cache = c.self.inside.cache } in
    let size = picture_size s c.self.invariant c.args.image c.shape_at-shape.result.now c.picture-size.result c.shape_at-shape.ensures (ap (λ (h : Held). placed h c.args.image) c.self.view_is ∙ c.picture-size.ensures) in
    omega (arith, size)

pub stretches-requires-clause-region : goal.stretches-requires-clause-region
stretches-requires-clause-region c =
    let s : Held = record { memory = c.self.inside.memories; backed = c.self.inside.backing; resources = c.self.inside.resources.entries; shapes = c.self.inside.shapes.entries; cache = c.self.inside.cache } in
    let may : MayCopyIn s c.args.image c.args.rows.now c.args.number = subst (λ (h : Held). MayCopyIn h c.args.image c.args.rows.now c.args.number) (sym c.self.view_is) c.requires in
    (region_found s c.self.invariant may.0 c.args.image c.shape_at-shape.result.now c.shape_at-shape.ensures c.args.rows.now c.args.number may.1 c.find-row.result.region c.find-row.ensures.region).0

pub returns : goal.returns
returns c = λ b.
    let s : Held = record { memory = c.self.inside.memories; backed = c.self.inside.backing; resources = c.self.inside.resources.entries; shapes = c.self.inside.shapes.entries; cache = c.self.inside.cache } in
    let row = c.find-row.result in
    let m = c.shape_at-shape.result.now in
    subst (λ (h : Held). (m : ImageInfo) → shape_of h c.args.image ≡ Some m → HasWrites h (piece_in (all_copied_in b c.args.image m c.args.rows.now) c.args.number) (record { resource = c.args.image; left = c.stretches.result })) c.self.view_is
    (picture_has_writes s c.self.invariant c.args.image m c.picture-size.result c.shape_at-shape.ensures (ap (λ (h : Held). placed h c.args.image) c.self.view_is ∙ c.picture-size.ensures)
    (piece_in (copy_in_pieces b c.args.image m row.region) row.number) c.stretches.result
    (λ n. piece_in (all_copied_in b c.args.image n c.args.rows.now) c.args.number) (c.find-row.ensures.copied_in b c.args.image m) (c.stretches.ensures b c.args.image))
