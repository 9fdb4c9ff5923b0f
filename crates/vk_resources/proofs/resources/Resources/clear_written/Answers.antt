use Rattle.std.proofs.Common.{◌≡◌, ap, subst, ◌∙◌, arith, Some}
use Rattle.vk_model.specs.declared.resource.ImageInfo.{ImageInfo}
use Rattle.vk_model.specs.Run.Pieces.{level_pieces}
use Rattle.vk_image_transfer.specs.Pieces.{piece_in, all_cleared}
use Rattle.vk_resources.specs.Held.{Held, placed, shape_of}
use Rattle.vk_resources.specs.Stretches.{HasWrites}
use Rattle.vk_resources.proofs.WrittenBytes.{picture_has_writes, picture_size}
use Rattle.vk_resources.proofs.resources.Resources.clear_written.Goals as goal

pub stretches-requires-clause-end : goal.stretches-requires-clause-end
stretches-requires-clause-end c =
    let s : Held = record { memory = c.self.inside.memories; backed = c.self.inside.backing; resources = c.self.inside.resources.entries; shapes = c.self.inside.shapes.entries; cache = c.self.inside.cache } in
    let size = picture_size s c.self.invariant c.args.image c.shape_at-shape.result.now c.picture-size.result c.shape_at-shape.ensures (ap (λ (h : Held). placed h c.args.image) c.self.view_is ∙ c.picture-size.ensures) in
    omega (arith, size)

pub returns : goal.returns
returns c =
    let s : Held = record { memory = c.self.inside.memories; backed = c.self.inside.backing; resources = c.self.inside.resources.entries; shapes = c.self.inside.shapes.entries; cache = c.self.inside.cache } in
    let found = c.find-found.result in
    let m = c.shape_at-shape.result.now in
    subst (λ (h : Held). (m : ImageInfo) → shape_of h c.args.image ≡ Some m → HasWrites h (piece_in (all_cleared c.args.image c.args.clear.now.color m c.args.clear.now.ranges.now) c.args.number) (record { resource = c.args.image; left = c.stretches.result })) c.self.view_is
    (picture_has_writes s c.self.invariant c.args.image m c.picture-size.result c.shape_at-shape.ensures (ap (λ (h : Held). placed h c.args.image) c.self.view_is ∙ c.picture-size.ensures)
    (piece_in (level_pieces c.args.image found.clear.color m found.clear.range found.clear.level) found.number) c.stretches.result
    (λ n. piece_in (all_cleared c.args.image c.args.clear.now.color n c.args.clear.now.ranges.now) c.args.number) (c.find-found.ensures.piece c.args.image) (c.stretches.ensures c.args.image))
