use Rattle.std.proofs.Common.{◌≡◌, ◌+◌, ◌/◌, ◌%◌, ℕ, refl, ap, ◌∙◌}
use Rattle.vk_model.specs.declared.resource.ImageInfo.{ImageInfo}
use Rattle.vk_model.specs.Trace.Image.{texel}
use Rattle.vk_model.specs.World.Areas.{destination_box}
use Rattle.vk_model.specs.World.Bytes.{in_image}
use Rattle.vk_model.specs.World.ByteWrites.{From}
use Rattle.vk_image_transfer.specs.Inner.Lines.{line_place}
use Rattle.vk_image_transfer.specs.Rows.{image_row}
use Rattle.vk_image_transfer.proofs.Copies.{image_is}
use Rattle.vk_image_transfer.proofs.ImageRows.{row_as}
use Rattle.vk_image_transfer.proofs.PieceRows.{box_row}
use Rattle.vk_image_transfer.proofs.WrittenPlaces.{image_writes_at}
use Rattle.vk_image_transfer.proofs.copying_images.CopyImage.stretches.Goals as goal

places : (c : goal.After-new) (x : ℕ) → line_place c.destination_line-line.result x ≡ image_row c.args.to.now c.args.start c.args.self.now.region.destination_level (c.args.self.now.region.destination_first_layer + c.args.number / c.args.self.now.region.height) c.args.self.now.region.destination_x (c.args.self.now.region.destination_y + c.args.number % c.args.self.now.region.height) x
places c x =
    let g = c.args.self.now.region in
    c.destination_line-line.ensures.places x
    ∙ row_as c.args.to.now c.args.start g.destination_level (g.destination_first_layer + c.new-place.result.layer) (g.destination_first_layer + c.args.number / g.height) g.destination_x (g.destination_y + c.new-place.result.row) (g.destination_y + c.args.number % g.height)
    (ap (λ (k : ℕ). g.destination_first_layer + k) c.new-place.ensures.layer) (ap (λ (k : ℕ). g.destination_y + k) c.new-place.ensures.row) x

pub returns : goal.returns
returns c = λ s d.
    let g = c.args.self.now.region in
    let m = c.args.to.now in
    let z : ℕ = c.args.number / c.args.self.now.region.height in
    let y : ℕ = c.args.number % c.args.self.now.region.height in
    let bytes : c.from-texel.result ≡ texel c.args.to.now.format = c.from-texel.ensures ∙ c.texel_size.ensures.size ∙ ap (λ (i : ImageInfo). texel i.format) c.image-info.ensures.image in
    rw (c.new.ensures, image_is s d m m g c.args.number c.requires.columns c.requires.piece)
    (image_writes_at m c.image-info.ensures.shaped c.texels_apart.ensures c.args.start g.destination_level (g.destination_first_layer + z) g.destination_x (g.destination_y + y) g.width (box_row m (destination_box g) c.args.number c.requires.destination_region c.requires.piece) c.from-texel.result bytes (line_place c.destination_line-line.result) (places c)
    d (λ x p. in_image d g.destination_level (g.destination_first_layer + z) (g.destination_x + x) (g.destination_y + y) p) (λ x p. refl) (λ x p. From (in_image s g.source_level (g.source_first_layer + z) (g.source_x + x) (g.source_y + y) p)))
