use Rattle.std.proofs.Common.{◌≡◌, ◌+◌, ◌/◌, ◌%◌, ℕ, refl, ap, ◌∙◌}
use Rattle.vk_model.specs.declared.resource.ImageInfo.{ImageInfo}
use Rattle.vk_model.specs.Trace.Image.{texel}
use Rattle.vk_model.specs.World.Areas.{region_box}
use Rattle.vk_model.specs.World.Bytes.{in_buffer}
use Rattle.vk_model.specs.World.ByteWrites.{From, buffer_texel, image_texel}
use Rattle.vk_image_transfer.specs.Inner.Lines.{line_place}
use Rattle.vk_image_transfer.specs.Rows.{image_row}
use Rattle.vk_image_transfer.proofs.Copies.{in_is}
use Rattle.vk_image_transfer.proofs.ImageRows.{row_as}
use Rattle.vk_image_transfer.proofs.PieceRows.{box_row}
use Rattle.vk_image_transfer.proofs.WrittenPlaces.{image_writes_at}
use Rattle.vk_image_transfer.proofs.copying_in.CopyIn.stretches.Goals as goal

places : (c : goal.After-new) (x : ℕ) → line_place c.region_line-line.result x ≡ image_row c.args.image.now c.args.start c.args.self.now.region.level (c.args.self.now.region.first_layer + c.args.number / c.args.self.now.region.height) c.args.self.now.region.x (c.args.self.now.region.y + c.args.number % c.args.self.now.region.height) x
places c x =
    let g = c.args.self.now.region in
    c.region_line-line.ensures.places x
    ∙ row_as c.args.image.now c.args.start g.level (g.first_layer + c.new-place.result.layer) (g.first_layer + c.args.number / g.height) g.x (g.y + c.new-place.result.row) (g.y + c.args.number % g.height)
    (ap (λ (k : ℕ). g.first_layer + k) c.new-place.ensures.layer) (ap (λ (k : ℕ). g.y + k) c.new-place.ensures.row) x

pub returns : goal.returns
returns c = λ b i.
    let g = c.args.self.now.region in
    let m = c.args.image.now in
    let z : ℕ = c.args.number / c.args.self.now.region.height in
    let y : ℕ = c.args.number % c.args.self.now.region.height in
    let bytes : c.from-texel.result ≡ texel c.args.image.now.format = c.from-texel.ensures ∙ c.texel_size.ensures.size ∙ ap (λ (i : ImageInfo). texel i.format) c.image-info.ensures.image in
    rw (c.new.ensures, in_is b i m g c.args.number c.requires.columns c.requires.piece)
    (image_writes_at m c.image-info.ensures.shaped c.texels_apart.ensures c.args.start g.level (g.first_layer + z) g.x (g.y + y) g.width (box_row m (region_box g) c.args.number c.requires.region c.requires.piece) c.from-texel.result bytes (line_place c.region_line-line.result) (places c)
    i (λ x p. image_texel i g z y x p) (λ x p. refl) (λ x p. From (in_buffer b (buffer_texel g (texel m.format) z y x p))))
