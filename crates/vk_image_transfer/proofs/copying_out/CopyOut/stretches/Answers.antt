use Rattle.std.proofs.Common.{◌≡◌, ◌-◌, ◌/◌, ◌%◌, ℕ, ap, sym, subst, ◌∙◌, arith}
use Rattle.vk_model.specs.declared.resource.ImageInfo.{ImageInfo}
use Rattle.vk_model.specs.Trace.Image.{texel, level_width}
use Rattle.vk_model.specs.World.ByteWrites.{From, image_texel}
use Rattle.vk_model.proofs.World.BytePlaces.{texel_some}
use Rattle.vk_image_transfer.specs.Inner.Lines.{line_place}
use Rattle.vk_image_transfer.specs.Rows.{RegionFits}
use Rattle.vk_image_transfer.proofs.BufferRows.{row_within, buffer_fits, buffer_as}
use Rattle.vk_image_transfer.proofs.Copies.{out_is}
use Rattle.vk_image_transfer.proofs.PieceRows.{layer_below, row_below}
use Rattle.vk_image_transfer.proofs.WrittenPlaces.{buffer_writes_at}
use Rattle.vk_image_transfer.proofs.copying_out.CopyOut.stretches.Goals as goal

pub buffer_line-line-requires-clause-place : goal.buffer_line-line-requires-clause-place
buffer_line-line-requires-clause-place c =
    let bytes : c.from-texel.result ≡ texel c.args.image.now.format = c.from-texel.ensures ∙ c.texel_size.ensures.size ∙ ap (λ (i : ImageInfo). texel i.format) c.image-info.ensures.image in
    let fits : RegionFits c.args.self.now.region c.from-texel.result (18446744073709551615 - c.args.start) = subst (λ (k : ℕ). RegionFits c.args.self.now.region k (18446744073709551615 - c.args.start)) (sym bytes) c.requires.end in
    row_within c.args.self.now.region c.from-texel.result c.args.start c.new-place.result.layer c.new-place.result.row c.new-place.ensures.layer_there c.new-place.ensures.row_there 18446744073709551615 (omega (arith, c.from-texel.ensures, c.texel_size.ensures.above)) c.requires.columns fits (omega arith)

pub new-requires-clause-fits : goal.new-requires-clause-fits
new-requires-clause-fits c =
    let bytes : c.from-texel.result ≡ texel c.args.image.now.format = c.from-texel.ensures ∙ c.texel_size.ensures.size ∙ ap (λ (i : ImageInfo). texel i.format) c.image-info.ensures.image in
    let fits : RegionFits c.args.self.now.region c.from-texel.result (18446744073709551615 - c.args.start) = subst (λ (k : ℕ). RegionFits c.args.self.now.region k (18446744073709551615 - c.args.start)) (sym bytes) c.requires.end in
    buffer_fits c.args.self.now.region c.from-texel.result c.args.start c.new-place.result.layer c.new-place.result.row c.new-place.ensures.layer_there c.new-place.ensures.row_there c.buffer_line-line.result 18446744073709551615 (omega (arith, c.from-texel.ensures, c.texel_size.ensures.above))
    (omega (arith, c.requires.region.columns, ap (λ (i : ImageInfo). level_width i c.args.self.now.region.level) c.image-info.ensures.image, c.level_width-width.ensures))
    c.buffer_line-line.ensures.texel c.buffer_line-line.ensures.first c.buffer_line-line.ensures.places fits

pub returns : goal.returns
returns c = λ i b n fits.
    let g = c.args.self.now.region in
    let m = c.args.image.now in
    let z : ℕ = c.args.number / c.args.self.now.region.height in
    let y : ℕ = c.args.number % c.args.self.now.region.height in
    let bytes : c.from-texel.result ≡ texel c.args.image.now.format = c.from-texel.ensures ∙ c.texel_size.ensures.size ∙ ap (λ (i : ImageInfo). texel i.format) c.image-info.ensures.image in
    rw (c.new.ensures, bytes, out_is b i m g c.args.number c.requires.columns c.requires.piece)
    (buffer_writes_at g (texel m.format) c.args.start z y (layer_below c.args.number g.layers g.height c.requires.piece) (row_below c.args.number g.layers g.height c.requires.piece) (texel_some m.format) n fits (line_place c.buffer_line-line.result)
    (λ x. c.buffer_line-line.ensures.places x ∙ buffer_as g c.from-texel.result (texel m.format) c.args.start c.new-place.result.layer z c.new-place.result.row y bytes c.new-place.ensures.layer c.new-place.ensures.row x)
    b (λ x p. From (image_texel i g z y x p)))
