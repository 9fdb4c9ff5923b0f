use Rattle.std.proofs.Common.{◌≡◌, ◌+◌, ◌-◌, ◌/◌, ◌%◌, ◌<◌, ℕ, length, slice_index, refl, ap, sym, subst, ◌∙◌, arith}
use Rattle.vk_image_transfer.proofs.Keeping.{rows_apart, rows_apart_as, kept_held}
use Rattle.vk_image_transfer.specs.Held.{BufferOf}
use Rattle.vk_image_transfer.proofs.BufferRows.{row_inside as buffer_inside}
use Rattle.vk_image_transfer.proofs.ImageRows.{row_inside as image_inside}
use Rattle.vk_model.specs.Trace.Image.{image_size}
use Rattle.vk_model.specs.declared.resource.ImageInfo.{ImageInfo}
use Rattle.vk_model.specs.Trace.Image.{texel, level_width}
use Rattle.vk_image_transfer.specs.Inner.Lines.{line_place}
use Rattle.vk_image_transfer.specs.Rows.{RegionFits, image_row, buffer_row}
use Rattle.vk_image_transfer.proofs.ImageRows.{RowThere, written_as, row_as}
use Rattle.vk_image_transfer.proofs.BufferRows.{row_within, buffer_fits, buffer_as}
use Rattle.vk_image_transfer.proofs.Copies.{in_ran}
use Rattle.vk_image_transfer.proofs.copying_in.CopyIn.run_piece_within.Goals as goal

pub buffer_line-from-requires-clause-place : goal.buffer_line-from-requires-clause-place
buffer_line-from-requires-clause-place c =
    let g = c.args.self.now.region in
    let bytes : c.from-texel.result ≡ texel c.args.image.now.format = c.from-texel.ensures ∙ c.texel_size.ensures.size ∙ ap (λ (i : ImageInfo). texel i.format) c.image-info.ensures.image in
    let fits : RegionFits c.args.self.now.region c.from-texel.result (length c.args.region.now - c.args.source_start) = subst (λ (k : ℕ). RegionFits c.args.self.now.region k (length c.args.region.now - c.args.source_start)) (sym bytes) c.requires.read in
    row_within g c.from-texel.result c.args.source_start c.new-place.result.layer c.new-place.result.row c.new-place.ensures.layer_there c.new-place.ensures.row_there (length c.args.region.now) (omega (arith, c.from-texel.ensures, c.texel_size.ensures.above)) c.requires.columns fits (omega (arith, c.size-size.ensures))

pub copy_texels_within-requires-clause-read : goal.copy_texels_within-requires-clause-read
copy_texels_within-requires-clause-read c =
    let g = c.args.self.now.region in
    let bytes : c.from-texel.result ≡ texel c.args.image.now.format = c.from-texel.ensures ∙ c.texel_size.ensures.size ∙ ap (λ (i : ImageInfo). texel i.format) c.image-info.ensures.image in
    let fits : RegionFits c.args.self.now.region c.from-texel.result (length c.args.region.now - c.args.source_start) = subst (λ (k : ℕ). RegionFits c.args.self.now.region k (length c.args.region.now - c.args.source_start)) (sym bytes) c.requires.read in
    buffer_fits g c.from-texel.result c.args.source_start c.new-place.result.layer c.new-place.result.row c.new-place.ensures.layer_there c.new-place.ensures.row_there c.buffer_line-from.result (length c.args.region.now) (omega (arith, c.from-texel.ensures, c.texel_size.ensures.above)) (omega (arith, c.requires.region.columns, ap (λ (i : ImageInfo). level_width i c.args.self.now.region.level) c.image-info.ensures.image, c.level_width-width.ensures))
    c.buffer_line-from.ensures.texel c.buffer_line-from.ensures.first c.buffer_line-from.ensures.places fits

pub copy_texels_within-requires-clause-lines_apart : goal.copy_texels_within-requires-clause-lines_apart
copy_texels_within-requires-clause-lines_apart c =
    let g = c.args.self.now.region in
    let m = c.args.image.now in
    let bytes : c.from-texel.result ≡ texel c.args.image.now.format = c.from-texel.ensures ∙ c.texel_size.ensures.size ∙ ap (λ (i : ImageInfo). texel i.format) c.image-info.ensures.image in
    let there : RowThere c.args.image.now c.args.self.now.region.level (c.args.self.now.region.first_layer + c.new-place.result.layer) c.args.self.now.region.x (c.args.self.now.region.y + c.new-place.result.row) c.args.self.now.region.width =
    record {
      level_there = c.requires.region.level;
      layer_there = omega (arith, c.new-place.ensures.layer_there, c.requires.region.layers);
      columns = c.requires.region.columns;
      y_there = omega (arith, c.new-place.ensures.row_there, c.requires.region.rows);
    } in
    rows_apart_as g.width c.from-texel.result (texel m.format) (line_place c.buffer_line-from.result) (buffer_row g (texel m.format) c.args.source_start c.new-place.result.layer c.new-place.result.row)
    (line_place c.region_line-to.result) (image_row m c.args.destination_start g.level (g.first_layer + c.new-place.result.layer) g.x (g.y + c.new-place.result.row)) bytes
    (λ x. c.buffer_line-from.ensures.places x ∙ buffer_as g c.from-texel.result (texel m.format) c.args.source_start c.new-place.result.layer c.new-place.result.layer c.new-place.result.row c.new-place.result.row bytes refl refl x)
    c.region_line-to.ensures.places
    (rows_apart g.width (texel m.format) (buffer_row g (texel m.format) c.args.source_start c.new-place.result.layer c.new-place.result.row) (image_row m c.args.destination_start g.level (g.first_layer + c.new-place.result.layer) g.x (g.y + c.new-place.result.row))
    c.args.source_start c.requires.apart.bytes c.args.destination_start (image_size m m.tiling)
    (buffer_inside g (texel m.format) c.args.source_start c.new-place.result.layer c.new-place.result.row c.new-place.ensures.layer_there c.new-place.ensures.row_there c.requires.apart.bytes c.requires.apart.fits)
    (image_inside m c.image-info.ensures.shaped c.args.destination_start g.level (g.first_layer + c.new-place.result.layer) g.x (g.y + c.new-place.result.row) g.width there c.texels_inside.ensures)
    c.requires.apart.apart)

pub returns-clause-kept : goal.returns-clause-kept
returns-clause-kept c =
    let g = c.args.self.now.region in
    let m = c.args.image.now in
    let bytes : c.from-texel.result ≡ texel c.args.image.now.format = c.from-texel.ensures ∙ c.texel_size.ensures.size ∙ ap (λ (i : ImageInfo). texel i.format) c.image-info.ensures.image in
    written_as c.args.region.now c.copy_texels_within.new.region g.width g.width c.from-texel.result (texel m.format) (line_place c.region_line-to.result)
    (image_row m c.args.destination_start g.level (g.first_layer + c.args.number / g.height) g.x (g.y + c.args.number % g.height))
    _ (λ x p. slice_index c.args.region.now (buffer_row g (texel m.format) c.args.source_start (c.args.number / g.height) (c.args.number % g.height) x + p))
    refl bytes
    (λ x. c.region_line-to.ensures.places x ∙ row_as m c.args.destination_start g.level (g.first_layer + c.new-place.result.layer) (g.first_layer + c.args.number / g.height) g.x (g.y + c.new-place.result.row) (g.y + c.args.number % g.height)
    (ap (λ (k : ℕ). g.first_layer + k) c.new-place.ensures.layer) (ap (λ (k : ℕ). g.y + k) c.new-place.ensures.row) x)
    (λ x p lt low. ap (λ (k : ℕ). slice_index c.args.region.now (k + p)) (c.buffer_line-from.ensures.places x ∙ buffer_as g c.from-texel.result (texel m.format) c.args.source_start c.new-place.result.layer (c.args.number / g.height) c.new-place.result.row (c.args.number % g.height) bytes c.new-place.ensures.layer c.new-place.ensures.row x))
    c.copy_texels_within.ensures

pub returns-clause-ran : goal.returns-clause-ran
returns-clause-ran c = λ b i n ne fits apart.
    let g = c.args.self.now.region in
    let m = c.args.image.now in
    let z_there : c.args.number / c.args.self.now.region.height < c.args.self.now.region.layers = omega (arith, c.new-place.ensures.layer, c.new-place.ensures.layer_there) in
    let y_there : c.args.number % c.args.self.now.region.height < c.args.self.now.region.height = omega (arith, c.new-place.ensures.row, c.new-place.ensures.row_there) in
    let there : RowThere c.args.image.now c.args.self.now.region.level (c.args.self.now.region.first_layer + c.args.number / c.args.self.now.region.height) c.args.self.now.region.x (c.args.self.now.region.y + c.args.number % c.args.self.now.region.height) c.args.self.now.region.width =
    record {
      level_there = c.requires.region.level;
      layer_there = omega (arith, z_there, c.requires.region.layers);
      columns = c.requires.region.columns;
      y_there = omega (arith, y_there, c.requires.region.rows);
    } in
    in_ran b i m g c.args.number c.requires.columns c.requires.piece ne c.texels_apart.ensures c.image-info.ensures.shaped z_there y_there there c.args.region.now c.copy_texels_within.new.region c.args.region.now c.copy_texels_within.new.region c.args.source_start c.args.destination_start n fits
    (kept_held c.texels_inside.ensures (BufferOf n) tt c.args.region.now c.copy_texels_within.new.region g.width (texel m.format) (image_row m c.args.destination_start g.level (g.first_layer + c.args.number / g.height) g.x (g.y + c.args.number % g.height))
    (λ x p. slice_index c.args.region.now (buffer_row g (texel m.format) c.args.source_start (c.args.number / g.height) (c.args.number % g.height) x + p))
    c.args.source_start c.args.destination_start (image_size m m.tiling) (returns-clause-kept c)
    (image_inside m c.image-info.ensures.shaped c.args.destination_start g.level (g.first_layer + c.args.number / g.height) g.x (g.y + c.args.number % g.height) g.width there c.texels_inside.ensures) apart)
    (returns-clause-kept c)
