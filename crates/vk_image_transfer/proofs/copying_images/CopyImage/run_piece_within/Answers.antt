use Rattle.std.proofs.Common.{◌≡◌, ◌+◌, ◌/◌, ◌%◌, ◌<◌, ℕ, slice_index, refl, ap, ◌∙◌, arith}
use Rattle.vk_image_transfer.proofs.Keeping.{rows_apart, rows_apart_as, kept_held}
use Rattle.vk_image_transfer.specs.Held.{ImageOf}
use Rattle.vk_image_transfer.proofs.ImageRows.{row_inside as image_inside}
use Rattle.vk_model.specs.Trace.Image.{image_size}
use Rattle.vk_model.specs.declared.resource.ImageInfo.{ImageInfo}
use Rattle.vk_model.specs.Trace.Image.{texel}
use Rattle.vk_image_transfer.specs.Inner.Lines.{line_place}
use Rattle.vk_image_transfer.specs.Rows.{image_row}
use Rattle.vk_image_transfer.specs.Held.{image_at, two_held}
use Rattle.vk_image_transfer.proofs.ImageRows.{RowThere, written_as, row_as}
use Rattle.vk_image_transfer.proofs.Copies.{copied_ran, first_held, second_held, beside_held}
use Rattle.vk_image_transfer.proofs.copying_images.CopyImage.run_piece_within.Goals as goal

pub copy_texels_within-requires-clause-lines_apart : goal.copy_texels_within-requires-clause-lines_apart
copy_texels_within-requires-clause-lines_apart c =
    let g = c.args.self.now.region in
    let m = c.args.to.now in
    let source = c.args.from.now in
    let bytes : c.from-texel.result ≡ texel c.args.to.now.format = c.from-texel.ensures ∙ c.texel_size.ensures.size ∙ ap (λ (i : ImageInfo). texel i.format) c.image-info.ensures.image in
    let source_there : RowThere c.args.from.now c.args.self.now.region.source_level (c.args.self.now.region.source_first_layer + c.new-place.result.layer) c.args.self.now.region.source_x (c.args.self.now.region.source_y + c.new-place.result.row) c.args.self.now.region.width =
    record {
      level_there = c.requires.source_region.level;
      layer_there = omega (arith, c.new-place.ensures.layer_there, c.requires.source_region.layers);
      columns = c.requires.source_region.columns;
      y_there = omega (arith, c.new-place.ensures.row_there, c.requires.source_region.rows);
    } in
    let there : RowThere c.args.to.now c.args.self.now.region.destination_level (c.args.self.now.region.destination_first_layer + c.new-place.result.layer) c.args.self.now.region.destination_x (c.args.self.now.region.destination_y + c.new-place.result.row) c.args.self.now.region.width =
    record {
      level_there = c.requires.destination_region.level;
      layer_there = omega (arith, c.new-place.ensures.layer_there, c.requires.destination_region.layers);
      columns = c.requires.destination_region.columns;
      y_there = omega (arith, c.new-place.ensures.row_there, c.requires.destination_region.rows);
    } in
    rows_apart_as g.width c.from-texel.result (texel m.format) (line_place c.source_line-from_line.result) (image_row source c.args.source_start g.source_level (g.source_first_layer + c.new-place.result.layer) g.source_x (g.source_y + c.new-place.result.row))
    (line_place c.destination_line-to_line.result) (image_row m c.args.destination_start g.destination_level (g.destination_first_layer + c.new-place.result.layer) g.destination_x (g.destination_y + c.new-place.result.row)) bytes
    c.source_line-from_line.ensures.places c.destination_line-to_line.ensures.places
    (rows_apart g.width (texel m.format) (image_row source c.args.source_start g.source_level (g.source_first_layer + c.new-place.result.layer) g.source_x (g.source_y + c.new-place.result.row)) (image_row m c.args.destination_start g.destination_level (g.destination_first_layer + c.new-place.result.layer) g.destination_x (g.destination_y + c.new-place.result.row))
    c.args.source_start (image_size source source.tiling) c.args.destination_start (image_size m m.tiling)
    (λ x p lt low. image_inside source c.image.ensures.shaped c.args.source_start g.source_level (g.source_first_layer + c.new-place.result.layer) g.source_x (g.source_y + c.new-place.result.row) g.width source_there c.texels_inside.ensures x p lt (omega (arith, low, c.requires.texels)))
    (image_inside m c.image-info.ensures.shaped c.args.destination_start g.destination_level (g.destination_first_layer + c.new-place.result.layer) g.destination_x (g.destination_y + c.new-place.result.row) g.width there c.texels_inside.ensures)
    c.requires.apart)

pub returns-clause-kept : goal.returns-clause-kept
returns-clause-kept c =
    let g = c.args.self.now.region in
    let m = c.args.to.now in
    let bytes : c.from-texel.result ≡ texel c.args.to.now.format = c.from-texel.ensures ∙ c.texel_size.ensures.size ∙ ap (λ (i : ImageInfo). texel i.format) c.image-info.ensures.image in
    written_as c.args.region.now c.copy_texels_within.new.region g.width g.width c.from-texel.result (texel m.format) (line_place c.destination_line-to_line.result)
    (image_row m c.args.destination_start g.destination_level (g.destination_first_layer + c.args.number / g.height) g.destination_x (g.destination_y + c.args.number % g.height))
    _ (λ x p. slice_index c.args.region.now (image_row c.args.from.now c.args.source_start g.source_level (g.source_first_layer + c.args.number / g.height) g.source_x (g.source_y + c.args.number % g.height) x + p))
    refl bytes
    (λ x. c.destination_line-to_line.ensures.places x ∙ row_as m c.args.destination_start g.destination_level (g.destination_first_layer + c.new-place.result.layer) (g.destination_first_layer + c.args.number / g.height) g.destination_x (g.destination_y + c.new-place.result.row) (g.destination_y + c.args.number % g.height)
    (ap (λ (k : ℕ). g.destination_first_layer + k) c.new-place.ensures.layer) (ap (λ (k : ℕ). g.destination_y + k) c.new-place.ensures.row) x)
    (λ x p lt low. ap (λ (k : ℕ). slice_index c.args.region.now (k + p)) (c.source_line-from_line.ensures.places x ∙ row_as c.args.from.now c.args.source_start g.source_level (g.source_first_layer + c.new-place.result.layer) (g.source_first_layer + c.args.number / g.height) g.source_x (g.source_y + c.new-place.result.row) (g.source_y + c.args.number % g.height)
    (ap (λ (k : ℕ). g.source_first_layer + k) c.new-place.ensures.layer) (ap (λ (k : ℕ). g.source_y + k) c.new-place.ensures.row) x))
    c.copy_texels_within.ensures

pub returns-clause-ran : goal.returns-clause-ran
returns-clause-ran c = λ s d ne wide.
    let g = c.args.self.now.region in
    let z_there : c.args.number / c.args.self.now.region.height < c.args.self.now.region.layers = omega (arith, c.new-place.ensures.layer, c.new-place.ensures.layer_there) in
    let y_there : c.args.number % c.args.self.now.region.height < c.args.self.now.region.height = omega (arith, c.new-place.ensures.row, c.new-place.ensures.row_there) in
    let source_there : RowThere c.args.from.now c.args.self.now.region.source_level (c.args.self.now.region.source_first_layer + c.args.number / c.args.self.now.region.height) c.args.self.now.region.source_x (c.args.self.now.region.source_y + c.args.number % c.args.self.now.region.height) c.args.self.now.region.width =
    record {
      level_there = c.requires.source_region.level;
      layer_there = omega (arith, z_there, c.requires.source_region.layers);
      columns = c.requires.source_region.columns;
      y_there = omega (arith, y_there, c.requires.source_region.rows);
    } in
    let there : RowThere c.args.to.now c.args.self.now.region.destination_level (c.args.self.now.region.destination_first_layer + c.args.number / c.args.self.now.region.height) c.args.self.now.region.destination_x (c.args.self.now.region.destination_y + c.args.number % c.args.self.now.region.height) c.args.self.now.region.width =
    record {
      level_there = c.requires.destination_region.level;
      layer_there = omega (arith, z_there, c.requires.destination_region.layers);
      columns = c.requires.destination_region.columns;
      y_there = omega (arith, y_there, c.requires.destination_region.rows);
    } in
    let source_held = image_at c.args.region.now c.args.source_start c.args.from.now in
    let old_held = image_at c.args.region.now c.args.destination_start c.args.to.now in
    let kept_source = image_at c.copy_texels_within.new.region c.args.source_start c.args.from.now in
    let new_held = image_at c.copy_texels_within.new.region c.args.destination_start c.args.to.now in
    copied_ran s d c.args.from.now c.args.to.now g c.args.number wide c.requires.piece c.texels_apart.ensures c.image.ensures.shaped c.image-info.ensures.shaped c.requires.texels source_there there
    c.args.region.now c.args.region.now c.copy_texels_within.new.region c.args.source_start c.args.destination_start (two_held s source_held d old_held) (two_held s kept_source d new_held)
    (first_held s d ne source_held old_held) (second_held s d source_held old_held) (second_held s d kept_source new_held) (beside_held s d source_held kept_source old_held new_held
    (kept_held c.texels_inside.ensures (ImageOf c.args.from.now) c.image.ensures.shaped c.args.region.now c.copy_texels_within.new.region g.width (texel c.args.to.now.format)
    (image_row c.args.to.now c.args.destination_start g.destination_level (g.destination_first_layer + c.args.number / g.height) g.destination_x (g.destination_y + c.args.number % g.height))
    (λ x p. slice_index c.args.region.now (image_row c.args.from.now c.args.source_start g.source_level (g.source_first_layer + c.args.number / g.height) g.source_x (g.source_y + c.args.number % g.height) x + p))
    c.args.source_start c.args.destination_start (image_size c.args.to.now c.args.to.now.tiling) (returns-clause-kept c)
    (image_inside c.args.to.now c.image-info.ensures.shaped c.args.destination_start g.destination_level (g.destination_first_layer + c.args.number / g.height) g.destination_x (g.destination_y + c.args.number % g.height) g.width there c.texels_inside.ensures) c.requires.apart))
    (returns-clause-kept c)
