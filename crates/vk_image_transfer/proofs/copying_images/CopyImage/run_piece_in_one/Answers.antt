use Rattle.std.proofs.Common.{◌≡◌, ◌+◌, ◌/◌, ◌%◌, ◌<◌, ℕ, slice_index, refl, ap, ◌∙◌, arith}
use Rattle.vk_model.specs.declared.resource.ImageInfo.{ImageInfo}
use Rattle.vk_model.specs.Trace.Image.{texel}
use Rattle.vk_image_transfer.specs.Inner.Lines.{line_place}
use Rattle.vk_image_transfer.specs.Rows.{image_row}
use Rattle.vk_image_transfer.specs.Held.{image_at, one_held}
use Rattle.vk_image_transfer.proofs.ImageRows.{RowThere, written_as, row_as}
use Rattle.vk_image_transfer.proofs.Copies.{copied_ran, boxes_apart, only_held}
use Rattle.vk_image_transfer.proofs.copying_images.CopyImage.run_piece_in_one.Goals as goal

pub copy_texels_within-requires-clause-lines_apart : goal.copy_texels_within-requires-clause-lines_apart
copy_texels_within-requires-clause-lines_apart c =
    boxes_apart c.args.image.now c.args.self.now.region c.args.start c.new-place.result.layer c.new-place.result.row c.new-place.ensures.layer_there c.new-place.ensures.row_there c.texels_apart.ensures c.image-info.ensures.shaped c.requires.apart
    c.requires.source_region c.requires.destination_region c.from-texel.result (c.from-texel.ensures ∙ c.texel_size.ensures.size ∙ ap (λ (i : ImageInfo). texel i.format) c.image-info.ensures.image)
    (line_place c.source_line-read.result) (line_place c.destination_line-written.result) c.source_line-read.ensures.places c.destination_line-written.ensures.places

pub returns-clause-kept : goal.returns-clause-kept
returns-clause-kept c =
    let g = c.args.self.now.region in
    let m = c.args.image.now in
    let bytes : c.from-texel.result ≡ texel c.args.image.now.format = c.from-texel.ensures ∙ c.texel_size.ensures.size ∙ ap (λ (i : ImageInfo). texel i.format) c.image-info.ensures.image in
    written_as c.args.region.now c.copy_texels_within.new.region g.width g.width c.from-texel.result (texel m.format) (line_place c.destination_line-written.result)
    (image_row m c.args.start g.destination_level (g.destination_first_layer + c.args.number / g.height) g.destination_x (g.destination_y + c.args.number % g.height))
    _ (λ x p. slice_index c.args.region.now (image_row c.args.image.now c.args.start g.source_level (g.source_first_layer + c.args.number / g.height) g.source_x (g.source_y + c.args.number % g.height) x + p))
    refl bytes
    (λ x. c.destination_line-written.ensures.places x ∙ row_as m c.args.start g.destination_level (g.destination_first_layer + c.new-place.result.layer) (g.destination_first_layer + c.args.number / g.height) g.destination_x (g.destination_y + c.new-place.result.row) (g.destination_y + c.args.number % g.height)
    (ap (λ (k : ℕ). g.destination_first_layer + k) c.new-place.ensures.layer) (ap (λ (k : ℕ). g.destination_y + k) c.new-place.ensures.row) x)
    (λ x p lt low. ap (λ (k : ℕ). slice_index c.args.region.now (k + p)) (c.source_line-read.ensures.places x ∙ row_as c.args.image.now c.args.start g.source_level (g.source_first_layer + c.new-place.result.layer) (g.source_first_layer + c.args.number / g.height) g.source_x (g.source_y + c.new-place.result.row) (g.source_y + c.args.number % g.height)
    (ap (λ (k : ℕ). g.source_first_layer + k) c.new-place.ensures.layer) (ap (λ (k : ℕ). g.source_y + k) c.new-place.ensures.row) x))
    c.copy_texels_within.ensures

pub returns-clause-ran : goal.returns-clause-ran
returns-clause-ran c = λ i wide.
    let g = c.args.self.now.region in
    let z_there : c.args.number / c.args.self.now.region.height < c.args.self.now.region.layers = omega (arith, c.new-place.ensures.layer, c.new-place.ensures.layer_there) in
    let y_there : c.args.number % c.args.self.now.region.height < c.args.self.now.region.height = omega (arith, c.new-place.ensures.row, c.new-place.ensures.row_there) in
    let source_there : RowThere c.args.image.now c.args.self.now.region.source_level (c.args.self.now.region.source_first_layer + c.args.number / c.args.self.now.region.height) c.args.self.now.region.source_x (c.args.self.now.region.source_y + c.args.number % c.args.self.now.region.height) c.args.self.now.region.width =
    record {
      level_there = c.requires.source_region.level;
      layer_there = omega (arith, z_there, c.requires.source_region.layers);
      columns = c.requires.source_region.columns;
      y_there = omega (arith, y_there, c.requires.source_region.rows);
    } in
    let there : RowThere c.args.image.now c.args.self.now.region.destination_level (c.args.self.now.region.destination_first_layer + c.args.number / c.args.self.now.region.height) c.args.self.now.region.destination_x (c.args.self.now.region.destination_y + c.args.number % c.args.self.now.region.height) c.args.self.now.region.width =
    record {
      level_there = c.requires.destination_region.level;
      layer_there = omega (arith, z_there, c.requires.destination_region.layers);
      columns = c.requires.destination_region.columns;
      y_there = omega (arith, y_there, c.requires.destination_region.rows);
    } in
    copied_ran i i c.args.image.now c.args.image.now g c.args.number wide c.requires.piece c.texels_apart.ensures c.image-info.ensures.shaped c.image-info.ensures.shaped refl source_there there
    c.args.region.now c.args.region.now c.copy_texels_within.new.region c.args.start c.args.start (one_held i (image_at c.args.region.now c.args.start c.args.image.now)) (one_held i (image_at c.copy_texels_within.new.region c.args.start c.args.image.now))
    (only_held i (image_at c.args.region.now c.args.start c.args.image.now)) (only_held i (image_at c.args.region.now c.args.start c.args.image.now)) (only_held i (image_at c.copy_texels_within.new.region c.args.start c.args.image.now))
    (λ b apart. rw apart refl) (returns-clause-kept c)
