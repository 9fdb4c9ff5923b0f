use Rattle.std.proofs.Common.{◌≡◌, ◌+◌, ◌/◌, ◌%◌, ◌≤◌, ℕ, ap, ◌∙◌, arith}
use Rattle.vk_model.specs.declared.resource.ImageInfo.{ImageInfo}
use Rattle.vk_model.specs.Trace.Image.{texel, level_width, level_height}
use Rattle.vk_model.specs.World.ByteWrites.{color_byte}
use Rattle.vk_image_transfer.specs.Inner.Lines.{line_place}
use Rattle.vk_image_transfer.specs.Rows.{image_row}
use Rattle.vk_image_transfer.proofs.ImageRows.{RowThere, written_as, row_as}
use Rattle.vk_image_transfer.proofs.Clears.{clear_ran, colors_repeat, colored}
use Rattle.vk_image_transfer.proofs.clearing.LevelClear.run_piece.Goals as goal

pub fill_texels-requires-clause-repeats : goal.fill_texels-requires-clause-repeats
fill_texels-requires-clause-repeats c =
    colors_repeat c.image-info.result c.args.image.now c.args.self.now.color c.color_bytes.result c.from-texel.result c.image-info.ensures.image (c.from-texel.ensures ∙ c.texel_size.ensures.size) (omega (arith, c.from-texel.ensures, c.texel_size.ensures.within)) c.color_bytes.ensures

height_is : (c : goal.After-fill_texels) → c.level_height.result ≡ level_height c.args.image.now c.args.self.now.level
height_is c = c.level_height.ensures ∙ ap (λ (m : ImageInfo). level_height m c.args.self.now.level) c.image-info.ensures.image

layer_is : (c : goal.After-fill_texels) → c.new-place.result.layer ≡ c.args.number / level_height c.args.image.now c.args.self.now.level
layer_is c = c.new-place.ensures.layer ∙ ap (λ (k : ℕ). c.args.number / k) (height_is c)

row_is : (c : goal.After-fill_texels) → c.new-place.result.row ≡ c.args.number % level_height c.args.image.now c.args.self.now.level
row_is c = c.new-place.ensures.row ∙ ap (λ (k : ℕ). c.args.number % k) (height_is c)

pub returns-clause-kept : goal.returns-clause-kept
returns-clause-kept c =
    let m = c.args.image.now in
    let info = c.image-info.ensures.image in
    let level = c.args.self.now.level in
    let few : c.from-texel.result ≤ 64 = omega (arith, c.from-texel.ensures, c.texel_size.ensures.within) in
    let bytes = c.from-texel.ensures ∙ c.texel_size.ensures.size in
    let layer : c.args.self.now.range.first_layer + c.new-place.result.layer ≡ c.args.self.now.range.first_layer + c.args.number / level_height c.args.image.now c.args.self.now.level = ap (λ (k : ℕ). c.args.self.now.range.first_layer + k) (layer_is c) in
    written_as c.args.region.now c.fill_texels.new.region c.level_width-width.result (level_width m level) c.from-texel.result (texel m.format) (line_place c.image_line-line.result)
    (image_row m c.args.start level (c.args.self.now.range.first_layer + c.args.number / level_height m level) 0 (c.args.number % level_height m level))
    _ (λ x p. color_byte m c.args.self.now.color p)
    (c.level_width-width.ensures ∙ ap (λ (i : ImageInfo). level_width i level) info) (bytes ∙ ap (λ (i : ImageInfo). texel i.format) info)
    (λ x. c.image_line-line.ensures.places x ∙ row_as m c.args.start level (c.args.self.now.range.first_layer + c.new-place.result.layer) (c.args.self.now.range.first_layer + c.args.number / level_height m level) 0 c.new-place.result.row (c.args.number % level_height m level) layer (row_is c) x)
    (λ x p lt low. colored c.image-info.result m c.args.self.now.color c.color_bytes.result c.from-texel.result info bytes few c.color_bytes.ensures x p low)
    c.fill_texels.ensures

pub returns-clause-ran : goal.returns-clause-ran
returns-clause-ran c = λ i.
    let m = c.args.image.now in
    let level = c.args.self.now.level in
    let there : RowThere c.args.image.now c.args.self.now.level (c.args.self.now.range.first_layer + c.args.number / level_height c.args.image.now c.args.self.now.level) 0 (c.args.number % level_height c.args.image.now c.args.self.now.level) (level_width c.args.image.now c.args.self.now.level) =
    record {
      level_there = c.requires.level.level;
      layer_there = omega (arith, layer_is c, c.new-place.ensures.layer_there, c.requires.level.layers);
      columns = omega arith;
      y_there = omega (arith, row_is c, height_is c, c.new-place.ensures.row_there);
    } in
    clear_ran i c.args.self.now.color m c.args.self.now.range level c.args.number c.requires.piece c.texels_apart.ensures c.image-info.ensures.shaped c.args.start c.args.region.now c.fill_texels.new.region there (returns-clause-kept c)
