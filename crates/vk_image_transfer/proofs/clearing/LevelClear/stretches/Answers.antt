use Rattle.std.proofs.Common.{◌≡◌, ◌+◌, ◌/◌, ◌%◌, ℕ, ap, zero-add, sym, ◌∙◌}
use Rattle.vk_model.specs.declared.resource.ImageInfo.{ImageInfo}
use Rattle.vk_model.specs.Trace.Image.{texel, level_width, level_height}
use Rattle.vk_model.specs.World.Bytes.{in_image}
use Rattle.vk_model.specs.World.ByteWrites.{Value, color_byte}
use Rattle.vk_image_transfer.specs.Inner.Lines.{line_place}
use Rattle.vk_image_transfer.specs.Rows.{image_row}
use Rattle.vk_image_transfer.proofs.Clears.{clear_is}
use Rattle.vk_image_transfer.proofs.ImageRows.{RowThere, row_as}
use Rattle.vk_image_transfer.proofs.PieceRows.{level_row}
use Rattle.vk_image_transfer.proofs.WrittenPlaces.{image_writes_at}
use Rattle.vk_image_transfer.proofs.clearing.LevelClear.stretches.Goals as goal

-- the row that is written
there : (c : goal.After-new) → RowThere c.args.image.now c.args.self.now.level (c.args.self.now.range.first_layer + c.args.number / level_height c.args.image.now c.args.self.now.level) 0 (c.args.number % level_height c.args.image.now c.args.self.now.level) (level_width c.args.image.now c.args.self.now.level)
there c = level_row c.args.image.now c.args.self.now.range c.args.self.now.level c.args.number c.requires.level c.requires.piece

places : (c : goal.After-new) (x : ℕ) → line_place c.image_line-texels.result x ≡ image_row c.args.image.now c.args.start c.args.self.now.level (c.args.self.now.range.first_layer + c.args.number / level_height c.args.image.now c.args.self.now.level) 0 (c.args.number % level_height c.args.image.now c.args.self.now.level) x
places c x =
    let m = c.args.image.now in
    let level = c.args.self.now.level in
    let first = c.args.self.now.range.first_layer in
    let height : c.level_height.result ≡ level_height c.args.image.now c.args.self.now.level = c.level_height.ensures ∙ ap (λ (i : ImageInfo). level_height i c.args.self.now.level) c.image-info.ensures.image in
    c.image_line-texels.ensures.places x
    ∙ row_as m c.args.start level (first + c.new-place.result.layer) (first + c.args.number / level_height m level) 0 c.new-place.result.row (c.args.number % level_height m level)
    (ap (λ (k : ℕ). first + k) (c.new-place.ensures.layer ∙ ap (λ (k : ℕ). c.args.number / k) height)) (c.new-place.ensures.row ∙ ap (λ (k : ℕ). c.args.number % k) height) x

pub returns : goal.returns
returns c = λ i.
    let m = c.args.image.now in
    let r = c.args.self.now.range in
    let level = c.args.self.now.level in
    let color = c.args.self.now.color in
    let layer : ℕ = c.args.self.now.range.first_layer + c.args.number / level_height c.args.image.now c.args.self.now.level in
    let row : ℕ = c.args.number % level_height c.args.image.now c.args.self.now.level in
    let info = c.image-info.ensures.image in
    let bytes : c.from-texel.result ≡ texel c.args.image.now.format = c.from-texel.ensures ∙ c.texel_size.ensures.size ∙ ap (λ (i : ImageInfo). texel i.format) info in
    let wide : c.level_width.result ≡ level_width c.args.image.now c.args.self.now.level = c.level_width.ensures ∙ ap (λ (i : ImageInfo). level_width i c.args.self.now.level) info in
    rw (c.new.ensures, wide, clear_is i color m r level c.args.number c.requires.piece)
    (image_writes_at m c.image-info.ensures.shaped c.texels_apart.ensures c.args.start level layer 0 row (level_width m level) (there c) c.from-texel.result bytes (line_place c.image_line-texels.result) (places c)
    i (λ x p. in_image i level layer x row p) (λ x p. ap (λ (u : ℕ). in_image i level layer u row p) (sym (zero-add x))) (λ x p. Value (color_byte m color p)))
