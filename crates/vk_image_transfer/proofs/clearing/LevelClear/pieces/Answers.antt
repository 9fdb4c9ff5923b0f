use Rattle.std.proofs.Common.{◌*◌, ℕ, ap, sym, ◌∙◌}
use Rattle.vk_model.specs.declared.resource.ImageInfo.{ImageInfo}
use Rattle.vk_model.specs.Trace.Image.{level_height}
use Rattle.vk_image_transfer.proofs.Clears.{clear_count}
use Rattle.vk_image_transfer.proofs.clearing.LevelClear.pieces.Goals as goal

pub returns : goal.returns
returns c = λ i.
    ap (λ (k : ℕ). k * c.from-2.result) c.from.ensures ∙ ap (λ (k : ℕ). c.args.self.now.range.layers * k) (c.from-2.ensures ∙ c.level_height-rows.ensures ∙ ap (λ (m : ImageInfo). level_height m c.args.self.now.level) c.image.ensures.image)
    ∙ sym (clear_count i c.args.self.now.color c.args.image.now c.args.self.now.range c.args.self.now.level)
