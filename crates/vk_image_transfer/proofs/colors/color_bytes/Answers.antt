use Rattle.std.proofs.Common.{◌+◌, ◌*◌, ℕ, ap, ◌∙◌, arith}
use Rattle.std.proofs.lemmas.Nat.{mod-mul-add}
use Rattle.vk_model.specs.Trace.Image.{texel}
use Rattle.vk_model.specs.World.ByteWrites.{color_byte}
use Rattle.vk_image_transfer.proofs.colors.color_bytes.Goals as goal

pub returns : goal.returns
returns c = λ x p low lt.
    c.loop-index.invariant.so_far (x * texel c.args.image.now.format + p) (omega (arith, lt, c.loop-index-test.false))
    ∙ ap (λ (k : ℕ). color_byte c.args.image.now c.args.color.now k) (mod-mul-add x (texel c.args.image.now.format) p low)
