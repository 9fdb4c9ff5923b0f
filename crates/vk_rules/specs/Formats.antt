-- FORMAT: which numbers are compared.
use Rattle.std.specs.Prelude.{◌≡◌, ℕ, ◌≢◌, Option, Some, option_map}
use Rattle.vk_model.specs.declared.command.Cmd.TheVariants as cmd
use Rattle.vk_model.specs.Trace.Image.{texel}
use Rattle.vk_model.specs.Trace.Point.{Past, Action, Run}
use Rattle.vk_model.specs.Trace.Objects.{image}
use Rattle.vk_rules.specs.declared.formats.OtherTexels.{OtherTexels}

-- The bytes of a texel of an image.
abbrev pub image_texel : Past → ℕ → Option ℕ
image_texel past i = option_map (λ m. texel m.format) (image past i)

-- What is reported of an action that breaks FORMAT: it copies between these images, whose texels are of these sizes, and they differ.
abbrev pub IsFormat : Past → Action → OtherTexels → Type 0
IsFormat past (Run (cmd.CopyImage s l d k gs)) m =
    (m.source ≡ s) × (m.destination ≡ d) × (image_texel past s ≡ Some m.source_texel) × (image_texel past d ≡ Some m.destination_texel)
    × (m.source_texel ≢ m.destination_texel)
IsFormat past _ m = ⊥
