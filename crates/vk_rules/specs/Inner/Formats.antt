-- Parts of what is reported of FORMAT, as single functions find them.
use Rattle.std.specs.Prelude.{◌≡◌, ℕ, ◌≢◌, ◌==◌, Bool, not, Some}
use Rattle.vk_model.specs.Basics.{holds}
use Rattle.vk_model.specs.Trace.Image.{texel}
use Rattle.vk_model.specs.Trace.Objects.{image}
use Rattle.vk_model.specs.Trace.Point.{Past}
use Rattle.vk_rules.specs.declared.formats.OtherTexels.{OtherTexels}
use Rattle.vk_rules.specs.Formats.{image_texel}

-- Whether the texels of two images are of other sizes.
abbrev pub texels_differ : Past → ℕ → ℕ → Bool
texels_differ past s d = holds (image past s) (λ a. holds (image past d) (λ b. not (texel a.format == texel b.format)))

-- The texels of two images are of these sizes, and they differ.
abbrev pub AreOtherTexels : Past → ℕ → ℕ → OtherTexels → Type 0
AreOtherTexels past s d m =
    (m.source ≡ s) × (m.destination ≡ d) × (image_texel past s ≡ Some m.source_texel) × (image_texel past d ≡ Some m.destination_texel)
    × (m.source_texel ≢ m.destination_texel)
