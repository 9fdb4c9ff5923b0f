-- What a shape keeps.
use Rattle.std.specs.Prelude.{◌≡◌, ℕ, ◌≤◌, List, slice_index, false}
use Rattle.vk_model.specs.declared.resource.ImageInfo.{ImageInfo}
use Rattle.vk_model.specs.Trace.Image.{texel, row_pitch, image_size}
use Rattle.vk_model.specs.Rules.Sizes.{bad_image}
use Rattle.vk_model.specs.Memory.Addresses.{level_start}

-- Where each level of a layer starts, and after the last of 13 where it ends.
abbrev pub AreStarts : ImageInfo → List ℕ → Type 0
AreStarts i starts = (k : ℕ) → k ≤ 13 → slice_index starts k ≡ level_start i k

-- What a shape keeps of an image that breaks no rule on sizes.
pub record IsKept (i : ImageInfo) (texel_bytes row_bytes : ℕ) (starts : List ℕ) : Type 0 where
  pub shaped : bad_image i ≡ false
  pub small : image_size i i.tiling ≤ 67108864
  pub texel_is : texel_bytes ≡ texel i.format
  pub pitch_is : row_bytes ≡ row_pitch i
  pub starts_are : AreStarts i starts
