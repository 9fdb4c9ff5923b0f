-- What is kept of an image to number its bytes.
use Rattle.std.specs.Prelude.{◌≡◌, ℕ, ◌≤◌, List, slice_index, false}
use Rattle.vk_model.specs.declared.resource.ImageInfo.{ImageInfo}
use Rattle.vk_model.specs.Trace.Image.{texel}
use Rattle.vk_model.specs.Rules.Sizes.{bad_image}
use Rattle.vk_image_bytes.specs.Numbers.{level_first}

-- Where each level of a layer begins, and after the last of 13 where it ends.
abbrev pub AreFirsts : ImageInfo → List ℕ → Type 0
AreFirsts m firsts = (k : ℕ) → k ≤ 13 → slice_index firsts k ≡ level_first m k

-- What is kept of an image that breaks no rule on sizes.
pub record IsKept (m : ImageInfo) (texel_bytes : ℕ) (firsts : List ℕ) : Type 0 where
  pub shaped : bad_image m ≡ false
  pub texel_is : texel_bytes ≡ texel m.format
  pub firsts_are : AreFirsts m firsts
