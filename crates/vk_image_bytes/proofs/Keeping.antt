-- What is kept of an image, of the one that contracts see.
use Rattle.std.proofs.Common.{◌≡◌, ℕ, List, subst}
use Rattle.vk_model.specs.declared.resource.ImageInfo.{ImageInfo}
use Rattle.vk_image_bytes.specs.Inner.Kept.{IsKept}

pub kept_at : {texel_bytes : ℕ} {firsts : List ℕ} (a m : ImageInfo) → a ≡ m → IsKept a texel_bytes firsts → IsKept m texel_bytes firsts
kept_at {texel_bytes} {firsts} a m same kept = subst (λ (j : ImageInfo). IsKept j texel_bytes firsts) same kept
