-- What two parts of a point have in common.
use Rattle.std.specs.Prelude.{◌≡◌, ◌*◌, ℕ, List, Bool, Some, IsTrue, slice_get}
use Rattle.std.specs.List.{list_any}
use Rattle.vk_model.specs.declared.command.BufferImageCopy.{BufferImageCopy}
use Rattle.vk_model.specs.declared.command.Element.{Element}
use Rattle.vk_model.specs.declared.command.Element.TheVariants as element
use Rattle.vk_model.specs.Basics.{below, within}
use Rattle.vk_model.specs.World.Areas.{Area, Bytes, Rows, Texels, Subresources, row_count, row_start}
use Rattle.vk_findings.specs.declared.commons.Common.{Common}
use Rattle.vk_findings.specs.declared.commons.Common.TheVariants as common

-- Whether a byte of a buffer is in a row of a region, with texels of t bytes (Vulkan, "Buffer and Image Addressing").
abbrev pub rows_have : ℕ → BufferImageCopy → ℕ → Bool
rows_have t g at = list_any (λ r. within (row_start t g r) (g.width * t) at) (below (row_count g))

-- What lies in an area (Vulkan, "Clear Commands" and "Copy Commands").
abbrev pub IsIn : Area → Common → Type 0
IsIn (Bytes b o n) (common.Byte c at) = (c ≡ b) × IsTrue (within o n at)
IsIn (Rows b t g) (common.Byte c at) = (c ≡ b) × IsTrue (rows_have t g at)
IsIn (Texels i k) (common.Texel j level layer x y) =
    (j ≡ i) × (level ≡ k.level) × IsTrue (within k.first_layer k.layers layer) × IsTrue (within k.x k.width x) × IsTrue (within k.y k.height y)
IsIn (Subresources i r) (common.Subresource j level layer) = (j ≡ i) × IsTrue (within r.first_level r.levels level) × IsTrue (within r.first_layer r.layers layer)
IsIn _ _ = ⊥

-- What lies in the range of an image element (Vulkan, "Image Memory Barriers").
abbrev pub IsNamedBy : Element → Common → Type 0
IsNamedBy (element.Image e) x = IsIn (Subresources e.image e.range) x
IsNamedBy _ x = ⊥

-- An id itself.
abbrev pub IsId : ℕ → Common → Type 0
IsId id (common.Id listed) = listed ≡ id
IsId id _ = ⊥

-- Of two lists the items of these numbers pass a test together, and both have this.
pub record AreMet {A : Type 0} (test : A → A → Bool) (Has : A → Common → Type 0) (ones others : List A) (i j : ℕ) (x : Common) : Type 0 where
  pub one : A
  pub other : A
  pub one_is : slice_get ones i ≡ Some one
  pub other_is : slice_get others j ≡ Some other
  pub meet : IsTrue (test one other)
  pub in_one : Has one x
  pub in_other : Has other x
