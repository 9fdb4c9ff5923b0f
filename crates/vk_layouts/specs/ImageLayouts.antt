-- The layouts of the subresources of one image (Vulkan, "Image Layouts").
use Rattle.std.specs.Prelude.{◌≡◌, ℕ, ◌+◌, ◌≤◌, List, [], length, slice_index, slice_index_or}
use Rattle.std.specs.Prelude.{All}
use Rattle.vk_model.specs.declared.command.SubresourceRange.{SubresourceRange}

-- How many layers an image has, and for each of its levels the layouts of the layers (Vulkan, "Images").
pub record ImageLayouts : Type 0 where
  pub layers : ℕ
  pub levels : List (List ℕ)

-- The layout of a subresource; UNDEFINED, which is 0, where the image has no such one (Vulkan, "Image Layouts").
abbrev pub layout_at : ImageLayouts → ℕ → ℕ → ℕ
layout_at s level layer = slice_index (slice_index_or s.levels level []) layer

-- They are the layouts that a world has of an image, by level and layer.
abbrev pub AreLayouts : ImageLayouts → (ℕ → ℕ → ℕ) → Type 0
AreLayouts s layouts = (level layer : ℕ) → layout_at s level layer ≡ layouts level layer

-- A range is one of the image's levels and layers (Vulkan, "Images", on `VkImageSubresourceRange`).
pub record IsWithin (s : ImageLayouts) (r : SubresourceRange) : Type 0 where
  pub levels : r.first_level + r.levels ≤ length s.levels
  pub layers : r.first_layer + r.layers ≤ s.layers

-- Each level has all layers.
abbrev pub HaveLayers : ℕ → List (List ℕ) → Type 0
HaveLayers layers levels = All (λ level. length level ≡ layers) levels
