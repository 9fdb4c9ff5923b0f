-- Shapes of images: texels, levels, and the memory that they take.
use Rattle.std.specs.Prelude.{ℕ, ◌+◌, ◌*◌, ◌/◌, ◌^◌, max, nat_le, if◌then◌else◌}
use Rattle.std.specs.List.{sum_by}
use Rattle.vk_model.specs.declared.resource.ImageInfo.{ImageInfo}
use Rattle.vk_model.specs.declared.layout.Format.{Format}
use Rattle.vk_model.specs.declared.layout.Format.TheVariants as format
use Rattle.vk_model.specs.declared.resource.Kind.{Kind}
use Rattle.vk_model.specs.declared.resource.Kind.TheVariants as kind
use Rattle.vk_model.specs.Basics.{below, round_up}

-- The bytes of one component (Vulkan, "Format Definition").
abbrev pub component : Format → ℕ
component format.R8Uint = 1
component format.R8G8Uint = 1
component format.R8G8B8A8Uint = 1
component format.R16Uint = 2
component format.R32Uint = 4
component format.R32G32Uint = 4
component format.R32G32B32A32Uint = 4

-- The bytes of one texel (Vulkan, "Format Definition").
abbrev pub texel : Format → ℕ
texel format.R8Uint = 1
texel format.R8G8Uint = 2
texel format.R8G8B8A8Uint = 4
texel format.R16Uint = 2
texel format.R32Uint = 4
texel format.R32G32Uint = 8
texel format.R32G32B32A32Uint = 16

-- The texels of a row of level k: each level halves the one before (Vulkan, "Image Mip Level Sizing").
abbrev pub level_width : ImageInfo → ℕ → ℕ
level_width i k = max 1 (i.width / 2 ^ k)

-- The rows of level k (Vulkan, "Image Mip Level Sizing").
abbrev pub level_height : ImageInfo → ℕ → ℕ
level_height i k = max 1 (i.height / 2 ^ k)

-- How many levels sides of this size can have, down to one texel: the longer side's binary digits, of at most 13 (Vulkan, "Image Mip Level Sizing").
abbrev pub most_levels : ℕ → ℕ → ℕ
most_levels w h = sum_by (λ k. if nat_le (2 ^ k) (max w h) then 1 else 0) (below 13)

-- How many tiles of 8 by 8 texels a row of tiles of level k has; the last one may reach over the edge (profile).
abbrev pub tiles_across : ImageInfo → ℕ → ℕ
tiles_across i k = (level_width i k + 7) / 8

-- How many rows of tiles level k has; the last one may reach over the edge (profile).
abbrev pub tiles_down : ImageInfo → ℕ → ℕ
tiles_down i k = (level_height i k + 7) / 8

-- The bytes of level k of an optimal image: its tiles, rounded up to 256 bytes (profile).
abbrev pub level_size : ImageInfo → ℕ → ℕ
level_size i k = round_up (tiles_across i k * tiles_down i k * 64 * texel i.format) 256

-- The bytes of a layer of an optimal image: its levels in order (profile).
abbrev pub layer_size : ImageInfo → ℕ
layer_size i = sum_by (level_size i) (below i.levels)

-- The bytes from one row of a linear image to the next (Vulkan, "Images", on `VkSubresourceLayout`; rounded up to 64: profile).
abbrev pub row_pitch : ImageInfo → ℕ
row_pitch i = round_up (i.width * texel i.format) 64

-- The bytes of memory that an image asks for (Vulkan, "Resource Memory Association"; the numbers: profile).
abbrev pub image_size : ImageInfo → Kind → ℕ
image_size i kind.Linear = row_pitch i * i.height
image_size i kind.Optimal = layer_size i * i.layers

-- The alignment that an image asks for (Vulkan, "Resource Memory Association"; the numbers: profile).
abbrev pub image_align : Kind → ℕ
image_align kind.Linear = 64
image_align kind.Optimal = 256
