-- Where the texels of an image lie in its memory, and what a resource needs of memory.
use Rattle.std.specs.Prelude.{ℕ, ◌+◌, ◌*◌, ◌/◌, ◌%◌, ◌^◌, if◌then◌else◌}
use Rattle.std.specs.List.{sum_by}
use Rattle.vk_model.specs.declared.resource.ImageInfo.{ImageInfo}
use Rattle.vk_model.specs.declared.resource.Kind.{Kind}
use Rattle.vk_model.specs.declared.resource.Kind.TheVariants as kind
use Rattle.vk_model.specs.declared.resource.Need.{Need}
use Rattle.vk_model.specs.declared.subresource.SubresourceLayout.{SubresourceLayout}
use Rattle.vk_model.specs.Basics.{below}
use Rattle.vk_model.specs.Trace.Image.{texel, tiles_across, level_size, layer_size, row_pitch, image_size}
use Rattle.vk_model.specs.Trace.Objects.{Resource}
use Rattle.vk_model.specs.Rules.Sizes.{allows}

-- ---- tiles

-- Bit k of a number.
abbrev pub bit : ℕ → ℕ → ℕ
bit n k = n / 2 ^ k % 2

-- The number of texel (x, y) in its tile of 8 by 8: the bits x0, y0, x1, y1, x2, y2, the lowest first (profile).
abbrev pub number_in_tile : ℕ → ℕ → ℕ
number_in_tile x y = bit x 0 + 2 * bit y 0 + 4 * bit x 1 + 8 * bit y 1 + 16 * bit x 2 + 32 * bit y 2

-- The number of the tile of texel (x, y) in level k: tiles lie in row order (profile).
abbrev pub tile_number : ImageInfo → ℕ → ℕ → ℕ → ℕ
tile_number i k x y = y / 8 * tiles_across i k + x / 8

-- Where level k of an optimal image starts in its layer: after the levels before it (profile).
abbrev pub level_start : ImageInfo → ℕ → ℕ
level_start i k = sum_by (level_size i) (below k)

-- ---- addresses

-- The first byte of texel (x, y) of a level and a layer, counted from the image's: row after row where it is linear, so of one level and one layer, tile after tile where it is optimal (Vulkan, "Images", on `VkSubresourceLayout`; tiles: profile).
abbrev pub address : ImageInfo → Kind → ℕ → ℕ → ℕ → ℕ → ℕ
address i kind.Linear level layer x y = y * row_pitch i + x * texel i.format
address i kind.Optimal level layer x y = layer * layer_size i + level_start i level + (tile_number i level x y * 64 + number_in_tile x y) * texel i.format

-- Where a level of a layer lies (Vulkan, "Images", on `VkSubresourceLayout`; a pitch of 0 where there are no rows: profile).
abbrev pub subresource_layout : ImageInfo → Kind → ℕ → ℕ → SubresourceLayout
subresource_layout i kind.Linear level layer = record { offset = 0; size = image_size i kind.Linear; row_pitch = row_pitch i }
subresource_layout i kind.Optimal level layer = record { offset = layer * layer_size i + level_start i level; size = level_size i level; row_pitch = 0 }

-- ---- needs

-- The memory types that a resource allows, type t as bit t (Vulkan, "Resource Memory Association", on `memoryTypeBits`).
abbrev pub memory_types : Kind → ℕ
memory_types k = sum_by (λ t. if allows k t then 2 ^ t else 0) (below 3)

-- What a resource needs of memory (Vulkan, "Resource Memory Association", on `VkMemoryRequirements`).
abbrev pub need_of : Resource → Need
need_of r = record { size = r.size; align = r.align; types = memory_types r.kind }
