-- Where texels lie in images, and what resources need of memory.
use Rattle.std.specs.Prelude.{◌≡◌, ℕ}
use Rattle.vk_model.specs.declared.layout.Format.{Format}
use Rattle.vk_model.specs.declared.layout.Format.TheVariants as texel_format
use Rattle.vk_model.specs.declared.resource.ImageInfo.{ImageInfo}
use Rattle.vk_model.specs.declared.resource.Kind.{Kind}
use Rattle.vk_model.specs.declared.resource.Kind.TheVariants as kind
use Rattle.vk_model.specs.declared.resource.Need.{Need}
use Rattle.vk_model.specs.declared.resource.Place.TheVariants as place
use Rattle.vk_model.specs.declared.resource.Sharing.TheVariants as sharing
use Rattle.vk_model.specs.declared.subresource.SubresourceLayout.{SubresourceLayout}
use Rattle.vk_model.specs.Trace.Image.{image_size}
use Rattle.vk_model.specs.Trace.Objects.{of_buffer, of_image}
use Rattle.vk_model.specs.Memory.Addresses.{address, subresource_layout, need_of}
use Rattle.vk_rows.specs.Writing.{both}

-- An image: format, width, height, levels, layers, tiling.
abbrev pub shape : Format → ℕ → ℕ → ℕ → ℕ → Kind → ImageInfo
shape f w h levels layers tiling = record { format = f; width = w; height = h; levels = levels; layers = layers; tiling = tiling; usage = record { 0 = both }; sharing = sharing.Exclusive; place = place.Dedicated 0 }

-- 9 by 5 texels of two bytes.
abbrev pub nine_by_five : Kind → ImageInfo
nine_by_five tiling = shape texel_format.R16Uint 9 5 1 1 tiling

-- Three levels of 20 by 12, 10 by 6 and 5 by 3 texels of four bytes, in two layers: 6, 2 and 1 tiles, so 1,536, 512 and 256 bytes.
abbrev pub levels_and_layers : ImageInfo
levels_and_layers = shape texel_format.R8G8B8A8Uint 20 12 3 2 kind.Optimal

-- Two levels of 9 by 9 and 4 by 4 texels of a byte: 256 bytes each, the second of which has 64 in its tile.
abbrev pub small_levels : ImageInfo
small_levels = shape texel_format.R8Uint 9 9 2 1 kind.Optimal

-- A subresource's offset, size and row pitch.
abbrev pub lies : ℕ → ℕ → ℕ → SubresourceLayout
lies offset size pitch = record { offset = offset; size = size; row_pitch = pitch }

-- A need's size, alignment and memory types.
abbrev pub needs : ℕ → ℕ → ℕ → Need
needs size align types = record { size = size; align = align; types = types }

-- Where texels lie in images, and what resources need of memory.
pub record Addresses : Type 0 where
  -- Texel (3, 4) has the number 1 + 4 + 32 in its tile, and (8, 4) the number 32 in the next one.
  pub in_first_tile : address (nine_by_five kind.Optimal) kind.Optimal 0 0 3 4 ≡ 74
  pub in_second_tile : address (nine_by_five kind.Optimal) kind.Optimal 0 0 8 4 ≡ 192
  pub tiled_layout : subresource_layout (nine_by_five kind.Optimal) kind.Optimal 0 0 ≡ lies 0 256 0
  -- Four rows of 64 bytes and three texels.
  pub in_row : address (nine_by_five kind.Linear) kind.Linear 0 0 3 4 ≡ 262
  pub rows_layout : subresource_layout (nine_by_five kind.Linear) kind.Linear 0 0 ≡ lies 0 320 64
  -- Levels follow each other in a layer, and layers follow each other.
  pub in_second_layer : address levels_and_layers kind.Optimal 0 1 13 9 ≡ 3404
  pub in_second_level : address levels_and_layers kind.Optimal 1 1 9 5 ≡ 4236
  pub in_third_level : address levels_and_layers kind.Optimal 2 0 4 2 ≡ 2144
  pub second_level : subresource_layout levels_and_layers kind.Optimal 1 0 ≡ lies 1536 512 0
  pub last_level : subresource_layout levels_and_layers kind.Optimal 2 1 ≡ lies 4352 256 0
  pub whole_image : image_size levels_and_layers kind.Optimal ≡ 4608
  -- A level starts at a multiple of 256 bytes.
  pub after_rounding : address small_levels kind.Optimal 1 0 3 3 ≡ 271
  -- What a buffer and images of both tilings need.
  pub buffer_needs : need_of (of_buffer (record { size = 20; usage = record { 0 = both }; sharing = sharing.Exclusive; place = place.Dedicated 1 })) ≡ needs 32 16 7
  pub rows_need : need_of (of_image (nine_by_five kind.Linear)) ≡ needs 320 64 7
  pub tiles_need : need_of (of_image (nine_by_five kind.Optimal)) ≡ needs 256 256 1
