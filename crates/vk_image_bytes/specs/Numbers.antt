-- The bytes of an image, numbered: layer by layer, level by level, row by row, each texel's bytes together. So a row, a level and a layer have numbers in a row (profile).
use Rattle.std.specs.Prelude.{ℕ, ◌+◌, ◌-◌, ◌*◌, ◌/◌, ◌%◌, nat_le}
use Rattle.std.specs.List.{sum_by, count_by}
use Rattle.vk_model.specs.declared.resource.ImageInfo.{ImageInfo}
use Rattle.vk_model.specs.Basics.{below}
use Rattle.vk_model.specs.Trace.Image.{texel, level_width, level_height}
use Rattle.vk_model.specs.Memory.PlaceLaws.{TexelByte}
use Rattle.vk_model.specs.World.Bytes.{Byte, in_image}

-- ---- how many bytes

-- The bytes of level k of a layer (Vulkan, "Image Mip Level Sizing").
abbrev pub level_byte_count : ImageInfo → ℕ → ℕ
level_byte_count m k = level_height m k * level_width m k * texel m.format

-- The bytes of a layer's levels before level k: the number of the first byte of level k in layer 0 (profile).
unfoldable pub level_first : ImageInfo → ℕ → ℕ
level_first m k = sum_by (level_byte_count m) (below k)

-- The bytes of a layer.
abbrev pub layer_byte_count : ImageInfo → ℕ
layer_byte_count m = level_first m m.levels

-- The bytes of an image.
abbrev pub byte_count : ImageInfo → ℕ
byte_count m = m.layers * layer_byte_count m

-- ---- the number of a byte

-- The number of byte p of texel (x, y) of a level and a layer (profile).
abbrev pub number_of : ImageInfo → (level layer x y p : ℕ) → ℕ
number_of m level layer x y p = layer * layer_byte_count m + (level_first m level + ((y * level_width m level + x) * texel m.format + p))

-- ---- the byte of a number

-- The layer of byte k.
unfoldable pub layer_at : ImageInfo → ℕ → ℕ
layer_at m k = k / layer_byte_count m

-- The level of byte k: as many levels as end at it or before it in its layer.
unfoldable pub level_at : ImageInfo → ℕ → ℕ
level_at m k = count_by (λ l. nat_le (level_first m (l + 1)) (k % layer_byte_count m)) (below m.levels)

-- How many bytes of its level come before byte k.
abbrev pub before_in_level : ImageInfo → ℕ → ℕ
before_in_level m k = k % layer_byte_count m - level_first m (level_at m k)

-- Where byte k is: its level, its layer, its texel, and which byte of the texel it is.
unfoldable pub numbered : ImageInfo → ℕ → TexelByte
numbered m k = record {
  level = level_at m k;
  layer = layer_at m k;
  x = before_in_level m k / texel m.format % level_width m (level_at m k);
  y = before_in_level m k / texel m.format / level_width m (level_at m k);
  texel_byte = before_in_level m k % texel m.format;
}

-- A byte of image i.
abbrev pub byte_in : ℕ → TexelByte → Byte
byte_in i b = in_image i b.level b.layer b.x b.y b.texel_byte

-- Byte k of image i.
abbrev pub byte_of : ImageInfo → ℕ → ℕ → Byte
byte_of m i k = byte_in i (numbered m k)

-- ---- subresources

-- The number of a level of a layer among the subresources of an image.
abbrev pub subresource_of : ImageInfo → (level layer : ℕ) → ℕ
subresource_of m level layer = layer * m.levels + level

-- The number of the subresource of byte k.
abbrev pub subresource_at : ImageInfo → ℕ → ℕ
subresource_at m k = subresource_of m (level_at m k) (layer_at m k)
