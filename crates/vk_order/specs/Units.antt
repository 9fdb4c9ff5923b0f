-- What is looked at one after another: the bytes of a buffer, or the subresources of an image.
use Rattle.std.specs.Prelude.{◌≡◌, ℕ, ◌/◌, ◌%◌, ◌<◌, ◌≤◌, ◌&&◌, Bool, ⊤}
use Rattle.vk_model.specs.declared.command.SubresourceRange.{SubresourceRange}
use Rattle.vk_model.specs.Basics.{within}
use Rattle.vk_model.specs.World.Bytes.{Byte, in_buffer, in_image}
use Rattle.vk_order.specs.declared.units.Units.{Units}
use Rattle.vk_order.specs.declared.units.Units.TheVariants as units

-- Byte k of a buffer, or the first byte of subresource k of an image: subresources are numbered layer by layer.
abbrev pub unit_byte : Units → ℕ → Byte
unit_byte (units.Bytes b) k = in_buffer b k
unit_byte (units.Subresources i levels) k = in_image i (k % levels) (k / levels) 0 0 0

-- The resource.
abbrev pub units_resource : Units → ℕ
units_resource (units.Bytes b) = b
units_resource (units.Subresources i levels) = i

-- A byte is of the unit of a number: it is byte k of the buffer, or one of subresource k of the image.
abbrev pub IsOfUnit : Units → ℕ → Byte → Type 0
IsOfUnit (units.Bytes b) k c = c ≡ in_buffer b k
IsOfUnit (units.Subresources i levels) k c = (x y p : ℕ) × (c ≡ in_image i (k % levels) (k / levels) x y p)

-- Whether a range has a level of a layer (Vulkan, "Images", on `VkImageSubresourceRange`).
abbrev pub in_subresources : SubresourceRange → (level layer : ℕ) → Bool
in_subresources r level layer = within r.first_level r.levels level && within r.first_layer r.layers layer

-- The numbers below an end are those of units: an image has a level, and its subresources are counted in 32 bits.
abbrev pub HaveNumbers : Units → ℕ → Type 0
HaveNumbers (units.Bytes b) end = ⊤
HaveNumbers (units.Subresources i levels) end = (0 < levels) × (end ≤ 4294967296)
