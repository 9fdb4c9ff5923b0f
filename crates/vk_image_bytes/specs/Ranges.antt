-- Ranges of numbers of an image's bytes.
use Rattle.std.specs.Prelude.{◌≡◌, ℕ, ◌+◌, ◌*◌, ◌<◌, ◌≤◌, Bool}
use Rattle.std.specs.List.{list_any}
use Rattle.vk_model.specs.declared.command.SubresourceRange.{SubresourceRange}
use Rattle.vk_model.specs.declared.resource.ImageInfo.{ImageInfo}
use Rattle.vk_model.specs.Basics.{below, within}
use Rattle.vk_model.specs.World.Effect.{in_range}
use Rattle.vk_image_bytes.specs.declared.ranges.ByteRanges.{ByteRanges}
use Rattle.vk_image_bytes.specs.Numbers.{byte_of, byte_count}

-- Whether one of some ranges, each so many bytes after the one before it, has byte k.
abbrev pub has_number : ByteRanges → ℕ → Bool
has_number s k = list_any (λ n. within (s.first + n * s.step) s.size k) (below s.count)

-- The ranges of the bytes of a range of levels and layers: they lie in the image, and have exactly those of its bytes that are in that range (Vulkan, "Images", on `VkImageSubresourceRange`).
pub record AreRanges (m : ImageInfo) (r : SubresourceRange) (s : ByteRanges) : Type 0 where
  pub inside : (n : ℕ) → n < s.count → s.first + n * s.step + s.size ≤ byte_count m
  pub bytes : (i k : ℕ) → k < byte_count m → has_number s k ≡ in_range i r (byte_of m i k)
