-- What is found in levels and layers of an image, by the numbers of their bytes.
use Rattle.std.specs.Prelude.{◌*◌, ◌+◌, ◌<◌, ◌≤◌, ℕ, Bool}
use Rattle.vk_model.specs.declared.command.SubresourceRange.{SubresourceRange}
use Rattle.vk_model.specs.declared.resource.ImageInfo.{ImageInfo}
use Rattle.vk_image_bytes.specs.declared.ranges.ByteRanges.{ByteRanges}
use Rattle.vk_image_bytes.specs.Ranges.{AreRanges}
use Rattle.vk_touches.specs.Conflicts.{FoundInRanges}

-- Ranges of numbers end at most there.
abbrev pub EndWithin : ByteRanges → ℕ → Type 0
EndWithin s end = (n : ℕ) → n < s.count → s.first + n * s.step + s.size ≤ end

-- What is found in their ranges of numbers.
abbrev pub FoundInSubresources : (Bool → (low high : ℕ) → Type 0) → ImageInfo → Bool → SubresourceRange → Type 0
FoundInSubresources is m answer r = (s : ByteRanges) × AreRanges m r s × FoundInRanges is answer s
