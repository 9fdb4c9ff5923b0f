-- Subresources of bytes with numbers in a row.
use Rattle.std.specs.Prelude.{◌≡◌, ℕ, ◌<◌, ◌≤◌}
use Rattle.vk_model.specs.declared.resource.ImageInfo.{ImageInfo}
use Rattle.vk_image_bytes.specs.declared.image_bytes.Subresources.{Subresources}
use Rattle.vk_image_bytes.specs.Numbers.{subresource_at}

-- The subresources of the bytes from `low` on and below `high`: each of these bytes is of one of them, and each of them has one of these bytes.
pub record AreOf (m : ImageInfo) (low high : ℕ) (s : Subresources) : Type 0 where
  pub reached : (k : ℕ) → low ≤ k → k < high → (s.first ≤ subresource_at m k) × (subresource_at m k ≤ s.last)
  pub reaching : (n : ℕ) → s.first ≤ n → n ≤ s.last → (k : ℕ) × (low ≤ k) × (k < high) × (subresource_at m k ≡ n)
