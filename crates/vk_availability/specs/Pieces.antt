-- What becomes late as a piece of a command runs.
use Rattle.std.specs.Prelude.{◌≡◌, ℕ, ◌+◌, ◌<◌, ◌≤◌, List, true, ◌&&◌, ◌==◌, if◌then◌else◌, Option, Some, length, slice_index}
use Rattle.vk_transfer.specs.declared.stretches.Stretch.{Stretch}
use Rattle.vk_image_transfer.specs.Stretches.{is_among}
use Rattle.vk_resources.specs.declared.resources.Placed.{Placed}
use Rattle.vk_resources.specs.declared.stretches.Written.{Written}
use Rattle.vk_resources.specs.Held.{Held, placed}
use Rattle.vk_lag.specs.declared.late.Late.{Late}
use Rattle.vk_lag.specs.declared.late.Writer.{Writer}
use Rattle.vk_lag.specs.Lags.{Lags, resource_in}

-- Bytes of a resource may become late: it lies somewhere, none of them is beyond its end, and there is room for all its bytes (Vulkan, "Resource Memory Association"; the room: profile).
pub record MayBeLate (s : Held) (lags : Lags) (w : Written) : Type 0 where
  pub place : Placed
  pub here : placed s w.resource ≡ Some place
  pub inside : (k : ℕ) → is_among w.left k ≡ true → k < place.size
  pub room : place.size ≤ length (resource_in lags w.resource)

-- Byte k of a resource, when these stretches of one resource have become late by a command: memory still has of them what its region has, in which the resource lies from a byte on (Vulkan, "Execution and Memory Dependencies", on availability operations).
abbrev pub late_by : (resource : ℕ) → List Stretch → (region : List ℕ) (base : ℕ) → Writer → (id k : ℕ) → Option Late → Option Late
late_by resource stretches region base writer id k late = if resource == id && is_among stretches k then Some (record { writer = writer; value = slice_index region (base + k) }) else late
