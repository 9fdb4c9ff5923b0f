-- The bytes of a resource, by their numbers, and the units that dependencies tell apart.
use Rattle.std.specs.Prelude.{◌≡◌, ℕ, ◌<◌, ◌≤◌, ⊤}
use Rattle.vk_model.specs.World.Bytes.{Byte, in_buffer}
use Rattle.vk_image_bytes.specs.Numbers.{byte_of, byte_count, subresource_at}
use Rattle.vk_order.specs.Units.{IsOfUnit}
use Rattle.vk_touches.specs.declared.bytes.Bytes.{Bytes}
use Rattle.vk_touches.specs.declared.bytes.Bytes.TheVariants as bytes
use Rattle.vk_touches.specs.declared.bytes.UnitRun.{UnitRun}

-- Byte k of a resource.
abbrev pub numbered_byte : Bytes → ℕ → Byte
numbered_byte (bytes.Buffer b) k = in_buffer b k
numbered_byte (bytes.Image i levels m) k = byte_of m.now i k

-- The numbers below an end are those of bytes of the resource: of an image, as many as it has.
abbrev pub HaveNumbers : Bytes → ℕ → Type 0
HaveNumbers (bytes.Buffer b) end = ⊤
HaveNumbers (bytes.Image i levels m) end = (levels ≡ m.now.levels) × (end ≤ byte_count m.now)

-- The number of the unit of byte k: of a buffer the byte itself, of an image its subresource.
abbrev pub unit_of : Bytes → ℕ → ℕ
unit_of (bytes.Buffer b) k = k
unit_of (bytes.Image i levels m) k = subresource_at m.now k

-- Byte k is of a unit before one.
abbrev pub IsOfEarlier : Bytes → ℕ → ℕ → Type 0
IsOfEarlier b unit k = unit_of b k < unit

-- The bytes from one on and below another are.
abbrev pub AreEarlier : Bytes → ℕ → (low high : ℕ) → Type 0
AreEarlier b unit low high = (k : ℕ) → low ≤ k → k < high → IsOfEarlier b unit k

-- The units of the bytes from one on and below another: each of these bytes is of one of them, and each of them has one of these bytes.
pub record AreUnits (b : Bytes) (low high : ℕ) (u : UnitRun) : Type 0 where
  pub first : unit_of b low ≡ u.low
  pub of : (k : ℕ) → low ≤ k → k < high → IsOfUnit u.units (unit_of b k) (numbered_byte b k)
  pub reached : (k : ℕ) → low ≤ k → k < high → (u.low ≤ unit_of b k) × (unit_of b k < u.high)
  pub reaching : (n : ℕ) → u.low ≤ n → n < u.high → (k : ℕ) × (low ≤ k) × (k < high) × (unit_of b k ≡ n)
