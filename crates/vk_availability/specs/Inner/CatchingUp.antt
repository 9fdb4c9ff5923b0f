-- With which late bytes memory catches up.
use Rattle.std.specs.Prelude.{◌≡◌, ◌≢◌, ℕ, Bool, false, if◌then◌else◌, Option, Some, length}
use Rattle.vk_model.specs.World.Bytes.{Byte, in_buffer, in_image, resource_at}
use Rattle.vk_image_transfer.specs.Held.{Form, place_of}
use Rattle.vk_resources.specs.Held.{Held}
use Rattle.vk_resources.specs.Stretches.{place_at}
use Rattle.vk_lag.specs.declared.late.Late.{Late}
use Rattle.vk_lag.specs.declared.late.Due.{Due}
use Rattle.vk_lag.specs.Lags.{Lags, resource_in, late_at, caught_up}

-- A byte when memory has caught up with it if it passes a test and is due.
abbrev pub caught_where : Bool → Due → Option Late → Option Late
caught_where passes due late = if passes then caught_up due late else late

-- There is room for as many bytes of each resource as before.
abbrev pub KeepsRoom : Lags → Lags → Type 0
KeepsRoom old new = (id : ℕ) → length (resource_in new id) ≡ length (resource_in old id)

-- Memory catches up with what is due of those bytes of one resource that pass a test, and with nothing else: said of each byte that a buffer or an image of this form has (Vulkan, "Execution and Memory Dependencies", on availability operations).
pub record CatchesUp (id : ℕ) (form : Form) (test : Byte → Bool) (due : Due) (old new : Lags) : Type 0 where
  pub bytes : (c : Byte) (k : ℕ) → resource_at c ≡ id → place_of form c ≡ Some k → late_at new id k ≡ caught_where (test c) due (late_at old id k)
  pub others : (other : ℕ) → other ≢ id → resource_in new other ≡ resource_in old other
  pub room : KeepsRoom old new

-- The same of the bytes of all resources that lie somewhere.
pub record CatchesUpOn (s : Held) (test : Byte → Bool) (due : Due) (old new : Lags) : Type 0 where
  pub bytes : (c : Byte) (k : ℕ) → place_at s c ≡ Some k → late_at new (resource_at c) k ≡ caught_where (test c) due (late_at old (resource_at c) k)
  pub room : KeepsRoom old new

-- Whether a byte is of an image, and its level and its layer pass a test.
abbrev pub is_in_part : (ℕ → ℕ → Bool) → Byte → Bool
is_in_part test (in_buffer b k) = false
is_in_part test (in_image i level layer x y p) = test level layer
