-- The bytes of memory that a piece writes, as they are walked.
use Rattle.std.specs.Prelude.{◌≡◌, ℕ, ◌+◌, ◌<◌, List, map, length, Bool, true, false, ◌||◌, Option, Some, None, is_some}
use Rattle.std.specs.List.{list_any, range_with_len}
use Rattle.vk_model.specs.World.Bytes.{Byte, resource_at}
use Rattle.vk_model.specs.World.ByteWrites.{ByteWrite}
use Rattle.vk_model.specs.Run.CachedRuns.{write_to}
use Rattle.vk_transfer.specs.declared.stretches.Stretch.{Stretch}
use Rattle.vk_transfer.specs.Stretches.{lies_in}
use Rattle.vk_image_transfer.specs.Held.{Form, place_of}

-- Whether byte k of a memory object is one of some stretches.
abbrev pub is_among : List Stretch → ℕ → Bool
is_among stretches k = list_any (λ s. lies_in s k) stretches

-- A stretch is taken of the bytes that are left, which are those of some stretches: it has some of them, and the others are left.
pub record Takes (s : Stretch) (old new : List Stretch) : Type 0 where
  pub some : 0 < s.size
  pub bytes : (k : ℕ) → is_among old k ≡ (lies_in s k || is_among new k)
  pub apart : (k : ℕ) → lies_in s k ≡ true → is_among new k ≡ false
  pub fewer : length new < length old

-- The next stretch is taken; there is none where no byte is left.
abbrev pub IsNext : Option Stretch → List Stretch → List Stretch → Type 0
IsNext None old new = (new ≡ old) × ((k : ℕ) → is_among old k ≡ false)
IsNext (Some s) old new = Takes s old new

-- The bytes of texel x of t bytes, by where texels begin.
abbrev pub texel_bytes : (ℕ → ℕ) → (t x : ℕ) → Stretch
texel_bytes place t x = record { at = place x; size = t }

-- Those of so many texels from texel x on.
abbrev pub row_left : (ℕ → ℕ) → (t x count : ℕ) → List Stretch
row_left place t x count = map (texel_bytes place t) (range_with_len x count)

-- Byte writes are of bytes of one resource of this form, which lies in memory from a place on: of exactly those whose places pass a test, and only such places do (Vulkan, "Resource Memory Association").
pub record WritesAt (test : ℕ → Bool) (ms : List ByteWrite) (resource : ℕ) (form : Form) (start : ℕ) : Type 0 where
  pub own : (c : Byte) → is_some (write_to c ms) ≡ true → (resource_at c ≡ resource) × (at : ℕ) × (place_of form c ≡ Some at)
  pub bytes : (c : Byte) (at : ℕ) → resource_at c ≡ resource → place_of form c ≡ Some at → is_some (write_to c ms) ≡ test (start + at)
  pub places : (k : ℕ) → test k ≡ true → (c : Byte) × (at : ℕ) × (resource_at c ≡ resource) × (place_of form c ≡ Some at) × (start + at ≡ k)
