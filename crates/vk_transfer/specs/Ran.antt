-- What it means that byte writes have been made.
use Rattle.std.specs.Prelude.{◌≡◌, ℕ, ◌+◌, ◌≤◌, ◌⊎◌, ◌==◌, nat_lt, List, slice_index, Option, Some, None, if◌then◌else◌}
use Rattle.vk_model.specs.World.Bytes.{Byte, in_buffer, in_image}
use Rattle.vk_model.specs.World.ByteWrites.{Source, Value, From, ByteWrite}
use Rattle.vk_model.specs.Run.CachedRuns.{write_to}

-- What a source gives, by the bytes as they were.
abbrev pub given : Source → (Byte → ℕ) → ℕ
given (Value n) bytes = n
given (From d) bytes = bytes d

-- What a byte holds after the write to it, if there is one.
abbrev pub stored : Option ByteWrite → (Byte → ℕ) → Byte → ℕ
stored None bytes c = bytes c
stored (Some m) bytes c = given m.source bytes

-- The byte writes have been made, all from the bytes as they were, and nothing else has changed (Vulkan, "Clear Commands" and "Copy Commands").
abbrev pub HaveRun : List ByteWrite → (Byte → ℕ) → (Byte → ℕ) → Type 0
HaveRun ms old new = (c : Byte) → new c ≡ stored (write_to c ms) old c

-- The bytes of buffer b, which lies in a region from a place on; 0 stands for bytes that don't lie there (Vulkan, "Resource Memory Association").
abbrev pub bytes_in : List ℕ → ℕ → ℕ → Byte → ℕ
bytes_in region start b (in_buffer c k) = if b == c then slice_index region (start + k) else 0
bytes_in region start b (in_image i l a x y p) = 0

-- ---- buffers in several places

-- Where a buffer lies: in a region from a place on, so many bytes (Vulkan, "Resource Memory Association").
pub record Stretch : Type 0 where
  pub region : List ℕ
  pub start : ℕ
  pub size : ℕ

-- The stretch with these parts.
abbrev pub stretch : List ℕ → ℕ → ℕ → Stretch
stretch region start size = record { region = region; start = start; size = size }

-- Byte k of what lies in a stretch; 0 beyond its end, and where there is none (Vulkan, "Resource Memory Association").
abbrev pub byte_in : Option Stretch → ℕ → ℕ
byte_in None k = 0
byte_in (Some p) k = if nat_lt k p.size then slice_index p.region (p.start + k) else 0

-- The bytes of buffers, each of which lies in its stretch, if it has one; 0 stands for bytes that lie nowhere, as those of images (Vulkan, "Resource Memory Association").
abbrev pub bytes_of : (ℕ → Option Stretch) → Byte → ℕ
bytes_of stretches (in_buffer c k) = byte_in (stretches c) k
bytes_of stretches (in_image i l a x y p) = 0

-- Buffer s lies in a stretch, buffer d in another, and no other buffer anywhere (Vulkan, "Resource Memory Association").
abbrev pub two_buffers : ℕ → Stretch → ℕ → Stretch → ℕ → Option Stretch
two_buffers s p d q c = if d == c then Some q else if s == c then Some p else None

-- The m bytes from a place on and the n bytes from another on share none (Vulkan, "Memory Aliasing").
abbrev pub AreApart : ℕ → ℕ → ℕ → ℕ → Type 0
AreApart start m other n = (start + m ≤ other) ⊎ (other + n ≤ start)
