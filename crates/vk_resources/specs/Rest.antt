-- What stays of memory where some bytes of resources change.
use Rattle.std.specs.Prelude.{◌≡◌, ℕ, ◌+◌, [], ◌∷◌, List, length, slice_index, Bool, false, not, ◌&&◌, Some, IsTrue, is_some}
use Rattle.vk_memory.specs.MemoryState.{IsLive, region_of, type_of}
use Rattle.vk_model.specs.declared.entry.Entry.{Entry}
use Rattle.vk_model.specs.declared.entry.Entry.TheVariants as entry
use Rattle.vk_model.specs.Trace.Point.{Past}
use Rattle.vk_model.specs.Trace.Objects.{is_cached}
use Rattle.vk_model.specs.World.Bytes.{Byte, resource_at}
use Rattle.vk_model.specs.World.ByteWrites.{ByteWrite}
use Rattle.vk_model.specs.World.Effect.{written, reaches}
use Rattle.vk_model.specs.Run.CachedRuns.{write_to, in_atoms}
use Rattle.vk_model.specs.Run.Runs.{touched_by}
use Rattle.vk_image_transfer.specs.Held.{place_of}
use Rattle.vk_resources.specs.declared.resources.Placed.{Placed}
use Rattle.vk_resources.specs.Held.{Held, placed, shape_of, form_of, host_at, is_dirty}

-- Byte k of the memory object of a number is where this byte of a resource lies (Vulkan, "Resource Memory Association").
pub record IsPlaceOf (s : Held) (number k : ℕ) (c : Byte) : Type 0 where
  pub place : Placed
  pub at : ℕ
  pub here : placed s (resource_at c) ≡ Some place
  pub is : place_of (form_of (shape_of s (resource_at c)) place.size) c ≡ Some at
  pub object : place.object ≡ number
  pub byte : place.offset + at ≡ k

-- No byte of a resource lies there that passes a test.
abbrev pub LiesNone : Held → (Byte → Bool) → ℕ → ℕ → Type 0
LiesNone s test number k = (c : Byte) → IsTrue (test c) → IsPlaceOf s number k c → ⊥

-- Each memory object that is live before and after has its type and its size, and all its bytes but those where a byte of a resource lies that passes a test: padding, and what is free or reserved in pools, stay as well (Vulkan, "Device Memory" and "Resource Memory Association").
pub record KeepsRest (old new : Held) (test : Byte → Bool) : Type 0 where
  pub types : (number : ℕ) → IsLive old.memory number → IsLive new.memory number → type_of new.memory number ≡ type_of old.memory number
  pub sizes : (number : ℕ) → IsLive old.memory number → IsLive new.memory number → length (region_of new.memory number) ≡ length (region_of old.memory number)
  pub bytes : (number k : ℕ) → IsLive old.memory number → IsLive new.memory number → LiesNone old test number k → slice_index (region_of new.memory number) k ≡ slice_index (region_of old.memory number) k

-- ---- which bytes change

-- Whether a byte is written by one of some byte writes (Vulkan, "Clear Commands" and "Copy Commands").
abbrev pub is_written : List ByteWrite → Byte → Bool
is_written ms c = is_some (write_to c ms)

-- Whether the host has written a byte, and it hasn't reached memory yet (Vulkan, "Host Access to Device Memory Objects").
abbrev pub is_dirty_at : Held → Byte → Bool
is_dirty_at s c = is_dirty (host_at s c)

-- Whether memory gets a byte by an entry: one that the host writes where no cache is before the memory, or one of those that a flush reaches which hasn't reached memory yet (Vulkan, "Host Access to Device Memory Objects").
abbrev pub is_changed_by : Held → Past → Entry → Byte → Bool
is_changed_by s past (entry.Write b o bytes) c = not (is_cached past b) && is_some (written b o bytes c)
is_changed_by s past (entry.Flush b o n) c = (is_cached past b && reaches b o n c) && is_dirty_at s c
is_changed_by s past _ c = false

-- Whether memory gets a byte as the host's cache gives back an atom of the buffer that an entry accesses: one of the atom that hasn't reached memory yet (profile).
abbrev pub is_given_back : Held → Entry → ℕ → Byte → Bool
is_given_back s x k c = in_atoms (touched_by x) (k ∷ []) c && is_dirty_at s c
