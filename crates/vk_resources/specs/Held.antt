-- What is held: buffers and images, the memory under them, and what the host's cache holds of it.
use Rattle.std.specs.Prelude.{◌≡◌, ℕ, ◌+◌, ◌-◌, ◌/◌, ◌%◌, ◌<◌, ◌≤◌, ◌==◌, nat_lt, List, length, Bool, true, false, if◌then◌else◌, Option, Some, None, IfSome, IsSome, option_map}
use Rattle.std.specs.Ordering.{nat_cmp}
use Rattle.std.specs.Map.{lookup}
use Rattle.std.specs.BTreeMap.{is_at}
use Rattle.vk_map_cache.specs.Holdings.{Holdings, held_at, IsCell}
use Rattle.vk_memory.specs.MemoryState.{MemoryState, IsLive, region_of, type_of}
use Rattle.vk_model.specs.Run.Caches as caches
use Rattle.vk_model.specs.Run.Caches.{Cell, Clean, Dirty, value_through}
use Rattle.vk_model.specs.declared.resource.ImageInfo.{ImageInfo}
use Rattle.vk_model.specs.Trace.Image.{image_size}
use Rattle.vk_model.specs.Rules.Sizes.{bad_image}
use Rattle.vk_model.specs.World.Bytes.{Byte, in_buffer, in_image, resource_at}
use Rattle.vk_image_transfer.specs.Held as lies
use Rattle.vk_image_transfer.specs.Held.{Form, BufferOf, ImageOf, place_of, bytes_held}
use Rattle.vk_transfer.specs.Ran.{AreApart}
use Rattle.vk_backing.specs.Backed as backing
use Rattle.vk_backing.specs.Backed.{Backed, LiesIn, IsBacked}
use Rattle.vk_model.specs.declared.resource.Spot as model
use Rattle.vk_resources.specs.declared.resources.Placed.{Placed}
use Rattle.vk_resources.specs.declared.resources.Spot.{Spot}

-- Memory objects; what backs ids with them: objects that the trace made or a resource has of its own, and places in pools; where each resource lies, by its id; of what shape each image is, by its id; and what the host's cache holds of the memory objects.
pub record Held : Type 0 where
  pub memory : MemoryState
  pub backed : Backed
  pub resources : List (ℕ × Placed)
  pub shapes : List (ℕ × ImageInfo)
  pub cache : Holdings

-- Where the resource of an id lies; none where there is no such resource.
abbrev pub placed_in : List (ℕ × Placed) → ℕ → Option Placed
placed_in resources id = lookup (is_at (nat_cmp id)) resources

-- The same among what is held.
abbrev pub placed : Held → ℕ → Option Placed
placed s id = placed_in s.resources id

-- The image of an id; none where there is no such image.
abbrev pub shape_in : List (ℕ × ImageInfo) → ℕ → Option ImageInfo
shape_in shapes id = lookup (is_at (nat_cmp id)) shapes

-- The same among what is held.
abbrev pub shape_of : Held → ℕ → Option ImageInfo
shape_of s id = shape_in s.shapes id

-- The number of the memory object that an id has of its own; none where it has none.
abbrev pub object_of : Held → ℕ → Option ℕ
object_of s id = backing.object_of s.backed id

-- A resource has bytes, all of which lie in a memory object that is live (Vulkan, "Resource Memory Association").
pub record IsInside (memory : MemoryState) (p : Placed) : Type 0 where
  pub live : IsLive memory p.object
  pub some : 0 < p.size
  pub room : p.offset + p.size ≤ length (region_of memory p.object)

-- Each resource lies inside a memory object, and no two resources share a byte; what backs ids with memory objects is so (Vulkan, "Resource Memory Association" and "Memory Aliasing").
pub record IsApart (memory : MemoryState) (backed : Backed) (resources : List (ℕ × Placed)) : Type 0 where
  pub inside : (id : ℕ) → IfSome (placed_in resources id) (IsInside memory)
  pub apart : (b c : ℕ) (p q : Placed) → (b ≡ c → ⊥) → placed_in resources b ≡ Some p → placed_in resources c ≡ Some q → p.object ≡ q.object → AreApart p.offset p.size q.offset q.size
  pub backed_is : IsBacked backed memory

-- A resource lies in the pool of a number, at the start of the place that it has there (Vulkan, "Resource Memory Association"; VMA, "Custom memory pools").
pub record LiesShared (b : Backed) (m : MemoryState) (id pool : ℕ) (p : Placed) : Type 0 where
  pub spot : model.Spot
  pub lies : LiesIn b id pool spot
  pub object : spot.memory ≡ p.object
  pub offset : spot.offset ≡ p.offset
  pub within : p.size ≤ spot.size
  pub kind : type_of m p.object ≡ lies.kept.pool.info.memory_type

-- An image that breaks no rule on its shape has the bytes that it asks for, and each byte of it lies among them (Vulkan, "Resource Memory Association").
pub record IsShaped (m : ImageInfo) (p : Placed) : Type 0 where
  pub shaped : bad_image m ≡ false
  pub size : p.size ≡ image_size m m.tiling
  pub inside : (c : Byte) (k : ℕ) → place_of (ImageOf m) c ≡ Some k → k < p.size

-- Each image that lies somewhere is so.
pub record AreShaped (resources : List (ℕ × Placed)) (shapes : List (ℕ × ImageInfo)) : Type 0 where
  pub each : (i : ℕ) (m : ImageInfo) (p : Placed) → shape_in shapes i ≡ Some m → placed_in resources i ≡ Some p → IsShaped m p

-- ---- the host's cache

-- Whether what lies here is in cached memory: in a memory object of type 2 (Vulkan, "Host Access to Device Memory Objects"; the number: profile).
abbrev pub is_cached_in : MemoryState → Placed → Bool
is_cached_in memory p = type_of memory p.object == 2

-- Byte k of its memory object lies in an atom of what lies here (Vulkan, "Host Access to Device Memory Objects", on `nonCoherentAtomSize`; 64: profile).
abbrev pub IsInAtoms : Placed → ℕ → Type 0
IsInAtoms p k = (p.offset / 64 ≤ k / 64) × (k / 64 ≤ (p.offset + p.size - 1) / 64)

-- Byte k of the memory object of a number lies in an atom of a resource in cached memory.
pub record IsCachedByte (memory : MemoryState) (resources : List (ℕ × Placed)) (number k : ℕ) : Type 0 where
  pub id : ℕ
  pub place : Placed
  pub here : placed_in resources id ≡ Some place
  pub object : place.object ≡ number
  pub cached : is_cached_in memory place ≡ true
  pub atom : IsInAtoms place k

-- Whether what the host's cache holds of a byte hasn't reached memory (Vulkan, "Host Access to Device Memory Objects").
abbrev pub is_dirty : Option caches.Held → Bool
is_dirty None = false
is_dirty (Some (Clean v)) = false
is_dirty (Some (Dirty v)) = true

-- Byte k of its memory object is one of what lies here (Vulkan, "Resource Memory Association").
abbrev pub IsWithin : Placed → ℕ → Type 0
IsWithin p k = (p.offset ≤ k) × (k < p.offset + p.size)

-- Resources in cached memory begin with an atom, so that no two of them share one; the host's cache holds bytes of their atoms alone, and what hasn't reached memory is a byte of theirs (Vulkan, "Host Access to Device Memory Objects"; the alignment: profile).
pub record IsCaching (memory : MemoryState) (resources : List (ℕ × Placed)) (cache : Holdings) : Type 0 where
  pub aligned : (b : ℕ) (p : Placed) → placed_in resources b ≡ Some p → is_cached_in memory p ≡ true → p.offset % 64 ≡ 0
  pub only : (number k : ℕ) → IsSome (held_at cache number k) → IsCachedByte memory resources number k
  pub dirty : (number k : ℕ) → is_dirty (held_at cache number k) ≡ true → (w : IsCachedByte memory resources number k) × IsWithin w.place k

-- What is held is so.
abbrev pub IsConsistent : Held → Type 0
IsConsistent s = IsApart s.memory s.backed s.resources × IsCaching s.memory s.resources s.cache × AreShaped s.resources s.shapes

-- What the host's cache holds of byte k of what lies somewhere; nothing beyond its end, and where there is none.
abbrev pub holding_in : Holdings → Option Placed → ℕ → Option caches.Held
holding_in cache None k = None
holding_in cache (Some p) k = if nat_lt k p.size then held_at cache p.object (p.offset + k) else None

-- What the host's cache holds of a byte of a resource; nothing of those of images, which the host doesn't access (Vulkan, "Host Access to Device Memory Objects"; profile).
abbrev pub host_at : Held → Byte → Option caches.Held
host_at s (in_buffer b k) = holding_in s.cache (placed s b) k
host_at s (in_image i l a x y p) = None

-- ---- bytes

-- What lies here: a buffer of so many bytes, or an image.
abbrev pub form_of : Option ImageInfo → ℕ → Form
form_of None size = BufferOf size
form_of (Some m) size = ImageOf m

-- The bytes of its memory object that a resource has (Vulkan, "Resource Memory Association").
abbrev pub lying_in : MemoryState → Option ImageInfo → Placed → lies.Held
lying_in memory shape p = record { region = region_of memory p.object; start = p.offset; form = form_of shape p.size }

-- Where the resource of an id lies, with the bytes there.
abbrev pub lying : Held → ℕ → Option lies.Held
lying s i = option_map (lying_in s.memory (shape_of s i)) (placed s i)

-- The value that memory holds for a byte of a resource; 0 for one that lies nowhere.
abbrev pub byte_at : Held → Byte → ℕ
byte_at s c = bytes_held (lying s) c

-- Where a byte lies, counted from the first of its resource; none where it lies nowhere.
abbrev pub place_in : Option ImageInfo → Option Placed → Byte → Option ℕ
place_in shape None c = None
place_in shape (Some p) c = place_of (form_of shape p.size) c

-- A byte of a resource has a place in memory.
abbrev pub IsThere : Held → Byte → Type 0
IsThere s c = IsSome (place_in (shape_of s (resource_at c)) (placed s (resource_at c)) c)

-- Where the buffer of an id lies; none where there is no such buffer.
abbrev pub flat_in : Option ImageInfo → Option Placed → Option Placed
flat_in None p = p
flat_in (Some m) p = None

-- The same among what is held.
abbrev pub flat : Held → ℕ → Option Placed
flat s id = flat_in (shape_of s id) (placed s id)

-- A cell is a byte of a resource: this is its value in memory, and this the host's cache holds of it. What caches of queues hold is left open.
abbrev pub HasCell : Held → Byte → Cell → Type 0
HasCell s c cell = IsCell (host_at s c) (byte_at s c) cell

-- A byte of a resource as the host sees it (Vulkan, "Host Access to Device Memory Objects").
abbrev pub seen_at : Held → Byte → ℕ
seen_at s c = value_through (host_at s c) (byte_at s c)

-- Where a resource lies in memory (Vulkan, "Resource Memory Association").
abbrev pub spot_of : Placed → Spot
spot_of p = record { memory = p.object; offset = p.offset; size = p.size }

-- Such a place has bytes, all of which are of a memory object that is live (Vulkan, "Resource Memory Association").
pub record IsSpotIn (memory : MemoryState) (s : Spot) : Type 0 where
  pub live : IsLive memory s.memory
  pub some : 0 < s.size
  pub room : s.offset + s.size ≤ length (region_of memory s.memory)
