-- The live memory objects, and how full the heaps are (Vulkan, "Device Memory").
use Rattle.std.specs.Prelude.{◌≡◌, ℕ, ◌+◌, ◌<◌, ◌≤◌, ◌==◌, ◌⊎◌, List, replicate, slice_index_or, slice_set, sum_by, Bool, true, false, if◌then◌else◌, Option, Some, None, IsSome}
use Rattle.vk_model.specs.Memory.HeapSizes.{HeapSizes}
use Rattle.vk_memory.specs.declared.memories.Object.{Object}

-- The sizes of the heaps, and the memory object of each number that was given: none where it has been freed. The next number is how many have been given (Vulkan, "Device Memory").
pub record MemoryState : Type 0 where
  pub sizes : HeapSizes
  pub objects : List (Option Object)

-- The memory object of a number; none where it was freed or never given.
abbrev pub object_at : MemoryState → ℕ → Option Object
object_at s number = slice_index_or s.objects number None

-- A number is that of a live object (Vulkan, "Object Lifetime").
abbrev pub IsLive : MemoryState → ℕ → Type 0
IsLive s number = IsSome (object_at s number)

-- ---- heaps

-- Whether the memory of a type lies on heap 0 (profile).
abbrev pub on_first : ℕ → Bool
on_first memory_type = memory_type == 0

-- The bytes of a live object on heap 0, or on heap 1.
abbrev pub size_on : Bool → Option Object → ℕ
size_on first None = 0
size_on true (Some o) = if on_first o.memory_type then o.size else 0
size_on false (Some o) = if on_first o.memory_type then 0 else o.size

-- The bytes of the live objects on heap 0, or of those on heap 1.
abbrev pub sizes_on : Bool → List (Option Object) → ℕ
sizes_on first objects = sum_by (size_on first) objects

-- A live object counts for one.
abbrev pub counted : Option Object → ℕ
counted None = 0
counted (Some o) = 1

-- How many objects are live.
abbrev pub live_count : List (Option Object) → ℕ
live_count objects = sum_by counted objects

-- The size of a type's heap.
abbrev pub heap_size : MemoryState → ℕ → ℕ
heap_size s memory_type = if on_first memory_type then s.sizes.heap0 else s.sizes.heap1

-- There is no room for an object: its heap would be passed, or 4,096 objects are live (Vulkan, "Device Memory", on `maxMemoryAllocationCount`; the number: profile).
abbrev pub IsFull : MemoryState → ℕ → ℕ → Type 0
IsFull s memory_type size = (4096 ≤ live_count s.objects) ⊎ (heap_size s memory_type < sizes_on (on_first memory_type) s.objects + size)

-- ---- objects

-- A new object, with the bytes 0xCD: Vulkan leaves the contents of new memory undefined (profile).
abbrev pub fresh : ℕ → ℕ → Object
fresh t size = record { memory_type = t; size = size; mapped = false; region = replicate size 205 }

-- The bytes of an object; none where there is no such object.
abbrev pub bytes_of : Option Object → List ℕ
bytes_of None = replicate 0 0
bytes_of (Some o) = o.region

-- The bytes of the object of a number.
abbrev pub region_of : MemoryState → ℕ → List ℕ
region_of s number = bytes_of (object_at s number)

-- The memory type of an object; 0 where there is no such object.
abbrev pub type_in : Option Object → ℕ
type_in None = 0
type_in (Some o) = o.memory_type

-- The memory type of the object of a number (Vulkan, "Device Memory").
abbrev pub type_of : MemoryState → ℕ → ℕ
type_of s number = type_in (object_at s number)

-- Whether an object is there and mapped (Vulkan, "Host Access to Device Memory Objects").
abbrev pub maps : Option Object → Bool
maps None = false
maps (Some o) = o.mapped

-- Whether the object of a number is mapped.
abbrev pub is_mapped : MemoryState → ℕ → Bool
is_mapped s number = maps (object_at s number)

-- An object with other bytes, where there is one.
abbrev pub rewritten : List ℕ → Option Object → Option Object
rewritten bytes None = None
rewritten bytes (Some o) = Some (record o { region = bytes })

-- An object that is mapped or not, where there is one.
abbrev pub remapped : Bool → Option Object → Option Object
remapped mapped None = None
remapped mapped (Some o) = Some (record o { mapped = mapped })

-- The objects, with another one, or none, of a number.
abbrev pub with_object : MemoryState → ℕ → Option Object → MemoryState
with_object s number o = record s { objects = slice_set s.objects number o }

-- The objects, with other bytes in one of them.
abbrev pub with_region : MemoryState → ℕ → List ℕ → MemoryState
with_region s number bytes = with_object s number (rewritten bytes (object_at s number))

-- The objects, with one of them mapped or not.
abbrev pub with_mapped : MemoryState → ℕ → Bool → MemoryState
with_mapped s number mapped = with_object s number (remapped mapped (object_at s number))

-- The object of a number has other bytes, by a copy from the one of another number (Vulkan, "Copy Commands"): this holds of what was read there, what it had, and what it has.
pub record IsCopied (copied : List ℕ → List ℕ → List ℕ → Type 0) (old new : MemoryState) (from to : ℕ) : Type 0 where
  pub bytes : List ℕ
  pub memory : new ≡ with_region old to bytes
  pub holds : copied (region_of old from) (region_of old to) bytes
