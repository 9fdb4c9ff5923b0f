-- The objects of a trace: which entry made an id, which object it is, and whether it is live.
use Rattle.std.specs.Prelude.{ℕ, List, [], ◌∷◌, Bool, true, false, ◌==◌, if◌then◌else◌, Option, Some, None, option_map, option_and_then, is_some}
use Rattle.std.specs.List.{find, list_any, filter, filter_map}
use Rattle.vk_model.specs.declared.entry.Entry.{Entry}
use Rattle.vk_model.specs.declared.entry.Entry.TheVariants as entry
use Rattle.vk_model.specs.declared.resource.BufferInfo.{BufferInfo}
use Rattle.vk_model.specs.declared.resource.ImageInfo.{ImageInfo}
use Rattle.vk_model.specs.declared.resource.MemoryInfo.{MemoryInfo}
use Rattle.vk_model.specs.declared.resource.PoolInfo.{PoolInfo}
use Rattle.vk_model.specs.declared.resource.Place.{Place}
use Rattle.vk_model.specs.declared.resource.Place.TheVariants as place
use Rattle.vk_model.specs.declared.resource.Kind.{Kind}
use Rattle.vk_model.specs.declared.resource.Kind.TheVariants as kind
use Rattle.vk_model.specs.declared.resource.Sharing.{Sharing}
use Rattle.vk_model.specs.declared.resource.Sharing.TheVariants as sharing
use Rattle.vk_model.specs.Basics.{holds, among, round_up}
use Rattle.vk_model.specs.Trace.Image.{image_size, image_align}
use Rattle.vk_model.specs.Trace.Point.{Past, entries}

-- The id that an entry makes. All objects' ids are one space (profile).
abbrev pub made_by : Entry → Option ℕ
made_by (entry.Pool i p) = Some i
made_by (entry.Buffer i b) = Some i
made_by (entry.Image i m) = Some i
made_by (entry.Memory i m) = Some i
made_by (entry.Semaphore i v) = Some i
made_by (entry.Event i) = Some i
made_by (entry.Defrag i p b m) = Some i
made_by _ = None

-- The ids that an entry ends (Vulkan, "Object Lifetime"; for `end_pass` VMA, "Defragmentation").
abbrev pub ended_by : Entry → List ℕ
ended_by (entry.Free m) = m ∷ []
ended_by (entry.Destroy r) = r ∷ []
ended_by (entry.DropPool p) = p ∷ []
ended_by (entry.EndPass d kept lost) = lost
ended_by (entry.EndDefrag d) = d ∷ []
ended_by _ = []

-- The entry that made an id: the entry is the object (profile).
abbrev pub made : Past → ℕ → Option Entry
made past i = find (λ x. holds (made_by x) (λ j. i == j)) (entries past)

-- Whether an entry has ended an id (Vulkan, "Object Lifetime").
abbrev pub ended : Past → ℕ → Bool
ended past i = list_any (λ x. among i (ended_by x)) (entries past)

-- The entry that made an object that is live (Vulkan, "Object Lifetime").
abbrev pub live : Past → ℕ → Option Entry
live past i = if ended past i then None else made past i

-- ---- what kind of object it is

-- The buffer that an entry makes (Vulkan, "Buffers").
abbrev pub buffer_in : Entry → Option BufferInfo
buffer_in (entry.Buffer i b) = Some b
buffer_in _ = None

-- The image that an entry makes (Vulkan, "Images").
abbrev pub image_in : Entry → Option ImageInfo
image_in (entry.Image i m) = Some m
image_in _ = None

-- The pool that an entry makes (VMA, "Custom memory pools").
abbrev pub pool_in : Entry → Option PoolInfo
pool_in (entry.Pool i p) = Some p
pool_in _ = None

-- The memory object that an entry makes (Vulkan, "Device Memory").
abbrev pub memory_in : Entry → Option MemoryInfo
memory_in (entry.Memory i m) = Some m
memory_in _ = None

-- The initial value of the semaphore that an entry makes (Vulkan, "Semaphores").
abbrev pub semaphore_in : Entry → Option ℕ
semaphore_in (entry.Semaphore i v) = Some v
semaphore_in _ = None

-- The event that an entry makes (Vulkan, "Events").
abbrev pub event_in : Entry → Option ℕ
event_in (entry.Event i) = Some i
event_in _ = None

-- The pool of the defragmentation that an entry begins (VMA, "Defragmentation").
abbrev pub defrag_in : Entry → Option ℕ
defrag_in (entry.Defrag i p b m) = Some p
defrag_in _ = None

-- The buffer of an id, also one that was destroyed: its rule refuses that (profile).
abbrev pub buffer : Past → ℕ → Option BufferInfo
buffer past i = option_and_then buffer_in (made past i)

-- The image of an id (profile, as `buffer`).
abbrev pub image : Past → ℕ → Option ImageInfo
image past i = option_and_then image_in (made past i)

-- The pool of an id (profile, as `buffer`).
abbrev pub pool : Past → ℕ → Option PoolInfo
pool past i = option_and_then pool_in (made past i)

-- The memory object of an id (profile, as `buffer`).
abbrev pub memory : Past → ℕ → Option MemoryInfo
memory past i = option_and_then memory_in (made past i)

-- The initial value of a semaphore (Vulkan, "Semaphores").
abbrev pub initial : Past → ℕ → Option ℕ
initial past i = option_and_then semaphore_in (made past i)

-- ---- resources: buffers and images

-- What a resource asks of memory, what it may be used for, and where it is put (Vulkan, "Resource Memory Association").
pub record Resource : Type 0 where
  pub size : ℕ
  pub align : ℕ
  pub kind : Kind
  pub usage : ℕ
  pub sharing : Sharing
  pub place : Place

-- A buffer asks for its size rounded up to 16, and for an alignment of 16 (profile).
abbrev pub of_buffer : BufferInfo → Resource
of_buffer b = record { size = round_up b.size 16; align = 16; kind = kind.Linear; usage = b.usage.0; sharing = b.sharing; place = b.place }

-- An image asks for the bytes of its rows or tiles (profile).
abbrev pub of_image : ImageInfo → Resource
of_image i = record { size = image_size i i.tiling; align = image_align i.tiling; kind = i.tiling; usage = i.usage.0; sharing = i.sharing; place = i.place }

-- The resource that an entry makes.
abbrev pub resource_in : Entry → Option Resource
resource_in (entry.Buffer i b) = Some (of_buffer b)
resource_in (entry.Image i m) = Some (of_image m)
resource_in _ = None

-- The resource of an id (profile, as `buffer`).
abbrev pub resource : Past → ℕ → Option Resource
resource past i = option_and_then resource_in (made past i)

-- The ids of the live objects that a test on their entries finds.
abbrev pub live_of : {A : Type 0} → (Entry → Option A) → Past → List ℕ
live_of kind_of past = filter (λ i. is_some (option_and_then kind_of (live past i))) (filter_map made_by (entries past))

-- The ids of the live resources.
abbrev pub live_resources : Past → List ℕ
live_resources past = live_of resource_in past

-- ---- where resources are

-- The pool of a place (VMA, "Custom memory pools").
abbrev pub pool_at : Place → Option ℕ
pool_at (place.Pool p) = Some p
pool_at (place.PoolUpper p) = Some p
pool_at _ = None

-- The memory object and the offset of a place that the trace binds itself (Vulkan, "Resource Memory Association").
abbrev pub bound_at : Place → Option (ℕ × ℕ)
bound_at (place.Memory m o) = Some (m, o)
bound_at _ = None

-- The memory type of a place; none where its pool or memory object isn't there (Vulkan, "Device Memory").
abbrev pub type_at : Past → Place → Option ℕ
type_at past (place.Dedicated t) = Some t
type_at past (place.Pool p) = option_map (λ x. x.memory_type) (pool past p)
type_at past (place.PoolUpper p) = option_map (λ x. x.memory_type) (pool past p)
type_at past (place.Memory m o) = option_map (λ x. x.memory_type) (memory past m)

-- The memory type of a resource (Vulkan, "Device Memory").
abbrev pub type_of : Past → ℕ → Option ℕ
type_of past i = option_and_then (λ r. type_at past r.place) (resource past i)

-- Whether a resource is in memory of this type (Vulkan, "Device Memory").
abbrev pub is_of_type : Past → ℕ → ℕ → Bool
is_of_type past t i = holds (type_of past i) (λ u. u == t)

-- Whether host accesses to a resource go through a cache that isn't coherent: it is in memory of type 2 (Vulkan, "Host Access to Device Memory Objects"; the number: profile).
abbrev pub is_cached : Past → ℕ → Bool
is_cached past i = is_of_type past 2 i

-- The pool that a resource is in (VMA, "Custom memory pools").
abbrev pub pool_of : Past → ℕ → Option ℕ
pool_of past i = option_and_then (λ r. pool_at r.place) (resource past i)

-- The memory object that a resource is bound to by the trace itself (Vulkan, "Resource Memory Association").
abbrev pub memory_of : Past → ℕ → Option ℕ
memory_of past i = option_and_then (λ r. option_map (λ x. x.0) (bound_at r.place)) (resource past i)

-- Whether a sharing mode is exclusive (Vulkan, "Resource Sharing Mode").
abbrev pub is_exclusive_mode : Sharing → Bool
is_exclusive_mode sharing.Exclusive = true
is_exclusive_mode sharing.Concurrent = false

-- Whether one queue family at a time owns a resource (Vulkan, "Resource Sharing Mode").
abbrev pub is_exclusive : Past → ℕ → Bool
is_exclusive past i = holds (resource past i) (λ r. is_exclusive_mode r.sharing)
