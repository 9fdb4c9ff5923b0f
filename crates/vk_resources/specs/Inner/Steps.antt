-- What each step asks of resources, and what it changes there.
use Rattle.std.specs.Prelude.{◌≡◌, ◌⊎◌, ℕ, ◌+◌, ◌-◌, ◌/◌, ◌%◌, ◌<◌, ◌≤◌, ◌==◌, [], ◌∷◌, ◌++◌, length, List, Bool, true, Option, Some, None, option_and_then, if◌then◌else◌, All, ⊤}
use Rattle.vk_memory.specs.MemoryState.{IsLive, IsFull, fresh, object_at, region_of, type_of}
use Rattle.vk_map_cache.specs.Holdings.{held_at}
use Rattle.vk_model.specs.declared.command.Length.{Length}
use Rattle.vk_model.specs.declared.command.Length.TheVariants as length_of
use Rattle.vk_model.specs.declared.command.BufferCopy.{BufferCopy}
use Rattle.vk_model.specs.declared.entry.Entry.{Entry}
use Rattle.vk_model.specs.declared.entry.Entry.TheVariants as entry
use Rattle.vk_model.specs.declared.resource.ImageInfo.{ImageInfo}
use Rattle.vk_model.specs.declared.resource.PoolInfo.{PoolInfo}
use Rattle.vk_model.specs.declared.resource.Spot.{Spot}
use Rattle.vk_model.specs.Trace.Objects.{Resource}
use Rattle.vma_pools.specs.declared.allocations.Asked.{Asked}
use Rattle.vk_model.specs.World.Bytes.{Byte, in_buffer, in_image, resource_at}
use Rattle.vk_model.specs.World.ByteWrites.{ByteWrite, fill_size}
use Rattle.vk_model.specs.Run.Caches.{Cell}
use Rattle.vk_transfer.specs.declared.filling.Fill.{Fill}
use Rattle.vk_transfer.specs.Ran.{HaveRun, AreApart}
use Rattle.vk_transfer.specs.Copies.{FitsBuffers, copy_pieces}
use Rattle.vk_resources.specs.declared.applied.Applied.{Applied}
use Rattle.vk_resources.specs.declared.applied.Applied.TheVariants as applied
use Rattle.vk_resources.specs.declared.resources.Placed.{Placed}
use Rattle.vk_resources.specs.Allocating.{allotted}
use Rattle.vk_resources.specs.Counted.{bound_of, mapped_at}
use Rattle.vk_backing.specs.Backed.{IsBacked, IsWhole}
use Rattle.vk_backing.specs.Steps.{Grows, Owns, Shares, Releases, Maps, MakesPool, DropsPool, OwnAllots, ShareAllots, ReleaseAllots, PoolAllots, DropAllots, KeepsAllotted, Asks}
use Rattle.vk_backing.specs.PassSteps.{KeepsBacked}
use Rattle.vk_resources.specs.Held.{Held, placed, shape_of, flat, object_of, LiesShared, IsInside, IsShaped, byte_at, host_at, is_cached_in, IsInAtoms, IsThere, HasCell}
use Rattle.vk_resources.specs.Passes.{KeepsPassing}
use Rattle.vk_resources.specs.Rest.{KeepsRest, is_written}

-- ---- bytes

-- A buffer is one of those that are held.
abbrev pub IsPlaced : Held → Placed → Type 0
IsPlaced s p = (b : ℕ) × (flat s b ≡ Some p)

-- A fill of a placed buffer.
abbrev pub fill_of : ℕ → Length → ℕ → Placed → Fill
fill_of o n w p = record { offset = o; size = fill_size p.size o n; word = w }

-- Only bytes have changed: the resources and the memory objects are what they were.
pub record KeepsPlaces (old new : Held) : Type 0 where
  pub resources : new.resources ≡ old.resources
  pub shapes : new.shapes ≡ old.shapes
  pub same : allotted new ≡ allotted old
  pub lengths : (number : ℕ) → length (region_of new.memory number) ≡ length (region_of old.memory number)
  pub types : (number : ℕ) → type_of new.memory number ≡ type_of old.memory number

-- Memory objects that are live before and after are what they were (Vulkan, "Device Memory").
abbrev pub KeepsObjects : Held → Held → Type 0
KeepsObjects old new = (number : ℕ) → IsLive old.memory number → IsLive new.memory number → object_at new.memory number ≡ object_at old.memory number

-- Byte writes have been made in memory, and nothing else has changed, of resources or between them (Vulkan, "Copy Commands").
abbrev pub HasRun : Held → Held → List ByteWrite → Type 0
HasRun old new ms = KeepsPlaces old new × HaveRun ms (byte_at old) (byte_at new) × (new.cache ≡ old.cache) × KeepsRest old new (is_written ms)

-- Where a resource lies that is in cached memory; none where there is no such resource, and where it is in other memory.
abbrev pub cached_at : Held → ℕ → Option Placed
cached_at s b = option_and_then (λ p. if is_cached_in s.memory p then Some p else None) (placed s b)

-- What becomes of a byte where a change is of the bytes of a buffer.
abbrev pub changed_of : ℕ → (ℕ → Cell → Cell) → Byte → Cell → Cell
changed_of b change (in_buffer c k) cell = if b == c then change k cell else cell
changed_of b change (in_image i l a x y p) cell = cell

-- Whether a byte is of the resource of an id.
abbrev pub is_of : ℕ → Byte → Bool
is_of b c = b == resource_at c

-- Each byte of a buffer has become what the change makes of it, in memory and in the host's cache, and nothing else has changed, of resources or between them.
abbrev pub HasChanged : Held → Held → ℕ → (ℕ → Cell → Cell) → Type 0
HasChanged old new b change = KeepsPlaces old new × ((c : Byte) (cell : Cell) → IsThere old c → HasCell old c cell → HasCell new c (changed_of b change c cell)) × KeepsRest old new (is_of b)

-- A range lies in a buffer that is there.
abbrev pub MayReach : Option Placed → ℕ → ℕ → Type 0
MayReach None o n = ⊥
MayReach (Some b) o n = o + n ≤ b.size

-- The same of a range that may go to the end, and then begins before it.
abbrev pub MayReachTo : Option Placed → ℕ → Length → Type 0
MayReachTo b o (length_of.Bytes n) = MayReach b o n
MayReachTo None o length_of.Whole = ⊥
MayReachTo (Some b) o length_of.Whole = o < b.size

-- A buffer that is there has an atom of this number.
abbrev pub HasAtom : Option Placed → ℕ → Type 0
HasAtom None k = ⊥
HasAtom (Some b) k = k ≤ (b.size - 1) / 64

-- How many bytes a range has that may go to the end.
abbrev pub length_to : ℕ → ℕ → Length → ℕ
length_to end o (length_of.Bytes n) = n
length_to end o length_of.Whole = end - o

-- A piece of a copy is one of its regions, each of which lies in both buffers (Vulkan, "Copying Data Between Buffers").
abbrev pub CopyReady : Placed → Placed → List BufferCopy → ℕ → Type 0
CopyReady p q gs k = (k < length (copy_pieces 0 0 gs)) × All (λ g. FitsBuffers g p.size q.size) gs

-- ---- objects

-- An entry makes a memory object, a buffer or an image (Vulkan, "Resource Creation" and "Device Memory").
abbrev pub IsMaking : Entry → Type 0
IsMaking (entry.Memory i m) = ⊤
IsMaking (entry.Buffer i b) = ⊤
IsMaking (entry.Image i m) = ⊤
IsMaking _ = ⊥

-- A new memory object is that of an id, which had none, and nothing else has changed (Vulkan, "Device Memory").
pub record Makes (old new : Held) (id t size : ℕ) : Type 0 where
  pub memory : new.memory ≡ record old.memory { objects = old.memory.objects ++ Some (fresh t size) ∷ [] }
  pub here : object_of new id ≡ Some (length old.memory.objects)
  pub others : (i : ℕ) → (i ≡ id → ⊥) → object_of new i ≡ object_of old i
  pub owns : Owns old.backed new.backed old.memory new.memory id t size (length old.memory.objects)
  pub backed : IsBacked new.backed new.memory
  pub whole : IsWhole old.backed → IsWhole new.backed
  pub passing : KeepsPassing old new
  pub allots : OwnAllots (Some (length old.memory.objects)) (allotted old) (allotted new) id t size

-- A memory object was made for an id, and this is its number; or nothing has changed, exactly where there is no room for it.
abbrev pub MadeOr : Option ℕ → Held → Held → ℕ → ℕ → ℕ → Type 0
MadeOr (Some number) old new id t size = (number ≡ length old.memory.objects) × Makes old new id t size × (new.resources ≡ old.resources) × (new.shapes ≡ old.shapes) × (IsFull old.memory t size → ⊥) × (new.cache ≡ old.cache)
MadeOr None old new id t size = (new ≡ old) × IsFull old.memory t size × OwnAllots None (allotted old) (allotted new) id t size

-- A resource was put somewhere, of this shape where it is an image, and no other was.
pub record Puts (old new : Held) (id : ℕ) (p : Placed) (shape : Option ImageInfo) : Type 0 where
  pub here : placed new id ≡ Some p
  pub others : (b : ℕ) → (b ≡ id → ⊥) → placed new b ≡ placed old b
  pub shaped : shape_of new id ≡ shape
  pub shapes : (b : ℕ) → (b ≡ id → ⊥) → shape_of new b ≡ shape_of old b

-- An image has the bytes that it asks for; a buffer asks nothing.
abbrev pub ShapeReady : Option ImageInfo → Placed → Type 0
ShapeReady None p = ⊤
ShapeReady (Some m) p = IsShaped m p

-- A resource may be put there: it is of an id that has none, has bytes in a live memory object, begins with an atom where the memory is cached, meets no other resource, and is as large as its shape asks (Vulkan, "Resource Memory Association" and "Memory Aliasing").
pub record PutReady (s : Held) (id : ℕ) (p : Placed) (shape : Option ImageInfo) : Type 0 where
  pub absent : placed s id ≡ None
  pub unshaped : shape_of s id ≡ None
  pub inside : IsInside s.memory p
  pub apart : (c : ℕ) (q : Placed) → (c ≡ id → ⊥) → placed s c ≡ Some q → q.object ≡ p.object → AreApart p.offset p.size q.offset q.size
  pub aligned : is_cached_in s.memory p ≡ true → p.offset % 64 ≡ 0
  pub shaped : ShapeReady shape p

-- A resource of some bytes was made in a memory object of its own, of as many bytes as it asks for; or nothing has changed, exactly where there is no room for its memory object.
abbrev pub ResourceMade : Applied → Held → Held → (id t size asked : ℕ) → Option ImageInfo → Type 0
ResourceMade applied.Done old new id t size asked shape =
    Makes old new id t asked × Puts old new id (record { size = size; object = length old.memory.objects; offset = 0 }) shape × (IsFull old.memory t asked → ⊥) × (new.cache ≡ old.cache)
ResourceMade (applied.Bytes bytes) old new id t size asked shape = ⊥
ResourceMade applied.NoRoom old new id t size asked shape = (new ≡ old) × IsFull old.memory t asked × OwnAllots None (allotted old) (allotted new) id t asked

-- A resource of some bytes was put in the pool of an id, at this spot.
pub record PutIn (old new : Held) (id pool size : ℕ) (asked : Asked) (upper : Bool) (shape : Option ImageInfo) (spot : Spot) : Type 0 where
  pub shares : Shares old.backed new.backed old.memory new.memory id pool asked upper spot
  pub puts : Puts old new id (record { size = size; object = spot.memory; offset = spot.offset }) shape
  pub grows : Grows old.memory new.memory
  pub backed : IsBacked new.backed new.memory
  pub whole : IsWhole old.backed → IsWhole new.backed
  pub passing : KeepsPassing old new
  pub cache : new.cache ≡ old.cache
  pub allots : (r : Resource) → Asks r asked → ShareAllots (Some spot) (allotted old) (allotted new) id pool r upper

-- The same somewhere; or nothing has changed, exactly where the pool has no room for it.
abbrev pub SharedMade : Applied → Held → Held → (id pool size : ℕ) → Asked → Bool → Option ImageInfo → Type 0
SharedMade applied.Done old new id pool size asked upper shape = (spot : Spot) × PutIn old new id pool size asked upper shape spot
SharedMade (applied.Bytes bytes) old new id pool size asked upper shape = ⊥
SharedMade applied.NoRoom old new id pool size asked upper shape = (new ≡ old) × ((r : Resource) → Asks r asked → ShareAllots None (allotted old) (allotted new) id pool r upper)

-- A place in a pool was found for a resource; or nothing has changed, exactly where the pool has no room for it.
abbrev pub FoundOr : Option Spot → Held → Held → (id pool : ℕ) → Asked → Bool → Type 0
FoundOr (Some spot) old new id pool asked upper =
    Shares old.backed new.backed old.memory new.memory id pool asked upper spot × IsBacked new.backed new.memory × (IsWhole old.backed → IsWhole new.backed) × (new.resources ≡ old.resources) × (new.shapes ≡ old.shapes) × (new.cache ≡ old.cache)
    × ((r : Resource) → Asks r asked → ShareAllots (Some spot) (allotted old) (allotted new) id pool r upper)
FoundOr None old new id pool asked upper = (new ≡ old) × ((r : Resource) → Asks r asked → ShareAllots None (allotted old) (allotted new) id pool r upper)

-- A pool was made, and nothing else has changed (VMA, "Custom memory pools").
pub record PoolMade (old new : Held) (id : ℕ) (info : PoolInfo) : Type 0 where
  pub makes : MakesPool old.backed new.backed id info
  pub backed : IsBacked new.backed new.memory
  pub memory : new.memory ≡ old.memory
  pub resources : new.resources ≡ old.resources
  pub shapes : new.shapes ≡ old.shapes
  pub cache : new.cache ≡ old.cache
  pub whole : IsWhole old.backed → IsWhole new.backed
  pub allots : PoolAllots (allotted old) (allotted new) id info

-- A pool has ended, and nothing else has changed (VMA, "Custom memory pools").
pub record PoolDropped (old new : Held) (id : ℕ) : Type 0 where
  pub drops : DropsPool old.backed new.backed id
  pub backed : IsBacked new.backed new.memory
  pub memory : new.memory ≡ old.memory
  pub resources : new.resources ≡ old.resources
  pub shapes : new.shapes ≡ old.shapes
  pub cache : new.cache ≡ old.cache
  pub whole : IsWhole new.backed
  pub allots : DropAllots (allotted old) (allotted new) id

-- A memory object was made; or nothing has changed, exactly where there is no room for it.
abbrev pub MemoryMade : Applied → Held → Held → ℕ → ℕ → ℕ → Type 0
MemoryMade applied.Done old new id t size = Makes old new id t size × (new.resources ≡ old.resources) × (new.shapes ≡ old.shapes) × (IsFull old.memory t size → ⊥) × (new.cache ≡ old.cache)
MemoryMade (applied.Bytes bytes) old new id t size = ⊥
MemoryMade applied.NoRoom old new id t size = (new ≡ old) × IsFull old.memory t size × OwnAllots None (allotted old) (allotted new) id t size

-- A resource of this size may be bound at this offset of the memory object that an id has: it has bytes, ends there, begins with an atom where the memory is cached, and meets no other resource (Vulkan, "Resource Memory Association" and "Memory Aliasing").
pub record BindReady (s : Held) (memory offset size : ℕ) : Type 0 where
  pub number : ℕ
  pub has : object_of s memory ≡ Some number
  pub some : 0 < size
  pub room : offset + size ≤ length (region_of s.memory number)
  pub apart : (c : ℕ) (q : Placed) → placed s c ≡ Some q → q.object ≡ number → AreApart offset size q.offset q.size
  pub aligned : type_of s.memory number ≡ 2 → offset % 64 ≡ 0

-- It was bound there, and nothing else has changed.
abbrev pub Binds : Held → Held → (id memory offset size : ℕ) → Option ImageInfo → Type 0
Binds old new id memory offset size shape =
    (new.memory ≡ old.memory) × (new.backed ≡ old.backed) × ((number : ℕ) → object_of old memory ≡ Some number → Puts old new id (record { size = size; object = number; offset = offset }) shape) × (new.cache ≡ old.cache)

-- A resource lies in a memory object that another id has of its own, or in a pool.
abbrev pub LiesElsewhere : Held → ℕ → ℕ → Placed → Type 0
LiesElsewhere s id b p = ((i : ℕ) × (i ≡ id → ⊥) × (object_of s i ≡ Some p.object)) ⊎ ((pool : ℕ) × LiesShared s.backed s.memory b pool p)

-- No resource but that of an id itself lies in the memory object that the id has.
abbrev pub IsEmpty : Held → ℕ → Type 0
IsEmpty s id = (b : ℕ) (p : Placed) → (b ≡ id → ⊥) → placed s b ≡ Some p → LiesElsewhere s id b p

-- Nothing is held any more of a resource in cached memory, nor of its atoms; what is held of others hasn't changed, and no byte is held that wasn't.
pub record Forgets (old new : Held) (id : ℕ) : Type 0 where
  pub gone : (p : Placed) (k : ℕ) → cached_at old id ≡ Some p → IsInAtoms p k → held_at new.cache p.object k ≡ None
  pub others : (b k : ℕ) → (b ≡ id → ⊥) → host_at new (in_buffer b k) ≡ host_at old (in_buffer b k)
  pub fewer : (number k : ℕ) → held_at old.cache number k ≡ None → held_at new.cache number k ≡ None

-- An id has ended: its resource isn't there any more, nor what the host's cache held of it, nor the memory object or the place in a pool that it had, and nothing else has changed (Vulkan, "Object Lifetime").
pub record Ends (old new : Held) (id : ℕ) : Type 0 where
  pub gone : Option ℕ
  pub releases : Releases old.backed new.backed old.memory new.memory id gone
  pub backed : IsBacked new.backed new.memory
  pub stays : (b : ℕ) (p : Placed) → (b ≡ id → ⊥) → placed old b ≡ Some p → IsLive new.memory p.object
  pub whole : IsWhole old.backed → IsWhole new.backed
  pub allots : ReleaseAllots (allotted old) (allotted new) id
  pub no_resource : placed new id ≡ None
  pub resources : (b : ℕ) → (b ≡ id → ⊥) → placed new b ≡ placed old b
  pub no_shape : shape_of new id ≡ None
  pub shapes : (b : ℕ) → (b ≡ id → ⊥) → shape_of new b ≡ shape_of old b
  pub held : (b k : ℕ) → (b ≡ id → ⊥) → host_at new (in_buffer b k) ≡ host_at old (in_buffer b k)

-- ---- mappings

-- What is mapped with a resource has been mapped or unmapped: its allocation, as often as the change says, or the memory object that it is bound to; nothing else has changed (Vulkan, "Host Access to Device Memory Objects"; VMA, "Memory mapping").
pub record Remaps (old new : Held) (id : ℕ) (change : ℕ → ℕ) (mapped : Bool) : Type 0 where
  pub maps : Maps old.backed new.backed id change
  pub memory : new.memory ≡ mapped_at (bound_of old id) mapped old.memory
  pub backed : IsBacked new.backed new.memory
  pub resources : new.resources ≡ old.resources
  pub shapes : new.shapes ≡ old.shapes
  pub cache : new.cache ≡ old.cache
  pub whole : IsWhole old.backed → IsWhole new.backed
  pub allots : KeepsAllotted (allotted old) (allotted new)

-- ---- passes

-- Places have been reserved in pools, and nothing else has changed (VMA, "Defragmentation").
pub record Reserves (old new : Held) : Type 0 where
  pub memory : new.memory ≡ old.memory
  pub keeps : KeepsBacked old.backed new.backed
  pub backed : IsBacked new.backed new.memory
  pub whole : IsWhole new.backed
  pub resources : new.resources ≡ old.resources
  pub shapes : new.shapes ≡ old.shapes
  pub cache : new.cache ≡ old.cache
