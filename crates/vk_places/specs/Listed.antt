-- What is listed of memory objects, resources and ranges.
use Rattle.std.specs.Prelude.{◌≡◌, ◌==◌, ◌+◌, ◌++◌, ℕ, List, [], ◌∷◌, map, filter, Option, Some, None, if◌then◌else◌, option_map, ◌||◌, All}
use Rattle.std.specs.Option.{option_and_then, option_to_list}
use Rattle.std.specs.Ordering.{nat_cmp}
use Rattle.std.specs.Map.{lookup}
use Rattle.std.specs.BTreeMap.{is_at}
use Rattle.vk_memory.specs.declared.memories.Object.{Object}
use Rattle.vk_memory.specs.MemoryState.{MemoryState, sizes_on}
use Rattle.vma_pools.specs.declared.pool.PoolPlace.{PoolPlace}
use Rattle.vma_pools.specs.declared.allocations.Home.{Home}
use Rattle.vma_pools.specs.declared.allocations.Home.TheVariants as home
use Rattle.vma_pools.specs.declared.allocations.Allocation.{Allocation}
use Rattle.vma_pools.specs.declared.views.BlockObject.{BlockObject}
use Rattle.vma_pools.specs.State.{PoolsState, allocation_at}
use Rattle.vk_resources.specs.declared.resources.Placed.{Placed}
use Rattle.vk_resources.specs.Held.{Held, shape_of}
use Rattle.vk_places.specs.declared.owners.Owned.{Owned}
use Rattle.vk_places.specs.declared.states.Hold.{Hold}
use Rattle.vk_places.specs.declared.states.Hold.TheVariants as hold
use Rattle.vk_places.specs.declared.states.HeapUse.{HeapUse}
use Rattle.vk_places.specs.declared.states.LiveObject.{LiveObject}
use Rattle.vk_places.specs.declared.states.Taken.{Taken}
use Rattle.vk_places.specs.declared.states.LiveBlock.{LiveBlock}
use Rattle.vk_places.specs.declared.states.LiveResource.{LiveResource}

-- A heap: its size, and the bytes of the live memory objects on it (Vulkan, "Device Memory").
abbrev pub heap_in : MemoryState → ℕ → HeapUse
heap_in m heap = record { size = if heap == 0 then m.sizes.heap0 else m.sizes.heap1; used = sizes_on (heap == 0) m.objects }

-- A resource: where it lies, and how its texels lie where it is an image (Vulkan, "Resource Memory Association").
abbrev pub resource_in : Held → ℕ × Placed → LiveResource
resource_in s e = record { id = e.0; tiling = option_map (λ m. m.tiling) (shape_of s e.0); object = e.1.object; offset = e.1.offset; size = e.1.size }

-- ---- memory objects

-- A live memory object, with whose it is; it is mapped where it is itself, or something that lies in it (Vulkan, "Device Memory" and "Host Access to Device Memory Objects"; VMA, "Memory mapping").
abbrev pub object_as : ℕ → Object → Option Owned → LiveObject
object_as n o None = record { number = n; memory_type = o.memory_type; size = o.size; mapped = o.mapped; owner = None }
object_as n o (Some w) = record { number = n; memory_type = o.memory_type; size = o.size; mapped = o.mapped || w.mapped; owner = Some w.owner }

-- The memory object of a number, if it is live.
abbrev pub object_in : List (ℕ × Owned) → ℕ → Option Object → Option LiveObject
object_in owners n None = None
object_in owners n (Some o) = Some (object_as n o (lookup (is_at (nat_cmp n)) owners))

-- The live ones of memory objects whose numbers count from one on (Vulkan, "Device Memory").
abbrev pub objects_from : List (ℕ × Owned) → ℕ → List (Option Object) → List LiveObject
objects_from owners n [] = []
objects_from owners n (o ∷ os) = option_to_list (object_in owners n o) ++ objects_from owners (n + 1) os

-- ---- ranges of pools

-- How the place of an allocation is taken: it lies there, or moves from there where a place is reserved for it (VMA, "Defragmentation").
abbrev pub hold_in : Option PoolPlace → Hold
hold_in None = hold.Lies
hold_in (Some target) = hold.Moves

-- The range of a resource at a place of a pool.
abbrev pub range_in : ℕ → Allocation → ℕ → PoolPlace → Hold → Taken
range_in id a pool place h = record { pool = pool; block = place.block; offset = place.start; size = a.asked.size; kind = a.asked.kind; id = id; hold = h }

-- The range in which the allocation of a resource lies, where it lies in a pool (VMA, "Custom memory pools").
abbrev pub lying_at : ℕ → Allocation → Home → Option Taken
lying_at id a (home.Own m) = None
lying_at id a (home.Shared pool place) = Some (range_in id a pool place (hold_in a.target))

-- The range that is reserved for it there (VMA, "Defragmentation").
abbrev pub reserved_at : ℕ → Allocation → Home → Option PoolPlace → Option Taken
reserved_at id a (home.Shared pool place) (Some target) = Some (range_in id a pool target hold.Reserved)
reserved_at id a _ _ = None

-- The same of a resource with the number of its allocation.
abbrev pub lying_of : PoolsState → ℕ × ℕ → Option Taken
lying_of s e = option_and_then (λ a. lying_at e.0 a a.home) (allocation_at s e.1)

abbrev pub reserved_of : PoolsState → ℕ × ℕ → Option Taken
reserved_of s e = option_and_then (λ a. reserved_at e.0 a a.home a.target) (allocation_at s e.1)

-- ---- blocks and pools

-- A block: its number, its memory object, and those of some ranges that are taken of it (VMA, "Custom memory pools").
pub record IsBlockOf (ranges : List Taken) (b : BlockObject) (l : LiveBlock) : Type 0 where
  pub number : l.number ≡ b.number
  pub object : l.object ≡ b.memory
  pub taken : l.taken.items ≡ filter (λ r. r.block == b.number) ranges

-- Blocks, in their order.
pub record AreBlocksOf (ranges : List Taken) (objects : List BlockObject) (found : List LiveBlock) : Type 0 where
  pub numbers : map (λ b. b.number) found ≡ map (λ b. b.number) objects
  pub objects_are : map (λ b. b.object) found ≡ map (λ b. b.memory) objects
  pub taken : All (λ b. b.taken.items ≡ filter (λ r. r.block == b.number) ranges) found
