-- What backs ids is what a device has allocated.
use Rattle.std.specs.Prelude.{◌≡◌, ℕ, List, [], ◌∷◌, map, Bool, true, false, ◌==◌, if◌then◌else◌, Option, Some, None, slice_index_or, sum_by}
use Rattle.std.specs.Option.{option_and_then}
use Rattle.std.specs.List.{filter}
use Rattle.vk_memory.specs.declared.memories.Object.{Object}
use Rattle.vk_memory.specs.MemoryState.{MemoryState, on_first}
use Rattle.vk_model.specs.Memory.HeapSizes.{HeapSizes}
use Rattle.vk_model.specs.Memory.MoveTargets.{Resident}
use Rattle.vk_model.specs.Memory.Allocations.{Allocated, OwnMemory, PoolMemory, heaps_of}
use Rattle.vma_pools.specs.declared.allocations.Allocation.{Allocation}
use Rattle.vma_pools.specs.declared.allocations.Home.{Home}
use Rattle.vma_pools.specs.declared.allocations.Home.TheVariants as home
use Rattle.vma_pools.specs.declared.allocations.Asked.{Asked}
use Rattle.vma_pools.specs.Alike.{IsAlikePool}
use Rattle.vma_pools.specs.Pools.{Kept}
use Rattle.vma_pools.specs.State.{start_of, request_in, pool_at, allocation_at}
use Rattle.vk_backing.specs.Backed.{Backed, object_of, pool_of, allocation_of}

-- The memory type and the size of a memory object, where there is one (Vulkan, "Device Memory").
abbrev pub kind_of : Option Object → Option (ℕ × ℕ)
kind_of None = None
kind_of (Some o) = Some (o.memory_type, o.size)

-- What is allotted: the sizes of the heaps, the memory type and the size of the memory object of each number that was given, none where it has been freed, and which ids have them (Vulkan, "Device Memory").
pub record Allotted : Type 0 where
  pub sizes : HeapSizes
  pub objects : List (Option (ℕ × ℕ))
  pub backed : Backed

-- What is allotted by memory objects and what backs ids with them.
abbrev pub allotted : Backed → MemoryState → Allotted
allotted b m = record { sizes = m.sizes; objects = map kind_of m.objects; backed = b }

-- The bytes of a memory object on heap 0, or on heap 1.
abbrev pub bytes_on : Bool → Option (ℕ × ℕ) → ℕ
bytes_on first None = 0
bytes_on true (Some o) = if on_first o.0 then o.1 else 0
bytes_on false (Some o) = if on_first o.0 then 0 else o.1

-- A memory object counts for one.
abbrev pub one_if : Option (ℕ × ℕ) → ℕ
one_if None = 0
one_if (Some o) = 1

-- A memory object that an id has of its own, where there is one (VMA, "Dedicated allocations").
abbrev pub own_memory : ℕ → Option (ℕ × ℕ) → List OwnMemory
own_memory id None = []
own_memory id (Some o) = record { owner = id; memory_type = o.0; size = o.1 } ∷ []

-- Where a resource is in the pool of a number, if it is there (VMA, "Custom memory pools").
abbrev pub resident_at : ℕ → ℕ → Asked → Home → List Resident
resident_at p id asked (home.Own n) = []
resident_at p id asked (home.Shared q place) = if q == p then record { id = id; from = start_of place; request = request_in asked } ∷ [] else []

-- The same by its allocation, if it has one.
abbrev pub resident_of : ℕ → ℕ → Option Allocation → List Resident
resident_of p id None = []
resident_of p id (Some a) = resident_at p id a.asked a.home

-- A pool of a device is the one of an id: alike, and with the same residents (VMA, "Custom memory pools").
pub record IsPoolMemory (b : Backed) (id p : ℕ) (k : Kept) (q : PoolMemory) : Type 0 where
  pub id_is : q.id ≡ id
  pub pool : IsAlikePool q.pool k.pool
  pub residents : (r : ℕ) → filter (λ a. a.id == r) q.residents ≡ resident_of p r (option_and_then (allocation_at b.pools) (allocation_of b r))

-- The pools of an id: the one of its number, or none where it has none.
abbrev pub ArePoolsOf : Backed → ℕ → Option ℕ → List PoolMemory → Type 0
ArePoolsOf b id None qs = qs ≡ []
ArePoolsOf b id (Some p) qs = (q : PoolMemory) × (k : Kept) × (qs ≡ q ∷ []) × (pool_at b.pools p ≡ Some k) × IsPoolMemory b id p k q

-- What is allotted is what is allocated: the heaps have these sizes, and as much is used of each; as many memory objects are live; and each id has the same memory objects and pools (Vulkan, "Device Memory"; VMA, "Custom memory pools").
pub record Fulfils (a : Allotted) (d : Allocated) : Type 0 where
  pub sizes : a.sizes ≡ d.sizes
  pub used : (first : Bool) → (heaps_of d).used (if first then 0 else 1) ≡ sum_by (bytes_on first) a.objects
  pub count : (heaps_of d).objects ≡ sum_by one_if a.objects
  pub objects : (id : ℕ) → filter (λ o. o.owner == id) d.objects ≡ own_memory id (option_and_then (λ n. slice_index_or a.objects n None) (object_of a.backed id))
  pub pools : (id : ℕ) → ArePoolsOf a.backed id (pool_of a.backed id) (filter (λ q. q.id == id) d.pools)
