-- What backs ids with memory: memory objects of their own, pools, and allocations in pools.
use Rattle.std.specs.Prelude.{◌≡◌, ℕ, ◌≤◌, ◌⊎◌, List, length, Option, Some, None}
use Rattle.std.specs.Option.{option_and_then, option_map, option_or}
use Rattle.std.specs.Ordering.{nat_cmp}
use Rattle.std.specs.Map.{lookup}
use Rattle.std.specs.BTreeMap.{is_at}
use Rattle.vk_memory.specs.declared.memories.Object.{Object}
use Rattle.vk_memory.specs.MemoryState.{MemoryState, IsLive, object_at}
use Rattle.vk_model.specs.declared.resource.PoolInfo.{PoolInfo}
use Rattle.vk_model.specs.declared.resource.Spot.{Spot}
use Rattle.vma_pools.specs.declared.pool.PoolPlace.{PoolPlace}
use Rattle.vma_pools.specs.declared.allocations.Allocation.{Allocation}
use Rattle.vma_pools.specs.declared.allocations.Home.TheVariants as home
use Rattle.vma_pools.specs.Pools.{Kept, IsMemoryOf}
use Rattle.vma_pools.specs.State.{PoolsState, pool_at, allocation_at, ArePools, Backs, Owner, Alone, BlockOf, Has}
use Rattle.vk_backing.specs.declared.backing.Own.{Own}

-- The memory object that each id has of its own, with its allocation where it is that of one; the pools and all allocations; the number of each pool, by its id; and that of the allocation of each resource in a pool (Vulkan, "Device Memory"; VMA, "Dedicated allocations" and "Custom memory pools").
pub record Backed : Type 0 where
  pub owned : List (ℕ × Own)
  pub pools : PoolsState
  pub numbers : List (ℕ × ℕ)
  pub allocations : List (ℕ × ℕ)

-- The number of an id; none where it has none.
abbrev pub number_in : List (ℕ × ℕ) → ℕ → Option ℕ
number_in numbers id = lookup (is_at (nat_cmp id)) numbers

-- What an id has of its own; none where it has nothing.
abbrev pub own_in : List (ℕ × Own) → ℕ → Option Own
own_in owned id = lookup (is_at (nat_cmp id)) owned

-- The number of the memory object that an id has of its own.
abbrev pub object_in : List (ℕ × Own) → ℕ → Option ℕ
object_in owned id = option_map (λ o. o.object) (own_in owned id)

-- The number of the allocation that this memory object is of, where it is one's.
abbrev pub dedicated_in : List (ℕ × Own) → ℕ → Option ℕ
dedicated_in owned id = option_and_then (λ o. o.allocation) (own_in owned id)

-- The same of what backs ids.
abbrev pub object_of : Backed → ℕ → Option ℕ
object_of b id = object_in b.owned id

-- The number of the allocation that an id has in a memory object of its own (VMA, "Dedicated allocations").
abbrev pub dedicated_of : Backed → ℕ → Option ℕ
dedicated_of b id = dedicated_in b.owned id

-- The number of a pool.
abbrev pub pool_of : Backed → ℕ → Option ℕ
pool_of b id = number_in b.numbers id

-- The number of the allocation that a resource has in a pool.
abbrev pub allocation_of : Backed → ℕ → Option ℕ
allocation_of b id = number_in b.allocations id

-- The number of the allocation that is mapped with a resource, which is its own or in a pool; none where it has neither (VMA, "Memory mapping").
abbrev pub mapping_of : Backed → ℕ → Option ℕ
mapping_of b id = option_or (dedicated_of b id) (allocation_of b id)

-- The pool of an id.
abbrev pub pool_by : Backed → ℕ → Option Kept
pool_by b id = option_and_then (pool_at b.pools) (pool_of b id)

-- What the pool of an id was made with.
abbrev pub info_by : Backed → ℕ → Option PoolInfo
info_by b id = option_map (λ k. k.pool.info) (pool_by b id)

-- The allocation of a resource in a pool.
abbrev pub allocation_by : Backed → ℕ → Option Allocation
allocation_by b id = option_and_then (allocation_at b.pools) (allocation_of b id)

-- A resource lies in the pool of a number: here, in the memory object of a block (Vulkan, "Resource Memory Association"; VMA, "Custom memory pools").
pub record LiesIn (b : Backed) (id pool : ℕ) (spot : Spot) : Type 0 where
  pub number : ℕ
  pub has : allocation_of b id ≡ Some number
  pub allocation : Allocation
  pub live : allocation_at b.pools number ≡ Some allocation
  pub place : PoolPlace
  pub lies : allocation.home ≡ home.Shared pool place
  pub kept : Kept
  pub there : pool_at b.pools pool ≡ Some kept
  pub memory : IsMemoryOf kept place.block spot.memory
  pub offset : spot.offset ≡ place.start
  pub size : spot.size ≡ allocation.asked.size

-- Each memory object has as many bytes as its size says.
abbrev pub AreSized : MemoryState → Type 0
AreSized m = (n : ℕ) (o : Object) → object_at m n ≡ Some o → length o.region ≡ o.size

-- An allocation lies in a pool that an id has; on type 2 its places begin with an atom (VMA, "Custom memory pools"; the alignment: profile).
pub record IsShared (b : Backed) (number : ℕ) : Type 0 where
  pub allocation : Allocation
  pub live : allocation_at b.pools number ≡ Some allocation
  pub aligned : (p : ℕ) (place : PoolPlace) (k : Kept) → allocation.home ≡ home.Shared p place → pool_at b.pools p ≡ Some k → k.pool.info.memory_type ≡ 2 → 64 ≤ allocation.asked.align
  pub pool : ℕ
  pub place : PoolPlace
  pub lies : allocation.home ≡ home.Shared pool place
  pub id : ℕ
  pub named : pool_of b id ≡ Some pool

-- An allocation is live, is not to be moved, and is of this memory object (VMA, "Dedicated allocations").
pub record IsDedicated (found : Option Allocation) (object : Option ℕ) : Type 0 where
  pub allocation : Allocation
  pub live : found ≡ Some allocation
  pub free : allocation.target ≡ None
  pub number : ℕ
  pub lies : allocation.home ≡ home.Own number
  pub owns : object ≡ Some number

-- An owner of a memory object is this allocation.
abbrev pub IsOwner : Option ℕ → Owner → Type 0
IsOwner a (Alone i) = a ≡ Some i
IsOwner a (BlockOf p j) = ⊥

-- What always holds: pools and allocations are so, and their memory objects of the sizes that they need; each number is had by one id, and is that of something live; no id has a memory object of its own that is another's, a block's, or that of an allocation that isn't its own, nor an allocation beside it (Vulkan, "Object Lifetime" and "Resource Memory Association"; VMA, "Dedicated allocations").
pub record IsBacked (b : Backed) (m : MemoryState) : Type 0 where
  pub pools : ArePools b.pools
  pub backs : Backs b.pools m
  pub matched : (p : ℕ) (k : Kept) → pool_at b.pools p ≡ Some k → length k.memories ≡ length k.pool.blocks
  pub sized : AreSized m
  pub live : (id n : ℕ) → object_of b id ≡ Some n → IsLive m n
  pub own : (i j n : ℕ) → object_of b i ≡ Some n → object_of b j ≡ Some n → i ≡ j
  pub apart : (id n : ℕ) (x : Owner) → object_of b id ≡ Some n → Has b.pools x n → IsOwner (dedicated_of b id) x
  pub dedicated : (id a : ℕ) → dedicated_of b id ≡ Some a → IsDedicated (allocation_at b.pools a) (object_of b id)
  pub either : (id n a : ℕ) → object_of b id ≡ Some n → allocation_of b id ≡ Some a → ⊥
  pub named : (id p : ℕ) → pool_of b id ≡ Some p → (k : Kept) × (pool_at b.pools p ≡ Some k)
  pub one_pool : (i j p : ℕ) → pool_of b i ≡ Some p → pool_of b j ≡ Some p → i ≡ j
  pub shared : (id a : ℕ) → allocation_of b id ≡ Some a → IsShared b a
  pub one : (i j a : ℕ) → allocation_of b i ≡ Some a → allocation_of b j ≡ Some a → i ≡ j

-- Each allocation is that of a resource.
abbrev pub IsWhole : Backed → Type 0
IsWhole b = (a : ℕ) (x : Allocation) → allocation_at b.pools a ≡ Some x → (id : ℕ) × ((allocation_of b id ≡ Some a) ⊎ (dedicated_of b id ≡ Some a))

-- No place is reserved for a resource in its pool: it isn't moving (VMA, "Defragmentation").
abbrev pub IsStill : Backed → ℕ → Type 0
IsStill b id = (a : ℕ) (x : Allocation) → allocation_of b id ≡ Some a → allocation_at b.pools a ≡ Some x → x.target ≡ None
