-- Where everything lies.
use Rattle.std.specs.Prelude.{◌≡◌, ◌==◌, ◌++◌, ℕ, List, map, filter, Option, Some, All, IsPermutation}
use Rattle.std.specs.List.{filter_map}
use Rattle.vk_model.specs.Memory.Pools.{AreStatistics, numbered_blocks}
use Rattle.vma_pools.specs.Pools.{Kept, block_numbers}
use Rattle.vma_pools.specs.State.{IfKept}
use Rattle.vk_backing.specs.Backed.{Backed, pool_of}
use Rattle.vk_backing.specs.Passing.{Passing}
use Rattle.vk_resources.specs.Held.{Held}
use Rattle.vk_places.specs.declared.owners.Owned.{Owned}
use Rattle.vk_places.specs.declared.states.State.{State}
use Rattle.vk_places.specs.declared.states.Taken.{Taken}
use Rattle.vk_places.specs.declared.states.LivePool.{LivePool}
use Rattle.vk_places.specs.Listed.{heap_in, objects_from, resource_in, lying_of, reserved_of}

-- These are the ranges that are taken for the resources of all pools: those in which they lie, and those that are reserved for what moves (VMA, "Custom memory pools" and "Defragmentation").
abbrev pub AreRanges : Backed → List Taken → Type 0
AreRanges b ranges = IsPermutation (filter_map (lying_of b.pools) b.allocations ++ filter_map (reserved_of b.pools) b.allocations) ranges

-- A pool of an id: what it was made with, how much of it is in use, its blocks with their memory objects, and what is taken of each (VMA, "Custom memory pools" and "Statistics").
pub record IsPoolOf (ranges : List Taken) (id number : ℕ) (p : LivePool) (k : Kept) : Type 0 where
  pub is : p.id ≡ id
  pub info : p.info ≡ k.pool.info
  pub statistics : AreStatistics (numbered_blocks k.pool.blocks) p.statistics
  pub numbers : map (λ b. b.number) p.blocks.items ≡ block_numbers k.pool
  pub objects : map (λ b. b.object) p.blocks.items ≡ k.memories
  pub taken : All (λ b. b.taken.items ≡ filter (λ r. r.block == b.number) (filter (λ r. r.pool == number) ranges)) p.blocks.items

-- The pools of some ids, in their order, each with the number that goes with its id (VMA, "Custom memory pools").
pub record ArePoolsOf (b : Backed) (ranges : List Taken) (numbers : List (ℕ × ℕ)) (found : List LivePool) : Type 0 where
  pub ids : map (λ p. p.id) found ≡ map (λ e. e.0) numbers
  pub each : All (λ p. (number : ℕ) × (pool_of b p.id ≡ Some number) × IfKept b.pools number (IsPoolOf ranges p.id number p)) found

-- The state has exactly what is held: the heaps; each live memory object with its type and its size; each pool with its blocks, and what is taken there for resources that lie or are to lie there; each resource with its place; and which pass is open (Vulkan, "Device Memory" and "Resource Memory Association"; VMA, "Custom memory pools", "Dedicated allocations" and "Defragmentation").
pub record IsStateOf (r : Held) (p : Passing) (s : State) : Type 0 where
  pub heap0 : s.heap0 ≡ heap_in r.memory 0
  pub heap1 : s.heap1 ≡ heap_in r.memory 1
  pub owners : List (ℕ × Owned)
  pub objects : s.objects.items ≡ objects_from owners 0 r.memory.objects
  pub ranges : List Taken
  pub taken : AreRanges r.backed ranges
  pub pools : ArePoolsOf r.backed ranges r.backed.numbers s.pools.items
  pub resources : s.resources.items ≡ map (resource_in r) r.resources
  pub opened : s.opened ≡ p.opened
