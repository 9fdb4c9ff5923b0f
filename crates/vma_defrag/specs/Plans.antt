-- The moves of a pass, and the places that are reserved for them.
use Rattle.std.specs.Prelude.{◌≡◌, ℕ, ◌%◌, List, length, true, Some, All, Any}
use Rattle.vk_model.specs.Memory.MoveTargets.{Moved}
use Rattle.vk_model.specs.Memory.PassRanks.{AreOnce}
use Rattle.vma_pools.specs.declared.pool.PoolPlace.{PoolPlace}
use Rattle.vma_pools.specs.declared.allocations.Asked.{Asked}
use Rattle.vma_pools.specs.declared.allocations.Home.TheVariants as home
use Rattle.vma_pools.specs.declared.allocations.Allocation.{Allocation}
use Rattle.vma_pools.specs.Pools.{Kept}
use Rattle.vma_pools.specs.State.{PoolsState, pool_at, allocation_at, start_of, IsHeld}

-- A move is of a live allocation of a pool, for which a place is reserved there, aligned as it asked, and of the bytes that it asked for (VMA, "Defragmentation", on `VmaDefragmentationMove`).
pub record IsMove (s : PoolsState) (pool : ℕ) (m : Moved) : Type 0 where
  pub allocation : Allocation
  pub live : allocation_at s m.id ≡ Some allocation
  pub from : PoolPlace
  pub lies : allocation.home ≡ home.Shared pool from
  pub target : PoolPlace
  pub reserved : allocation.target ≡ Some target
  pub to : start_of target ≡ m.to
  pub bytes : allocation.asked.size ≡ m.bytes
  pub aligned : m.to.start % allocation.asked.align ≡ 0

-- The places that are reserved in a pool are the targets of these moves, which are of one allocation each (VMA, "Defragmentation").
pub record ArePlanned (s : PoolsState) (pool : ℕ) (moves : List Moved) : Type 0 where
  pub each : All (IsMove s pool) moves
  pub once : AreOnce moves
  pub only : (i : ℕ) (place : PoolPlace) (asked : Asked) → IsHeld s i true pool place asked → Any (λ m. m.id ≡ i) moves

-- Each block of a pool is one memory object (VMA, "Custom memory pools").
abbrev pub AreMatched : PoolsState → Type 0
AreMatched s = (p : ℕ) (k : Kept) → pool_at s p ≡ Some k → length k.memories ≡ length k.pool.blocks
