-- Where the bytes of places lie that are taken in pools.
use Rattle.std.specs.Prelude.{◌≡◌, ℕ, Bool, Some}
use Rattle.vk_model.specs.declared.resource.Spot.{Spot}
use Rattle.vma_pools.specs.declared.pool.PoolPlace.{PoolPlace}
use Rattle.vma_pools.specs.declared.allocations.Asked.{Asked}
use Rattle.vma_pools.specs.Pools.{Kept, IsMemoryOf}
use Rattle.vma_pools.specs.State.{PoolsState, pool_at, IsHeld}

-- A spot is a place in a pool that is taken for an allocation: its own, or the one that is reserved for it (Vulkan, "Resource Memory Association").
pub record Holds (s : PoolsState) (i : ℕ) (reserved : Bool) (spot : Spot) : Type 0 where
  pub pool : ℕ
  pub place : PoolPlace
  pub asked : Asked
  pub held : IsHeld s i reserved pool place asked
  pub kept : Kept
  pub there : pool_at s pool ≡ Some kept
  pub memory : IsMemoryOf kept place.block spot.memory
  pub offset : spot.offset ≡ place.start
  pub size : spot.size ≡ asked.size
