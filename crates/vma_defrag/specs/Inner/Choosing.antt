-- The moves that are chosen for a pass.
use Rattle.std.specs.Prelude.{◌≡◌, ℕ, List, Contains, Some}
use Rattle.vk_model.specs.Memory.MoveTargets.{Resident, Moved, pass_moves}
use Rattle.vk_model.specs.Memory.PassRanks.{AreOnce}
use Rattle.vk_model.specs.Memory.Pools.{IsByPlace, numbered_blocks}
use Rattle.vma_pools.specs.Pools.{Kept}
use Rattle.vma_pools.specs.Listing.{residents_of}
use Rattle.vma_pools.specs.State.{PoolsState, ArePools, IfLive, IsMovable, pool_at}
use Rattle.vma_defrag.specs.declared.open.Planned.{Planned}
use Rattle.vma_defrag.specs.Passes.{Reserves}
use Rattle.vma_defrag.specs.Inner.Planned.{moves_of, AreMade}

-- The moves of a pass over a pool were chosen, and their targets are reserved.
pub record HasChosen (old new : PoolsState) (pool max_bytes max_moves : ℕ) (planned : List Planned) : Type 0 where
  pub kept : Kept
  pub there : pool_at old pool ≡ Some kept
  pub listed : List Resident
  pub by_place : IsByPlace (residents_of old pool) listed
  pub moves : moves_of planned ≡ pass_moves max_bytes max_moves (numbered_blocks kept.pool.blocks) listed
  pub reserved : Reserves old (moves_of planned) new
  pub made : AreMade planned

-- The targets of moves are reserved, one after another, each for another allocation that could move.
pub record HasReserved (old new : PoolsState) (moves : List Moved) : Type 0 where
  pub always : ArePools old
  pub reserved : Reserves old moves new
  pub once : AreOnce moves
  pub movable : (m : Moved) → Contains moves m → IfLive old m.id (λ a. IsMovable old a.home a.target)
