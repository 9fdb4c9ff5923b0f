-- How an allocation with two places comes to have one.
use Rattle.std.specs.Prelude.{◌≡◌, ℕ, set, ⊤, Option, Some, None}
use Rattle.vk_model.specs.Memory.Pools.{pool_without}
use Rattle.vma_pools.specs.declared.pool.PoolPlace.{PoolPlace}
use Rattle.vma_pools.specs.declared.allocations.Home.{Home}
use Rattle.vma_pools.specs.declared.allocations.Home.TheVariants as home
use Rattle.vma_pools.specs.declared.allocations.Allocation.{Allocation}
use Rattle.vma_pools.specs.Alike.{IsAlikePool}
use Rattle.vma_pools.specs.Pools.{Kept, KeepsBlocks}
use Rattle.vma_pools.specs.State.{PoolsState, LosesBlock, pool_at, start_of}

-- An allocation moves: it is in a pool, where a place is reserved for it (VMA, "Defragmentation").
abbrev pub IsMoving : Home → Option PoolPlace → Type 0
IsMoving (home.Shared p place) (Some target) = ⊤
IsMoving _ _ = ⊥

-- Of the two places of an allocation in a pool one was given back, and it lies at the other (VMA, "Defragmentation").
pub record IsSettled (old new : PoolsState) (i : ℕ) (a : Allocation) (pool : ℕ) (back stays : PoolPlace) (gone : Option ℕ) : Type 0 where
  pub was : Kept
  pub now : Kept
  pub there : pool_at old pool ≡ Some was
  pub pool_is : IsAlikePool (pool_without was.pool (start_of back)) now.pool
  pub objects : LosesBlock gone was now
  pub blocks : KeepsBlocks gone back.block was now
  pub state : new ≡ record { pools = set old.pools pool (Some now); allocations = set old.allocations i (Some (record a { home = home.Shared pool stays; target = None })) }

-- The move was cancelled: the reserved place was given back (VMA, "Defragmentation").
abbrev pub IsCancelled : PoolsState → PoolsState → ℕ → Allocation → Home → Option PoolPlace → Option ℕ → Type 0
IsCancelled old new i a (home.Shared p place) (Some target) gone = IsSettled old new i a p target place gone
IsCancelled _ _ _ _ _ _ _ = ⊥

-- The move was made: the allocation lies at the reserved place, and its old one was given back (VMA, "Defragmentation").
abbrev pub IsRebound : PoolsState → PoolsState → ℕ → Allocation → Home → Option PoolPlace → Option ℕ → Type 0
IsRebound old new i a (home.Shared p place) (Some target) gone = IsSettled old new i a p place target gone
IsRebound _ _ _ _ _ _ _ = ⊥
