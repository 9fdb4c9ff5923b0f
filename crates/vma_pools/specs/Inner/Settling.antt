-- The two places of an allocation that moves.
use Rattle.std.specs.Prelude.{◌≡◌, ℕ, false, true, Some, ◌⊎◌}
use Rattle.vma_pools.specs.declared.pool.PoolPlace.{PoolPlace}
use Rattle.vma_pools.specs.declared.allocations.Allocation.{Allocation}
use Rattle.vma_pools.specs.State.{held_place}

-- An allocation has these two places in a pool, and either is the reserved one.
abbrev pub HasPlaces : Allocation → ℕ → PoolPlace → PoolPlace → Type 0
HasPlaces a pool back stays = ((held_place false a ≡ Some (pool, stays)) × (held_place true a ≡ Some (pool, back))) ⊎ ((held_place false a ≡ Some (pool, back)) × (held_place true a ≡ Some (pool, stays)))
