-- The numbers of allocations that are walked over.
use Rattle.std.specs.Prelude.{ℕ, ◌+◌, ◌≤◌, List, [], ◌∷◌, ◌++◌, length, Contains, Option, None, IsSome, slice_index_or}
use Rattle.vk_model.specs.Memory.MoveTargets.{Resident}
use Rattle.vma_pools.specs.declared.allocations.Allocation.{Allocation}
use Rattle.vma_pools.specs.State.{PoolsState, ArePools}
use Rattle.vma_pools.specs.Listing.{resident_at}

-- Numbers rise from one on, and are below another.
abbrev pub Rise : ℕ → List ℕ → ℕ → Type 0
Rise low [] high = low ≤ high
Rise low (n ∷ ns) high = (low ≤ n) × Rise (n + 1) ns high

-- Rising numbers of allocations, with that of each live one among them.
pub record AreNumbers (numbers : List ℕ) (allocations : List (Option Allocation)) : Type 0 where
  pub rise : Rise 0 numbers (length allocations)
  pub each : (i : ℕ) → IsSome (slice_index_or allocations i None) → Contains numbers i

-- What always holds of pools and allocations, and of the numbers.
pub record AreKept (s : PoolsState) (ns : List ℕ) : Type 0 where
  pub pools : ArePools s
  pub numbers : AreNumbers ns s.allocations

-- The allocations of these numbers that are live, as resources of a pool.
abbrev pub residents_at : ℕ → List (Option Allocation) → List ℕ → List Resident
residents_at pool allocations [] = []
residents_at pool allocations (n ∷ ns) = resident_at pool n (slice_index_or allocations n None) ++ residents_at pool allocations ns
