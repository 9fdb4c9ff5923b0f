-- The allocations of a pool, as its resources.
use Rattle.std.specs.Prelude.{◌≡◌, ℕ, ◌+◌, List, [], ◌∷◌, ◌++◌, map, Option, Some, None, ◌==◌, if◌then◌else◌}
use Rattle.vk_model.specs.Memory.MoveTargets.{Resident}
use Rattle.vk_model.specs.Memory.Pools.{IsByPlace}
use Rattle.vma_pools.specs.declared.allocations.Asked.{Asked}
use Rattle.vma_pools.specs.declared.allocations.Home.{Home}
use Rattle.vma_pools.specs.declared.allocations.Home.TheVariants as home
use Rattle.vma_pools.specs.declared.allocations.Allocation.{Allocation}
use Rattle.vma_pools.specs.State.{PoolsState, request_in, start_of}

-- What lies there, as a resource of a pool; nothing where it lies elsewhere (VMA, "Defragmentation").
abbrev pub resident_in : ℕ → ℕ → Home → Asked → List Resident
resident_in pool i (home.Own m) asked = []
resident_in pool i (home.Shared p place) asked = if p == pool then record { id = i; from = start_of place; request = request_in asked } ∷ [] else []

-- An allocation by its number, if it is live, as a resource of a pool.
abbrev pub resident_at : ℕ → ℕ → Option Allocation → List Resident
resident_at pool i None = []
resident_at pool i (Some a) = resident_in pool i a.home a.asked

-- The same of each of a list, whose numbers count from one on.
abbrev pub residents_from : ℕ → ℕ → List (Option Allocation) → List Resident
residents_from pool i [] = []
residents_from pool i (a ∷ rest) = resident_at pool i a ++ residents_from pool (i + 1) rest

-- The resources of a pool: its allocations, each by its number (VMA, "Defragmentation").
abbrev pub residents_of : PoolsState → ℕ → List Resident
residents_of s pool = residents_from pool 0 s.allocations

-- These are the numbers of a pool's allocations by place, from the highest down (VMA, "Defragmentation"; the order: profile).
pub record AreByPlace (s : PoolsState) (pool : ℕ) (numbers : List ℕ) : Type 0 where
  pub listed : List Resident
  pub by_place : IsByPlace (residents_of s pool) listed
  pub are : numbers ≡ map (λ a. a.id) listed
