-- Where the searches of a pass begin.
use Rattle.std.specs.Prelude.{◌≡◌, ◌⊎◌, ℕ, List, Any}
use Rattle.vma_pools.specs.declared.pool.PoolPlace.{PoolPlace}
use Rattle.vma_pools.specs.declared.allocations.Asked.{Asked}
use Rattle.vma_pools.specs.declared.allocations.Home.TheVariants as home
use Rattle.vma_pools.specs.declared.allocations.Allocation.{Allocation}
use Rattle.vma_pools.specs.Exhausted.{IsAsLarge}
use Rattle.vma_pools.specs.State.{request_in}
use Rattle.vma_defrag.specs.declared.cursors.Cursor.{Cursor}

-- A search begins at the start of the first block, or at a cursor of a request that needs no more room (profile).
abbrev pub BeginsAt : List Cursor → Asked → PoolPlace → Type 0
BeginsAt cursors asked low = (low ≡ record { block = 0; start = 0 }) ⊎ Any (λ c. IsAsLarge (request_in c.asked) (request_in asked) × (low ≡ c.low)) cursors

-- This is what an allocation asked, and where it lies in its pool (VMA, "Defragmentation").
pub record IsPlaceOf (c : Cursor) (a : Allocation) : Type 0 where
  pub asked : c.asked ≡ a.asked
  pub pool : ℕ
  pub lies : a.home ≡ home.Shared pool c.low
