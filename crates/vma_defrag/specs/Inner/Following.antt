-- Where allocations lie when moves and allocations have ended.
use Rattle.std.specs.Prelude.{◌≡◌, ◌⊎◌, ℕ, List, Contains, false, Option, Some}
use Rattle.vk_model.specs.Basics.{among}
use Rattle.vk_model.specs.Memory.MoveTargets.{Moved}
use Rattle.vma_pools.specs.declared.pool.PoolPlace.{PoolPlace}
use Rattle.vma_pools.specs.declared.allocations.Allocation.{Allocation}
use Rattle.vma_pools.specs.declared.allocations.Home.{Home}
use Rattle.vma_pools.specs.declared.allocations.Home.TheVariants as home
use Rattle.vma_pools.specs.Pools.{Kept, IsMemoryOf}
use Rattle.vma_pools.specs.State.{PoolsState, pool_at, allocation_at}

-- An allocation comes to lie at the place that was reserved for it.
abbrev pub Rebinds : Home → Option PoolPlace → Home → Type 0
Rebinds (home.Shared p place) (Some u) h = h ≡ home.Shared p u
Rebinds _ _ h = ⊥

-- An allocation lies where it lay, or its move was made.
abbrev pub LiesThen : List ℕ → List Moved → ℕ → Allocation → Allocation → Type 0
LiesThen ignored moves i a b = (b.home ≡ a.home) ⊎ ((m : Moved) × Contains moves m × (m.id ≡ i) × (among i ignored ≡ false) × Rebinds a.home a.target b.home)

-- The blocks that are there are the memory objects that they were.
abbrev pub BlocksStay : PoolsState → PoolsState → Type 0
BlocksStay s t = (p : ℕ) (k : Kept) (n x : ℕ) → pool_at t p ≡ Some k → IsMemoryOf k n x → (l : Kept) × (pool_at s p ≡ Some l) × IsMemoryOf l n x

-- The allocations that are live after moves were so before, and lie there or at the targets of their moves.
pub record FollowMoves (ignored : List ℕ) (moves : List Moved) (s t : PoolsState) : Type 0 where
  pub lives : (i : ℕ) (b : Allocation) → allocation_at t i ≡ Some b → (a : Allocation) × (allocation_at s i ≡ Some a) × (b.asked ≡ a.asked) × LiesThen ignored moves i a b
  pub blocks : BlocksStay s t

-- The allocations that are live after some have ended were so before, and aren't among these.
pub record FollowEnds (numbers : List ℕ) (s t : PoolsState) : Type 0 where
  pub lives : (i : ℕ) (b : Allocation) → allocation_at t i ≡ Some b → (allocation_at s i ≡ Some b) × (Contains numbers i → ⊥)
  pub blocks : BlocksStay s t
