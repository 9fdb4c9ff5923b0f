-- Below which place a pool has no room for a request.
use Rattle.std.specs.Prelude.{◌≡◌, ℕ, ◌≤◌, All, Some, false}
use Rattle.vk_model.specs.Memory.Suballocation.{Request}
use Rattle.vk_model.specs.Memory.Room.{fits}
use Rattle.vk_model.specs.Memory.MoveTargets.{BlockStart}
use Rattle.vk_model.specs.Memory.Pools.{PoolBlock, Pool, IsHigher, block_bytes, block_taken}
use Rattle.vma_pools.specs.declared.pool.PoolPlace.{PoolPlace}
use Rattle.vma_pools.specs.declared.allocations.Home.TheVariants as home
use Rattle.vma_pools.specs.declared.allocations.Allocation.{Allocation}
use Rattle.vma_pools.specs.Pools.{Kept}
use Rattle.vma_pools.specs.State.{PoolsState, pool_at, allocation_at, start_of, request_in}

-- A request fits at no start of this block that is lower than a place of its pool (VMA, "Defragmentation"; what is lower: profile).
abbrev pub HasNoneBelow : BlockStart → Request → PoolBlock → Type 0
HasNoneBelow low r b = (start : ℕ) → IsHigher low (record { block = b.number; start = start }) → fits (block_taken b.block) r 0 (block_bytes b.block) start ≡ false

-- A request fits at no place of a pool that is lower than this one: nowhere in a block of a lower number, and at no lower start in its own block (VMA, "Defragmentation"; what is lower: profile).
abbrev pub IsExhausted : Pool → BlockStart → Request → Type 0
IsExhausted p low r = All (HasNoneBelow low r) p.blocks

-- A request is of the alignment and kind of another one, and isn't smaller: it has no room where that one has none (profile).
pub record IsAsLarge (less more : Request) : Type 0 where
  pub size : less.size ≤ more.size
  pub align : less.align ≡ more.align
  pub kind : less.kind ≡ more.kind

-- In the pool of an allocation what it asks fits at no place that is lower than this one (VMA, "Defragmentation").
abbrev pub IsExhaustedFor : PoolsState → ℕ → PoolPlace → Type 0
IsExhaustedFor s i low = (a : Allocation) (p : ℕ) (from : PoolPlace) (k : Kept) → allocation_at s i ≡ Some a → a.home ≡ home.Shared p from → pool_at s p ≡ Some k → IsExhausted k.pool (start_of low) (request_in a.asked)

-- What it asks fits at no place that is lower than where it lies (VMA, "Defragmentation").
abbrev pub IsExhaustedBefore : PoolsState → ℕ → Type 0
IsExhaustedBefore s i = (a : Allocation) (p : ℕ) (from : PoolPlace) → allocation_at s i ≡ Some a → a.home ≡ home.Shared p from → IsExhaustedFor s i from
