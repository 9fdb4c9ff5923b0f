-- What a pass begins with.
use Rattle.std.specs.Prelude.{◌≡◌, ℕ, List, [], ◌∷◌, length, sum_by, Option, Some, None, ⊤, All, ◌↔◌}
use Rattle.vk_model.specs.Basics.{below}
use Rattle.vk_model.specs.Memory.MoveTargets.{Resident, Moved, move_target, pass_moves}
use Rattle.vk_model.specs.Memory.Pools.{IsByPlace, numbered_blocks}
use Rattle.vma_pools.specs.declared.pool.PoolPlace.{PoolPlace}
use Rattle.vma_pools.specs.Alike.{IsAlikePool}
use Rattle.vma_pools.specs.Pools.{Kept}
use Rattle.vma_pools.specs.Listing.{residents_of}
use Rattle.vma_pools.specs.State.{PoolsState, pool_at, start_of, IfKept, IsReserved}
use Rattle.vma_defrag.specs.State.{DefragState, PassState, moves_in, part_count}

-- The targets of moves are reserved, one after another (VMA, "Defragmentation").
abbrev pub Reserves : PoolsState → List Moved → PoolsState → Type 0
Reserves s [] t = t ≡ s
Reserves s (m ∷ ms) t = (mid : PoolsState) × (target : PoolPlace) × (start_of target ≡ m.to) × IsReserved s mid m.id target × Reserves mid ms t

-- A pass of these moves, no part of which is copied.
abbrev pub pass_of : List Moved → PassState
pass_of moves = record { moves = moves; left = below (sum_by part_count moves) }

-- A pass has begun: its moves are those of the pool's allocations by place, within the limits, and their targets are reserved (VMA, "Defragmentation", on `vmaBeginDefragmentationPass`).
pub record HasBegun (old new : DefragState) (before after : PoolsState) : Type 0 where
  pub kept : Kept
  pub there : pool_at before old.pool ≡ Some kept
  pub listed : List Resident
  pub by_place : IsByPlace (residents_of before old.pool) listed
  pub state : new ≡ record old { current = Some (pass_of (pass_moves old.max_bytes old.max_moves (numbered_blocks kept.pool.blocks) listed)) }
  pub reserved : Reserves before (moves_in new.current) after

-- A pass without limits has no moves exactly where no allocation of the pool has a move target (VMA, "Defragmentation", on `maxBytesPerPass` and `maxAllocationsPerPass`).
abbrev pub IsEmptyWhereLowest : DefragState → PoolsState → List Moved → Type 0
IsEmptyWhereLowest d s moves = d.max_bytes ≡ 0 → d.max_moves ≡ 0 → IfKept s d.pool (λ k. (moves ≡ []) ↔ All (λ a. move_target (numbered_blocks k.pool.blocks) a ≡ None) (residents_of s d.pool))

-- Two pools are alike, with the same memory objects, if there are any.
abbrev pub AreAlikeKept : Option Kept → Option Kept → Type 0
AreAlikeKept None None = ⊤
AreAlikeKept (Some k) (Some l) = IsAlikePool k.pool l.pool × (l.memories ≡ k.memories)
AreAlikeKept _ _ = ⊥

-- Pools are alike by their numbers, and the allocations are the same.
pub record AreAlikePools (s t : PoolsState) : Type 0 where
  pub allocations : t.allocations ≡ s.allocations
  pub count : length t.pools ≡ length s.pools
  pub pools : (p : ℕ) → AreAlikeKept (pool_at s p) (pool_at t p)
