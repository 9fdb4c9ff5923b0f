-- The passes of a pool, as entries are applied.
use Rattle.std.specs.Prelude.{◌≡◌, ℕ, ◌+◌, ◌*◌, ◌/◌, ◌⊎◌, ◌≤◌, ◌==◌, List, [], ◌∷◌, ◌++◌, length, sum, count_by, nat_lt, Bool, true, not, if◌then◌else◌, Option, Some, None, IfSome, IsTrue, All, Contains, ⊤}
use Rattle.vk_model.specs.declared.entry.Entry.{Entry}
use Rattle.vk_model.specs.declared.entry.Entry.TheVariants as entry
use Rattle.vk_model.specs.Basics.{holds}
use Rattle.vk_model.specs.Trace.Objects.{pool_at}
use Rattle.vk_model.specs.Memory.MoveTargets.{Resident}
use Rattle.vk_model.specs.Memory.Pools.{numbered_blocks, rank_sum}
use Rattle.vk_model.specs.Memory.Allocations.{PoolMemory, Allocated, Applied, defragmented, pool_by_id}
use Rattle.vk_model.specs.Memory.PassRanks.{made_moves}
use Rattle.vk_model.specs.Memory.PassLaws.{IsRanked, AllArePlaced}

-- Whether an entry makes no resource in a pool, and doesn't drop it (VMA, "Custom memory pools").
abbrev pub makes_none_in : ℕ → Entry → Bool
makes_none_in p (entry.Buffer i b) = not (holds (pool_at b.place) (λ q. q == p))
makes_none_in p (entry.Image i m) = not (holds (pool_at m.place) (λ q. q == p))
makes_none_in p (entry.DropPool q) = not (q == p)
makes_none_in p x = true

-- A resource of an id is none of a pool's while its pass is open.
abbrev pub EndsNoneMoved : ℕ → Option PoolMemory → Type 0
EndsNoneMoved i o = IfSome o (λ q. (q.moves ≡ []) ⊎ ((a : Resident) → Contains q.residents a → a.id ≡ i → ⊥))

-- An entry ends no resource of a pool while a pass of the pool is open; rule PASS_STATE is on this (VMA, "Defragmentation").
abbrev pub SparesPool : ℕ → Allocated → Entry → Type 0
SparesPool p d (entry.Free i) = EndsNoneMoved i (pool_by_id p d)
SparesPool p d (entry.Destroy i) = EndsNoneMoved i (pool_by_id p d)
SparesPool p d x = ⊤

-- The same of entries that are applied one after another.
abbrev pub AllSparePool : (p : ℕ) (d : Allocated) (xs : List Entry) (e : Allocated) → Applied d xs e → Type 0
AllSparePool p d [] e h = ⊤
AllSparePool p d (x ∷ xs) e h = SparesPool p d x × AllSparePool p h.0 xs e h.3

-- How many moves are made in a pool as a pass of it ends.
abbrev pub made_in : List ℕ → Option PoolMemory → List ℕ
made_in kept None = []
made_in kept (Some q) = made_moves kept q.moves ∷ []

-- How many moves are made in a pool by an entry, if it ends a pass of the pool (VMA, "Defragmentation").
abbrev pub made_by_end : ℕ → Allocated → Entry → List ℕ
made_by_end p d (entry.EndPass i kept lost) = elim (defragmented i d) [
  | None ↦ []
  | Some f ↦ if f.pool == p then made_in kept (pool_by_id p d) else []
]
made_by_end p d x = []

-- How many moves are made at each end of a pass of a pool, as entries are applied.
abbrev pub moves_made : (p : ℕ) (d : Allocated) (xs : List Entry) (e : Allocated) → Applied d xs e → List ℕ
moves_made p d [] e h = []
moves_made p d (x ∷ xs) e h = made_by_end p d x ++ moves_made p h.0 xs e h.3

-- A pool is left whose resources have ranks of which the sum, with as many added as moves were made, is at most the sum before; at most as many passes end with a move that was made as moves were; and at most as many moves were made as there were resources times places of 16 bytes (VMA, "Defragmentation"; places: profile).
pub record PassesFall (size p : ℕ) (q : PoolMemory) (made : List ℕ) (e : Allocated) : Type 0 where
  pub left : PoolMemory
  pub there : pool_by_id p e ≡ Some left
  pub falls : rank_sum size (numbered_blocks left.pool.blocks) left.residents + sum made ≤ rank_sum size (numbered_blocks q.pool.blocks) q.residents
  pub passes : count_by (λ k. nat_lt 0 k) made ≤ sum made
  pub most : sum made ≤ length q.residents * (length q.pool.blocks * (size / 16))

-- So it is while no resource is made in a pool, whichever entries are applied; passes of it come to an end.
abbrev pub PassesOfPoolsEnd : Type 0
PassesOfPoolsEnd =
    (size p : ℕ) (d : Allocated) (xs : List Entry) (e : Allocated) (h : Applied d xs e) (q : PoolMemory) → pool_by_id p d ≡ Some q → q.moves ≡ [] → IsRanked size q → AllArePlaced size q
    → All (λ x. IsTrue (makes_none_in p x)) xs → AllSparePool p d xs e h → PassesFall size p q (moves_made p d xs e h) e
