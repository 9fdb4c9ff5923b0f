-- Laws of the passes of a defragmentation: their moves lead down, and come to an end.
use Rattle.std.specs.Prelude.{◌≡◌, ℕ, ◌+◌, ◌*◌, ◌/◌, ◌<◌, ◌≤◌, List, [], ◌∷◌, length, sum, count_by, nat_lt, Bool, Option, None, All, Contains, ◌↔◌}
use Rattle.vk_model.specs.declared.entry.Entry.{Entry}
use Rattle.vk_model.specs.Memory.HeapSizes.{HeapSizes}
use Rattle.vk_model.specs.Memory.Suballocation.{Request}
use Rattle.vk_model.specs.Memory.MoveTargets.{Numbered, BlockStart, Resident, move_target, pass_moves}
use Rattle.vk_model.specs.Memory.Pools.{Pool, block_bytes, numbered_blocks, pool_without, IsPool, IsAt, rank, rank_sum}
use Rattle.vk_model.specs.Memory.Allocations.{PoolMemory, Defragmentation, Allocated, PassBegins, pass_ended, with_resident, without_resident, Applied, EndsOn, AppliedWith, EndsOnWith}
use Rattle.vk_model.specs.Memory.PassRanks.{MovesLeadDown, made_moves}

-- ---- pools whose resources have ranks

-- The blocks of a pool have one size, and numbers below the next one; no two of its resources have one id, and each asks at least 16 bytes (VMA, "Custom memory pools"; numbers and 16: profile).
pub record IsRanked (size : ℕ) (q : PoolMemory) : Type 0 where
  pub sizes : All (λ b. block_bytes b.block ≡ size) q.pool.blocks
  pub before_next : All (λ b. b.number < q.pool.next) q.pool.blocks
  pub ids : (a b : Resident) → Contains q.residents a → Contains q.residents b → a.id ≡ b.id → a ≡ b
  pub some : All (λ a. 16 ≤ a.request.size) q.residents

-- A place lies in one of these blocks, at least 16 bytes before its end (profile).
pub record IsPlaceIn (size : ℕ) (blocks : List Numbered) (s : BlockStart) : Type 0 where
  pub block : Numbered
  pub there : Contains blocks block
  pub number : block.number ≡ s.block
  pub inside : s.start + 16 ≤ size

-- The resources of a pool and the targets of its open pass lie in its blocks (VMA, "Defragmentation").
pub record AllArePlaced (size : ℕ) (q : PoolMemory) : Type 0 where
  pub residents : All (λ a. IsPlaceIn size (numbered_blocks q.pool.blocks) a.from) q.residents
  pub targets : All (λ m. IsPlaceIn size (numbered_blocks q.pool.blocks) m.to) q.moves

-- In a pool as it can be, whose blocks have one size, a resource of at least 16 bytes that is at its place lies in the blocks.
abbrev pub PlacesLieInside : Type 0
PlacesLieInside = (size : ℕ) (p : Pool) (a : Resident) → IsPool p → All (λ b. block_bytes b.block ≡ size) p.blocks → 16 ≤ a.request.size → IsAt (numbered_blocks p.blocks) a
    → IsPlaceIn size (numbered_blocks p.blocks) a.from

-- ---- moves lead down

-- The moves of a pass that begins lead down, each resource once, and to places in the pool's blocks.
pub record PassesLeadDown : Type 0 where
  pub down : (size : ℕ) (f : Defragmentation) (q e : PoolMemory) → IsRanked size q → PassBegins f q e → MovesLeadDown size e
  pub inside : (size : ℕ) (f : Defragmentation) (q e : PoolMemory) → IsRanked size q → AllArePlaced size q → PassBegins f q e → AllArePlaced size e

-- Moves that lead down still do so when the pool gets a resource of a new id, in a new block too; and where that lies in the blocks, all still do.
pub record MovesStayDown : Type 0 where
  pub down : (size : ℕ) (q : PoolMemory) (i : ℕ) (r : Request) (upper : Bool) (s : BlockStart) → AllArePlaced size q → ((a : Resident) → Contains q.residents a → a.id ≡ i → ⊥)
      → MovesLeadDown size q → MovesLeadDown size (with_resident q i r upper s)
  pub inside : (size : ℕ) (q : PoolMemory) (i : ℕ) (r : Request) (upper : Bool) (s : BlockStart) → AllArePlaced size q → IsPlaceIn size (numbered_blocks (with_resident q i r upper s).pool.blocks) s
      → AllArePlaced size (with_resident q i r upper s)

-- ---- sums of ranks

-- Resources that lie in the blocks have ranks below the number of places, so that their sum, with one more for each resource, is at most the resources times the places.
abbrev pub RanksAreBounded : Type 0
RanksAreBounded = (size : ℕ) (blocks : List Numbered) (residents : List Resident) → All (λ a. IsPlaceIn size blocks a.from) residents
    → rank_sum size blocks residents + length residents ≤ length residents * (length blocks * (size / 16))

-- No rank, and no sum of ranks, is greater when a range is given back or a resource has ended.
pub record FreeingLowersRanks : Type 0 where
  pub place : (size : ℕ) (p : Pool) (freed s : BlockStart) → rank size (numbered_blocks (pool_without p freed).blocks) s ≤ rank size (numbered_blocks p.blocks) s
  pub resident : (size : ℕ) (i : ℕ) (q : PoolMemory)
      → rank_sum size (numbered_blocks (without_resident i q).pool.blocks) (without_resident i q).residents ≤ rank_sum size (numbered_blocks q.pool.blocks) q.residents

-- ---- passes come to an end

-- What happens to a pool while no resource is made in it: a pass begins, it ends, or a resource ends (VMA, "Defragmentation").
pub data PoolStep : Type 0 where
  PassBegan : Defragmentation → PoolStep
  PassEnded : (kept lost : List ℕ) → PoolStep
  ResourceEnded : ℕ → PoolStep

-- These steps happen to a pool, one after another, and at the end of each pass so many moves are made; no resource ends while there are moves (VMA, "Defragmentation").
abbrev pub Happens : PoolMemory → List PoolStep → List ℕ → Type 0
Happens q [] made = made ≡ []
Happens q (PassBegan f ∷ steps) made = (e : PoolMemory) × PassBegins f q e × Happens e steps made
Happens q (PassEnded kept lost ∷ steps) made = (later : List ℕ) × (made ≡ made_moves kept q.moves ∷ later) × Happens (pass_ended kept lost q) steps later
Happens q (ResourceEnded i ∷ steps) made = (q.moves ≡ []) × Happens (without_resident i q) steps made

-- While no resource is made in a pool, at most as many moves are made as it has resources times places, and so at most as many passes end with a move that was made.
abbrev pub PassesEnd : Type 0
PassesEnd = (size : ℕ) (q : PoolMemory) (steps : List PoolStep) (made : List ℕ) → IsRanked size q → AllArePlaced size q → q.moves ≡ [] → Happens q steps made
    → (count_by (λ k. nat_lt 0 k) made ≤ sum made) × (sum made ≤ length q.residents * (length q.pool.blocks * (size / 16)))

-- A pass without limits has no moves exactly where no resource has a move target.
abbrev pub NoMovesLeft : Type 0
NoMovesLeft = (blocks : List Numbered) (listed : List Resident) → (pass_moves 0 0 blocks listed ≡ []) ↔ All (λ a. move_target blocks a ≡ None) listed

-- ---- parts

-- Parts take nothing away: what is applied, and what a replay ends on, with some parts is so without them, and where entries are applied there are such parts.
pub record PartsFollow : Type 0 where
  pub applied : (parts : ℕ → ℕ) (n : ℕ) (d : Allocated) (t : List Entry) (e : Allocated) → AppliedWith parts n d t e → Applied d t e
  pub ends : (parts : ℕ → ℕ) (sizes : HeapSizes) (t : List Entry) (stop : Option ℕ) (d : Allocated) → EndsOnWith parts sizes t stop d → EndsOn sizes t stop d
  pub found : (n : ℕ) (d : Allocated) (t : List Entry) (e : Allocated) → Applied d t e → (parts : ℕ → ℕ) × AppliedWith parts n d t e
