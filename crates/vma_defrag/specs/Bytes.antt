-- The bytes of what moves, at both of its places.
use Rattle.std.specs.Prelude.{◌≡◌, ℕ, ◌+◌, ◌-◌, ◌*◌, ◌<◌, ◌≤◌, ◌⊎◌, List, length, get_or, min, Contains, Option, Some, None, Bool, true, ⊤}
use Rattle.vk_memory.specs.declared.memories.Object.{Object}
use Rattle.vk_memory.specs.MemoryState.{MemoryState, object_at, region_of, with_region}
use Rattle.vk_heap.specs.Region.{piece, splice}
use Rattle.vk_model.specs.declared.resource.Spot.{Spot}
use Rattle.vk_model.specs.Memory.MoveTargets.{Moved}
use Rattle.vma_pools.specs.State.{PoolsState, IfLive, IsSpotOf, IsTargetSpot}
use Rattle.vma_defrag.specs.State.{part_at, part_count, parts_before}

-- A byte of the memory object of a number.
abbrev pub byte_in : MemoryState → ℕ → ℕ → ℕ
byte_in m n k = get_or (region_of m n) k 0

-- No move: it is of no bytes.
abbrev pub no_move : Moved
no_move = record { id = 0; to = record { block = 0; start = 0 }; bytes = 0 }

-- An allocation that moves lies at one spot, and is to lie at another (VMA, "Defragmentation", on `VmaDefragmentationMove`).
abbrev pub MovesBetween : PoolsState → ℕ → Spot → Spot → Type 0
MovesBetween s i from to = IfLive s i (λ a. IsSpotOf s a.home a.asked from × IsTargetSpot s a.home a.target a.asked to)

-- Each byte of a move whose part isn't left has been copied: it is the same at both places.
abbrev pub AreCopied : PoolsState → MemoryState → List Moved → List ℕ → Type 0
AreCopied s m moves left =
    (i at : ℕ) (from to : Spot) → i < length moves → at < (get_or moves i no_move).bytes → MovesBetween s (get_or moves i no_move).id from to
    → Contains left (part_at moves i at) ⊎ (byte_in m to.memory (to.offset + at) ≡ byte_in m from.memory (from.offset + at))

-- A part is one of a move, by the move's index and the part's number among those of the move.
pub record IsPart (moves : List Moved) (part i number : ℕ) : Type 0 where
  pub there : i < length moves
  pub sum : parts_before moves i + number ≡ part
  pub within : number < part_count (get_or moves i no_move)

-- The bytes of a part of a move: 4,096, or what is left (profile).
abbrev pub part_size : Moved → ℕ → ℕ
part_size m number = min 4096 (m.bytes - 4096 * number)

-- A part of a move was copied from the place where its allocation lies to the one that is reserved for it, and nothing else has changed (VMA, "Defragmentation").
pub record CopiesPartOf (s : PoolsState) (m : Moved) (number : ℕ) (old new : MemoryState) : Type 0 where
  pub from : Spot
  pub to : Spot
  pub between : MovesBetween s m.id from to
  pub memory : new ≡ with_region old to.memory (splice (region_of old to.memory) (to.offset + 4096 * number) (piece (region_of old from.memory) (from.offset + 4096 * number) (part_size m number)))

-- The same of a part by its number among those of all moves.
pub record CopiesPart (s : PoolsState) (moves : List Moved) (part : ℕ) (old new : MemoryState) : Type 0 where
  pub index : ℕ
  pub number : ℕ
  pub its : IsPart moves part index number
  pub copies : CopiesPartOf s (get_or moves index no_move) number old new

-- Two memory objects are of one type and size, and mapped alike, if there are any.
abbrev pub AreAlikeObjects : Option Object → Option Object → Type 0
AreAlikeObjects None None = ⊤
AreAlikeObjects (Some o) (Some p) = (p.memory_type ≡ o.memory_type) × (p.size ≡ o.size) × (p.mapped ≡ o.mapped) × (length p.region ≡ length o.region)
AreAlikeObjects _ _ = ⊥

-- The memory objects are what they were, but for their bytes (Vulkan, "Device Memory").
pub record KeepsObjects (old new : MemoryState) : Type 0 where
  pub sizes : new.sizes ≡ old.sizes
  pub count : length new.objects ≡ length old.objects
  pub each : (n : ℕ) → AreAlikeObjects (object_at old n) (object_at new n)

-- Byte k of a memory object is a byte of the place that is reserved for one of some moves.
pub record IsTargetByte (s : PoolsState) (moves : List Moved) (test : Moved → Bool) (n k : ℕ) : Type 0 where
  pub move : Moved
  pub there : Contains moves move
  pub passes : test move ≡ true
  pub from : Spot
  pub to : Spot
  pub between : MovesBetween s move.id from to
  pub object : to.memory ≡ n
  pub low : to.offset ≤ k
  pub high : k < to.offset + move.bytes

-- The moves that pass a test have been copied, and no other byte has changed (VMA, "Defragmentation").
pub record AreAllCopied (s : PoolsState) (moves : List Moved) (test : Moved → Bool) (old new : MemoryState) : Type 0 where
  pub objects : KeepsObjects old new
  pub same : (move : Moved) (from to : Spot) (at : ℕ) → Contains moves move → test move ≡ true → MovesBetween s move.id from to → at < move.bytes → byte_in new to.memory (to.offset + at) ≡ byte_in old from.memory (from.offset + at)
  pub rest : (n k : ℕ) → (IsTargetByte s moves test n k → ⊥) → byte_in new n k ≡ byte_in old n k
