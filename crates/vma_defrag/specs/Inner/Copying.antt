-- The copies that are left when a pass ends.
use Rattle.std.specs.Prelude.{◌≡◌, ◌==◌, ◌⊎◌, ℕ, ◌+◌, ◌<◌, List, length, sum_by, get_or, Bool, true, not, Contains}
use Rattle.std.specs.List.{filter}
use Rattle.vk_memory.specs.MemoryState.{MemoryState}
use Rattle.vk_model.specs.declared.resource.Spot.{Spot}
use Rattle.vk_model.specs.Memory.MoveTargets.{Moved}
use Rattle.vma_pools.specs.State.{PoolsState}
use Rattle.vma_defrag.specs.declared.open.Fate.{Fate}
use Rattle.vma_defrag.specs.declared.open.Fate.TheVariants.{Made}
use Rattle.vma_defrag.specs.declared.open.Planned.{Planned}
use Rattle.vma_defrag.specs.State.{part_at, part_count}
use Rattle.vma_defrag.specs.Bytes.{byte_in, no_move, AreCopied, CopiesPartOf, IsPart, IsTargetByte, KeepsObjects, MovesBetween}
use Rattle.vma_defrag.specs.Ends.{is_made}
use Rattle.vma_defrag.specs.Inner.Planned.{moves_of}
use Rattle.vma_defrag.specs.Inner.Ending.{HaveFates}

-- A part of a move was copied if the move is made; nothing else has changed.
abbrev pub CopiesIf : Fate → PoolsState → Moved → ℕ → MemoryState → MemoryState → Type 0
CopiesIf Made s move number old new = CopiesPartOf s move number old new
CopiesIf _ s move number old new = new ≡ old

-- A move that is none.
abbrev pub none_planned : Planned
none_planned = record { allocation = 0; to = record { block = 0; start = 0 }; bytes = 0; fate = Made }

-- A part that was left was copied if its move is made, and is left no more.
pub record TakesPart (s : PoolsState) (planned : List Planned) (left new_left : List ℕ) (old new : MemoryState) : Type 0 where
  pub part : ℕ
  pub there : Contains left part
  pub others : new_left ≡ filter (λ k. not (k == part)) left
  pub fewer : length new_left + 1 ≡ length left
  pub index : ℕ
  pub number : ℕ
  pub its : IsPart (moves_of planned) part index number
  pub copies : CopiesIf (get_or planned index none_planned).fate s (get_or (moves_of planned) index no_move) number old new

-- So far the bytes of moves that pass a test have been copied, but for those in parts that are left; and no other byte has changed.
pub record AreCopiedSoFar (s : PoolsState) (moves : List Moved) (test : Moved → Bool) (left : List ℕ) (old new : MemoryState) : Type 0 where
  pub same : (i at : ℕ) (from to : Spot) → i < length moves → at < (get_or moves i no_move).bytes → test (get_or moves i no_move) ≡ true → MovesBetween s (get_or moves i no_move).id from to
      → Contains left (part_at moves i at) ⊎ (byte_in new to.memory (to.offset + at) ≡ byte_in old from.memory (from.offset + at))
  pub rest : (n k : ℕ) → (IsTargetByte s moves test n k → ⊥) → byte_in new n k ≡ byte_in old n k

-- So many of the parts that were left have been taken.
pub record AreTaken (s : PoolsState) (planned : List Planned) (first : List ℕ) (old : MemoryState) (count : ℕ) (left : List ℕ) (new : MemoryState) : Type 0 where
  pub fewer : length left + count ≡ length first
  pub within : (k : ℕ) → Contains left k → k < sum_by part_count (moves_of planned)
  pub objects : KeepsObjects old new
  pub copied : (ignored destroyed : List ℕ) → HaveFates ignored destroyed planned → AreCopied s old (moves_of planned) first → AreCopiedSoFar s (moves_of planned) (is_made ignored destroyed) left old new
