-- What becomes of the moves of a pass that ends.
use Rattle.std.specs.Prelude.{◌≡◌, ℕ, List, [], All, Bool, true, false, take, drop, if◌then◌else◌}
use Rattle.vk_model.specs.Basics.{among}
use Rattle.vk_memory.specs.MemoryState.{MemoryState}
use Rattle.vma_pools.specs.State.{PoolsState, Backs}
use Rattle.vma_defrag.specs.Ends.{AllEnd, AreOfPool, MovesEnd, freed}
use Rattle.vma_defrag.specs.Plans.{AreMatched, ArePlanned}
use Rattle.vma_defrag.specs.Inner.Planned.{moves_of}
use Rattle.vma_defrag.specs.declared.open.Fate.{Fate}
use Rattle.vma_defrag.specs.declared.open.Fate.TheVariants.{Made, Kept, Lost}
use Rattle.vma_defrag.specs.declared.open.Planned.{Planned}

-- What becomes of the move of an allocation: it stays where it is ignored, else it is lost where it is destroyed, else its move is made (VMA, "Defragmentation", on `VmaDefragmentationMoveOperation`).
abbrev pub fate_in : List ℕ → List ℕ → ℕ → Fate
fate_in ignored destroyed i = if among i ignored then Kept else if among i destroyed then Lost else Made

-- The same move, with this fate where its allocation is among some.
abbrev pub marked : List ℕ → Fate → Planned → Planned
marked allocations fate p = if among p.allocation allocations then record p { fate = fate } else p

-- Each move has its fate.
abbrev pub HaveFates : List ℕ → List ℕ → List Planned → Type 0
HaveFates ignored destroyed planned = All (λ p. p.fate ≡ fate_in ignored destroyed p.allocation) planned

-- Whether a move is cancelled.
abbrev pub is_kept : Fate → Bool
is_kept Kept = true
is_kept _ = false

-- The first so many moves have ended, and the others are planned as they were.
pub record AreSettled (s : PoolsState) (m : MemoryState) (planned : List Planned) (count : ℕ) (t : PoolsState) (n : MemoryState) : Type 0 where
  pub ended : (ignored destroyed : List ℕ) → HaveFates ignored destroyed planned → (gone : List ℕ) × MovesEnd ignored s (take count (moves_of planned)) t gone × (n ≡ freed m gone)
  pub others : (pool : ℕ) → ArePlanned s pool (moves_of planned) → ArePlanned t pool (drop count (moves_of planned))
  pub listed : (pool : ℕ) (numbers : List ℕ) → ArePlanned s pool (moves_of planned) → AreOfPool s pool numbers → AreOfPool t pool numbers
  pub backs : Backs t n
  pub matched : AreMatched t

-- The first so many allocations have ended, and the others are as they were.
pub record AreEnded (s : PoolsState) (m : MemoryState) (numbers : List ℕ) (count : ℕ) (t : PoolsState) (n : MemoryState) : Type 0 where
  pub ended : (gone : List ℕ) × AllEnd s (take count numbers) t gone × (n ≡ freed m gone)
  pub others : (pool : ℕ) → AreOfPool s pool numbers → AreOfPool t pool (drop count numbers)
  pub planned : (pool : ℕ) → ArePlanned s pool [] → ArePlanned t pool []
  pub backs : Backs t n
  pub matched : AreMatched t
