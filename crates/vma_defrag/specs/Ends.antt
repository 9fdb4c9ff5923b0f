-- What a pass ends with.
use Rattle.std.specs.Prelude.{◌≡◌, ℕ, ◌+◌, ◌<◌, List, [], ◌∷◌, ◌++◌, AllPairs, Contains, Bool, true, false, not, ◌&&◌, Option, Some, None}
use Rattle.vk_model.specs.Basics.{among}
use Rattle.vk_model.specs.declared.resource.Spot.{Spot}
use Rattle.vk_model.specs.Memory.MoveTargets.{Moved}
use Rattle.vk_memory.specs.MemoryState.{MemoryState, with_object}
use Rattle.vma_pools.specs.declared.pool.PoolPlace.{PoolPlace}
use Rattle.vma_pools.specs.declared.allocations.Allocation.{Allocation}
use Rattle.vma_pools.specs.State.{PoolsState, allocation_at, shared_place, IfLive, IsEnded, IsSpotOf}
use Rattle.vma_pools.specs.Moves.{IsCancelled, IsRebound}
use Rattle.vma_defrag.specs.Bytes.{byte_in, AreAllCopied}

-- Whether a move is made when its pass ends: its allocation is neither ignored nor destroyed (VMA, "Defragmentation", on `VmaDefragmentationMoveOperation`).
abbrev pub is_made : (ignored destroyed : List ℕ) → Moved → Bool
is_made ignored destroyed m = not (among m.id ignored) && not (among m.id destroyed)

-- The allocations are live ones of a pool, each once (VMA, "Defragmentation").
pub record AreOfPool (s : PoolsState) (pool : ℕ) (numbers : List ℕ) : Type 0 where
  pub each : (i : ℕ) → Contains numbers i → IfLive s i (λ a. (place : PoolPlace) × (shared_place a.home ≡ Some (pool, place)))
  pub once : AllPairs (λ i j. i ≡ j → ⊥) numbers

-- A memory object that has gone, if there is one.
abbrev pub listed : Option ℕ → List ℕ
listed None = []
listed (Some n) = n ∷ []

-- A move was cancelled, where that is to be, or made; and with the place that was given back its block may have gone (VMA, "Defragmentation").
abbrev pub Settles : Bool → PoolsState → Moved → PoolsState → Option ℕ → Allocation → Type 0
Settles true s m t gone a = IsCancelled s t m.id a a.home a.target gone
Settles false s m t gone a = IsRebound s t m.id a a.home a.target gone

-- A move has ended: it was cancelled where its allocation is ignored, else it was made (VMA, "Defragmentation").
abbrev pub MoveEnds : List ℕ → PoolsState → Moved → PoolsState → Option ℕ → Type 0
MoveEnds ignored s m t gone = IfLive s m.id (Settles (among m.id ignored) s m t gone)

-- Moves have ended, one after another; with the memory objects that have gone.
abbrev pub MovesEnd : List ℕ → PoolsState → List Moved → PoolsState → List ℕ → Type 0
MovesEnd ignored s [] t gone = (t ≡ s) × (gone ≡ [])
MovesEnd ignored s (m ∷ ms) t gone = (mid : PoolsState) × (one : Option ℕ) × (rest : List ℕ) × MoveEnds ignored s m mid one × MovesEnd ignored mid ms t rest × (gone ≡ listed one ++ rest)

-- Allocations have ended, one after another; with the memory objects that have gone (Vulkan, "Object Lifetime").
abbrev pub AllEnd : PoolsState → List ℕ → PoolsState → List ℕ → Type 0
AllEnd s [] t gone = (t ≡ s) × (gone ≡ [])
AllEnd s (i ∷ is) t gone = (mid : PoolsState) × (one : Option ℕ) × (rest : List ℕ) × IfLive s i (λ a. IsEnded s mid i a.home one) × AllEnd mid is t rest × (gone ≡ listed one ++ rest)

-- Memory without some objects (Vulkan, "Device Memory").
abbrev pub freed : MemoryState → List ℕ → MemoryState
freed m [] = m
freed m (n ∷ ns) = freed (with_object m n None) ns

-- A pass has ended: what was left of the moves that are made was copied, then all moves ended, and then the destroyed allocations (VMA, "Defragmentation", on `vmaEndDefragmentationPass`).
pub record HasEnded (moves : List Moved) (before after : PoolsState) (memory new : MemoryState) (ignored destroyed gone : List ℕ) : Type 0 where
  pub copied : MemoryState
  pub copies : AreAllCopied before moves (is_made ignored destroyed) memory copied
  pub settled : PoolsState
  pub by_moves : List ℕ
  pub ended : MovesEnd ignored before moves settled by_moves
  pub by_ends : List ℕ
  pub ends : AllEnd settled destroyed after by_ends
  pub gone_are : gone ≡ by_moves ++ by_ends
  pub freed_are : new ≡ freed copied gone

-- The allocations that live on have the bytes that they had, wherever they lie now (VMA, "Defragmentation").
abbrev pub KeepsBytes : PoolsState → MemoryState → PoolsState → MemoryState → Type 0
KeepsBytes s m t n =
    (i : ℕ) (a b : Allocation) (from to : Spot) (at : ℕ) → allocation_at s i ≡ Some a → IsSpotOf s a.home a.asked from → allocation_at t i ≡ Some b → IsSpotOf t b.home b.asked to → at < a.asked.size
    → byte_in n to.memory (to.offset + at) ≡ byte_in m from.memory (from.offset + at)
