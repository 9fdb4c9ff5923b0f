-- What the calls on defragmentations change.
use Rattle.std.specs.Prelude.{◌≡◌, ℕ, ◌+◌, ◌%◌, ◌<◌, List, [], Contains, AllPairs, get_or, Some, None, option_map, not, true, ◌==◌}
use Rattle.std.specs.List.{filter, filter_map}
use Rattle.vk_memory.specs.MemoryState.{MemoryState, object_at, type_of}
use Rattle.vk_model.specs.declared.resource.Spot.{Spot}
use Rattle.vma_defrag.specs.State.{DefragState}
use Rattle.vma_defrag.specs.Passes.{HasBegun}
use Rattle.vma_defrag.specs.Bytes.{byte_in, no_move, CopiesPart, IsTargetByte, KeepsObjects, MovesBetween}
use Rattle.vma_defrag.specs.Ends.{HasEnded}
use Rattle.vk_backing.specs.Backed.{Backed, object_of, pool_of, allocation_of, LiesIn}
use Rattle.vk_backing.specs.Spots.{KeepsAllInfos}
use Rattle.vk_backing.specs.Passing.{Passing, defrag_in, open_defrag, open_moves, parts_left}

-- The numbers of the allocations of some resources, in their order; those that have none are left out.
abbrev pub AreNumbersOf : Backed → List ℕ → List ℕ → Type 0
AreNumbersOf b ids numbers = numbers ≡ filter_map (allocation_of b) ids

-- A defragmentation of the pool of an id has begun, with limits of bytes and moves, 0 for none; nothing else has changed (VMA, "Defragmentation", on `vmaBeginDefragmentation`).
pub record Begins (old new : Passing) (b : Backed) (id pool max_bytes max_moves : ℕ) : Type 0 where
  pub number : ℕ
  pub named : pool_of b pool ≡ Some number
  pub here : defrag_in new id ≡ Some (record { pool = number; max_bytes = max_bytes; max_moves = max_moves; current = None })
  pub others : (i : ℕ) → (i ≡ id → ⊥) → defrag_in new i ≡ defrag_in old i
  pub opened : new.opened ≡ old.opened
  pub moving : new.moving ≡ old.moving

-- What backs ids has changed in the places that are reserved alone.
pub record KeepsBacked (old new : Backed) : Type 0 where
  pub owned : new.owned ≡ old.owned
  pub numbers : new.numbers ≡ old.numbers
  pub allocations : new.allocations ≡ old.allocations
  pub keeps : (i p : ℕ) (s : Spot) → LiesIn old i p s → LiesIn new i p s
  pub infos : KeepsAllInfos old new

-- A pass of the defragmentation of an id has begun: what moves lies where it lay (VMA, "Defragmentation", on `vmaBeginDefragmentationPass`).
pub record Opens (old new : Passing) (before after : Backed) (id : ℕ) : Type 0 where
  pub was : DefragState
  pub now : DefragState
  pub there : defrag_in old id ≡ Some was
  pub here : defrag_in new id ≡ Some now
  pub others : (i : ℕ) → (i ≡ id → ⊥) → defrag_in new i ≡ defrag_in old i
  pub opened : new.opened ≡ Some id
  pub begun : HasBegun was now before.pools after.pools
  pub keeps : KeepsBacked before after

-- A resource moves in the open pass, from where it lies to where it is to lie (VMA, "Defragmentation", on `VmaDefragmentationMove`).
pub record MovesAt (p : Passing) (b : Backed) (index id : ℕ) (from to : Spot) : Type 0 where
  pub its : get_or p.moving index 0 ≡ id
  pub pool : ℕ
  pub lies : LiesIn b id pool from
  pub between : MovesBetween b.pools (get_or (open_moves p) index no_move).id from to

-- A part of the open pass was copied: the defragmentations are of the same pools, only bytes of the places that are reserved for what moves have changed, no byte of a resource where it lies, and no memory object that an id has of its own (VMA, "Defragmentation"; parts: profile).
pub record Copies (old new : Passing) (b : Backed) (part : ℕ) (before after : MemoryState) : Type 0 where
  pub moves : open_moves new ≡ open_moves old
  pub left : parts_left new ≡ filter (λ k. not (k == part)) (parts_left old)
  pub pools : (i : ℕ) → option_map (λ d. d.pool) (defrag_in new i) ≡ option_map (λ d. d.pool) (defrag_in old i)
  pub opened : new.opened ≡ old.opened
  pub moving : new.moving ≡ old.moving
  pub copies : CopiesPart b.pools (open_moves old) part before after
  pub objects : KeepsObjects before after
  pub rest : (n k : ℕ) → (IsTargetByte b.pools (open_moves old) (λ m. true) n k → ⊥) → byte_in after n k ≡ byte_in before n k
  pub bytes : (i p : ℕ) (s : Spot) (k : ℕ) → LiesIn b i p s → k < s.size → byte_in after s.memory (s.offset + k) ≡ byte_in before s.memory (s.offset + k)
  pub own : (i x : ℕ) → object_of b i ≡ Some x → object_at after x ≡ object_at before x

-- A resource has the bytes of its allocation where it lay and where it lies, in memory of the same type; on type 2 it begins with an atom if it did (VMA, "Defragmentation"; atoms: profile).
pub record HasBytes (before : MemoryState) (from : Spot) (after : MemoryState) (to : Spot) : Type 0 where
  pub size : to.size ≡ from.size
  pub bytes : (k : ℕ) → k < from.size → byte_in after to.memory (to.offset + k) ≡ byte_in before from.memory (from.offset + k)
  pub kind : type_of after to.memory ≡ type_of before from.memory
  pub aligned : type_of before from.memory ≡ 2 → from.offset % 64 ≡ 0 → to.offset % 64 ≡ 0

-- The resources that are destroyed at the end of a pass: each is in the pool of its defragmentation, once (VMA, "Defragmentation").
pub record AreDestroyed (p : Passing) (b : Backed) (ids : List ℕ) : Type 0 where
  pub each : (i : ℕ) → Contains ids i → (d : DefragState) × (spot : Spot) × (open_defrag p ≡ Some d) × LiesIn b i d.pool spot
  pub once : AllPairs (λ i j. i ≡ j → ⊥) ids

-- The open pass of the defragmentation of an id has ended: the destroyed resources are gone, and any other has its bytes, where it lies now; memory objects that ids have of their own are as they were (VMA, "Defragmentation", on `vmaEndDefragmentationPass`).
pub record Closes (old new : Passing) (before after : Backed) (m n : MemoryState) (id : ℕ) (ignored destroyed : List ℕ) : Type 0 where
  pub opened : old.opened ≡ Some id
  pub was : DefragState
  pub there : defrag_in old id ≡ Some was
  pub here : defrag_in new id ≡ Some (record was { current = None })
  pub others : (i : ℕ) → (i ≡ id → ⊥) → defrag_in new i ≡ defrag_in old i
  pub none_open : new.opened ≡ None
  pub none_moving : new.moving ≡ []
  pub owned : after.owned ≡ before.owned
  pub numbers : after.numbers ≡ before.numbers
  pub gone : (i : ℕ) → Contains destroyed i → allocation_of after i ≡ None
  pub allocations : (i : ℕ) → (Contains destroyed i → ⊥) → allocation_of after i ≡ allocation_of before i
  pub kept : List ℕ
  pub lost : List ℕ
  pub kept_are : AreNumbersOf before ignored kept
  pub lost_are : AreNumbersOf before destroyed lost
  pub freed : List ℕ
  pub ended : HasEnded (open_moves old) before.pools after.pools m n kept lost freed
  pub bytes : (i p : ℕ) (from : Spot) → (Contains destroyed i → ⊥) → LiesIn before i p from → (to : Spot) × LiesIn after i p to × HasBytes m from n to
  pub stays : (i p : ℕ) (from : Spot) → (Contains destroyed i → ⊥) → (Contains old.moving i → ⊥) → LiesIn before i p from → LiesIn after i p from
  pub objects : (i x : ℕ) → object_of before i ≡ Some x → object_at n x ≡ object_at m x
  pub infos : KeepsAllInfos before after
