-- The defragmentations of a device, and which of them has an open pass.
use Rattle.std.specs.Prelude.{◌≡◌, ◌==◌, ℕ, ◌<◌, List, [], ◌∷◌, Contains, length, get_or, if◌then◌else◌, Option, Some, None, IsSome}
use Rattle.std.specs.Option.{option_and_then}
use Rattle.std.specs.Ordering.{nat_cmp}
use Rattle.std.specs.Map.{lookup}
use Rattle.std.specs.BTreeMap.{is_at}
use Rattle.vk_model.specs.declared.resource.PoolKind.TheVariants as algorithm
use Rattle.vk_model.specs.Memory.MoveTargets.{Moved}
use Rattle.vk_memory.specs.MemoryState.{MemoryState}
use Rattle.vma_pools.specs.Pools.{Kept}
use Rattle.vma_pools.specs.State.{pool_at}
use Rattle.vma_defrag.specs.State.{DefragState, left_in, moves_in}
use Rattle.vma_defrag.specs.Plans.{ArePlanned}
use Rattle.vma_defrag.specs.Bytes.{no_move, AreCopied}
use Rattle.vk_backing.specs.Backed.{Backed, allocation_of, pool_of}

-- The defragmentations that have begun, by their ids; the id of the one whose pass is open; and the ids of the resources that move in it, in the order of its moves (VMA, "Defragmentation").
pub record Passing : Type 0 where
  pub defrags : List (ℕ × DefragState)
  pub opened : Option ℕ
  pub moving : List ℕ

-- The defragmentation of an id.
abbrev pub defrag_in : Passing → ℕ → Option DefragState
defrag_in p id = lookup (is_at (nat_cmp id)) p.defrags

-- The one whose pass is open.
abbrev pub open_defrag : Passing → Option DefragState
open_defrag p = option_and_then (defrag_in p) p.opened

-- The moves of a defragmentation, if there is one.
abbrev pub moves_by : Option DefragState → List Moved
moves_by None = []
moves_by (Some d) = moves_in d.current

-- The parts of its moves that are left.
abbrev pub left_by : Option DefragState → List ℕ
left_by None = []
left_by (Some d) = left_in d.current

-- The moves of the open pass, each of an allocation by its number.
abbrev pub open_moves : Passing → List Moved
open_moves p = moves_by (open_defrag p)

-- The parts of the open pass that are left to be copied.
abbrev pub parts_left : Passing → List ℕ
parts_left p = left_by (open_defrag p)

-- The moves in the pool of a number.
abbrev pub moves_on : ℕ → Option DefragState → List Moved
moves_on n None = []
moves_on n (Some d) = if d.pool == n then moves_in d.current else []

-- The moves of the open pass in the pool of a number; none where the pass is of another pool.
abbrev pub moves_in_pool : Passing → ℕ → List Moved
moves_in_pool p n = moves_on n (open_defrag p)

-- A defragmentation is of a live pool that an id has, and that can be defragmented (VMA, "Defragmentation").
pub record IsDefragOf (b : Backed) (d : DefragState) : Type 0 where
  pub kept : Kept
  pub there : pool_at b.pools d.pool ≡ Some kept
  pub general : kept.pool.info.kind ≡ algorithm.Tlsf
  pub id : ℕ
  pub named : pool_of b id ≡ Some d.pool

-- The moves of the open pass are of the resources of these ids.
pub record AreMovers (b : Backed) (ids : List ℕ) (moves : List Moved) : Type 0 where
  pub long : length ids ≡ length moves
  pub each : (k : ℕ) → k < length moves → allocation_of b (get_or ids k 0) ≡ Some (get_or moves k no_move).id

-- What always holds of defragmentations beside what backs ids: one pass is open at most, and the places that are reserved in pools are the targets of its moves (VMA, "Defragmentation"; one at most: profile).
pub record ArePassing (p : Passing) (b : Backed) : Type 0 where
  pub pools : (i : ℕ) (d : DefragState) → defrag_in p i ≡ Some d → IsDefragOf b d
  pub closed : (i : ℕ) (d : DefragState) → defrag_in p i ≡ Some d → (p.opened ≡ Some i → ⊥) → d.current ≡ None
  pub opened : (i : ℕ) → p.opened ≡ Some i → (d : DefragState) × (defrag_in p i ≡ Some d) × IsSome d.current
  pub planned : (n : ℕ) → ArePlanned b.pools n (moves_in_pool p n)
  pub movers : AreMovers b p.moving (open_moves p)

-- A resource moves in the open pass.
abbrev pub IsMoving : Passing → ℕ → Type 0
IsMoving p id = Contains p.moving id

-- The parts of the open pass that aren't left have been copied: their bytes are the same at both places (VMA, "Defragmentation").
abbrev pub CopiesAgree : Passing → Backed → MemoryState → Type 0
CopiesAgree p b m = AreCopied b.pools m (open_moves p) (parts_left p)

-- A move of a resource by its id.
abbrev pub named_move : ℕ → Moved → Moved
named_move id m = record m { id = id }

-- Moves, each of a resource by its id.
abbrev pub named_in : List ℕ → List Moved → List Moved
named_in [] ms = []
named_in (i ∷ is) [] = []
named_in (i ∷ is) (m ∷ ms) = named_move i m ∷ named_in is ms

-- The moves of the open pass, each of a resource by its id.
abbrev pub named_moves : Passing → List Moved
named_moves p = named_in p.moving (open_moves p)
