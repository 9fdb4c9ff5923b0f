-- What is allocated, passes and their moves included.
use Rattle.std.specs.Prelude.{◌≡◌, ◌==◌, ℕ, List, [], ◌∷◌, ◌++◌, Option, Some, None, not}
use Rattle.std.specs.List.{filter}
use Rattle.vk_model.specs.Memory.Allocations.{Allocated, Defragmentation, PoolMemory, Begins, after_pass, pool_by_id}
use Rattle.vma_defrag.specs.State.{DefragState}
use Rattle.vk_backing.specs.Backed.{Backed, pool_of}
use Rattle.vk_backing.specs.Allotted.{Allotted, Fulfils}
use Rattle.vk_backing.specs.Passing.{Passing, defrag_in, moves_in_pool, named_in}

-- The defragmentations of an id: the one that has begun, of the pool of this id, or none (VMA, "Defragmentation").
abbrev pub AreDefragsOf : Backed → ℕ → Option DefragState → List Defragmentation → Type 0
AreDefragsOf b id None fs = fs ≡ []
AreDefragsOf b id (Some d) fs = (pool : ℕ) × (pool_of b pool ≡ Some d.pool) × (fs ≡ record { id = id; pool = pool; max_bytes = d.max_bytes; max_moves = d.max_moves } ∷ [])

-- What is allotted and which passes there are is what is allocated: each pool has the moves of the open pass in it, and each id the same defragmentation (VMA, "Custom memory pools" and "Defragmentation").
pub record FulfilsAll (a : Allotted) (p : Passing) (d : Allocated) : Type 0 where
  pub resources : Fulfils a d
  pub moves : (id n : ℕ) (q : PoolMemory) → pool_of a.backed id ≡ Some n → pool_by_id id d ≡ Some q → q.moves ≡ named_in p.moving (moves_in_pool p n)
  pub defrags : (id : ℕ) → AreDefragsOf a.backed id (defrag_in p id) (filter (λ f. f.id == id) d.defragmentations)

-- A defragmentation is there (VMA, "Defragmentation").
abbrev pub DefragAllots : Allotted → Passing → Passing → ℕ → ℕ → ℕ → ℕ → Type 0
DefragAllots a old new id pool max_bytes max_moves =
    (d : Allocated) → FulfilsAll a old d → FulfilsAll a new (record d { defragmentations = d.defragmentations ++ record { id = id; pool = pool; max_bytes = max_bytes; max_moves = max_moves } ∷ [] })

-- A pass begins (VMA, "Defragmentation").
abbrev pub PassAllots : Allotted → Passing → Allotted → Passing → ℕ → Type 0
PassAllots old p new q id = (d : Allocated) → FulfilsAll old p d → (e : Allocated) × Begins d id e × FulfilsAll new q e

-- What is allocated stays.
abbrev pub StaysAllotted : Allotted → Passing → Allotted → Passing → Type 0
StaysAllotted old p new q = (d : Allocated) → FulfilsAll old p d → FulfilsAll new q d

-- A pass ends, with the resources that stay where they are and those that are destroyed (VMA, "Defragmentation").
abbrev pub EndAllots : Allotted → Passing → Allotted → Passing → ℕ → List ℕ → List ℕ → Type 0
EndAllots old p new q id ignored destroyed = (d : Allocated) → FulfilsAll old p d → FulfilsAll new q (after_pass id ignored destroyed d)

-- A defragmentation is there no more (VMA, "Defragmentation").
abbrev pub UndefragAllots : Allotted → Passing → Passing → ℕ → Type 0
UndefragAllots a old new id = (d : Allocated) → FulfilsAll a old d → FulfilsAll a new (record d { defragmentations = filter (λ f. not (f.id == id)) d.defragmentations })
