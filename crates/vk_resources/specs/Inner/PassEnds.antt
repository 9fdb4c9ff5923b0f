-- What each step of the end of a pass changes of what is held.
use Rattle.std.specs.Prelude.{◌≡◌, ℕ, List, Contains, Some, None}
use Rattle.std.specs.Ordering.{nat_cmp}
use Rattle.std.specs.Map.{lookup}
use Rattle.std.specs.BTreeMap.{is_at}
use Rattle.vk_map_cache.specs.Holdings.{held_at}
use Rattle.vk_model.specs.declared.resource.Spot.{Spot}
use Rattle.vk_model.specs.World.Bytes.{in_buffer}
use Rattle.vk_backing.specs.Backed.{Backed, allocation_of, IsBacked, IsWhole, LiesIn}
use Rattle.vk_backing.specs.PassSteps.{Closes}
use Rattle.vk_backing.specs.Passing.{Passing}
use Rattle.vk_resources.specs.declared.resources.Placed.{Placed}
use Rattle.vk_resources.specs.Held.{Held, placed_in, host_at, IsInAtoms}
use Rattle.vk_resources.specs.Inner.Steps.{cached_at}

-- Nothing is held any more of some resources in cached memory, nor of their atoms; what is held of others hasn't changed (VMA, "Defragmentation"; Vulkan, "Host Access to Device Memory Objects").
pub record ForgetsEach (ids : List ℕ) (old new : Held) : Type 0 where
  pub memory : new.memory ≡ old.memory
  pub backed : new.backed ≡ old.backed
  pub resources : new.resources ≡ old.resources
  pub shapes : new.shapes ≡ old.shapes
  pub gone : (i : ℕ) (p : Placed) (k : ℕ) → Contains ids i → cached_at old i ≡ Some p → IsInAtoms p k → held_at new.cache p.object k ≡ None
  pub fewer : (number k : ℕ) → held_at old.cache number k ≡ None → held_at new.cache number k ≡ None
  pub others : (b k : ℕ) → (Contains ids b → ⊥) → host_at new (in_buffer b k) ≡ host_at old (in_buffer b k)

-- Nothing is held of the atoms of some resources, and of others (Vulkan, "Host Access to Device Memory Objects").
pub record HoldsNoneOf (s : Held) (ids more : List ℕ) : Type 0 where
  pub first : (i : ℕ) (p : Placed) (k : ℕ) → Contains ids i → cached_at s i ≡ Some p → IsInAtoms p k → held_at s.cache p.object k ≡ None
  pub second : (i : ℕ) (p : Placed) (k : ℕ) → Contains more i → cached_at s i ≡ Some p → IsInAtoms p k → held_at s.cache p.object k ≡ None

-- Some keys have no values any more, and the others those that they had.
pub record LeavesOut {V : Type 0} (old new : List (ℕ × V)) (ids : List ℕ) : Type 0 where
  pub gone : (i : ℕ) → Contains ids i → lookup (is_at (nat_cmp i)) new ≡ None
  pub others : (i : ℕ) → (Contains ids i → ⊥) → lookup (is_at (nat_cmp i)) new ≡ lookup (is_at (nat_cmp i)) old

-- A resource lies at its place in a pool, of the size that it had (VMA, "Defragmentation").
pub record LiesAnew (b : Backed) (id : ℕ) (was : Placed) (resources : List (ℕ × Placed)) : Type 0 where
  pub pool : ℕ
  pub spot : Spot
  pub lies : LiesIn b id pool spot
  pub here : placed_in resources id ≡ Some (record { size = was.size; object = spot.memory; offset = spot.offset })

-- Some resources lie where they have their places in pools, and the others where they lay (VMA, "Defragmentation").
pub record PlacesAnew (b : Backed) (ids : List ℕ) (old new : List (ℕ × Placed)) : Type 0 where
  pub moved : (i a : ℕ) (p : Placed) → Contains ids i → allocation_of b i ≡ Some a → placed_in old i ≡ Some p → LiesAnew b i p new
  pub none : (i : ℕ) → placed_in old i ≡ None → placed_in new i ≡ None
  pub others : (i : ℕ) → (Contains ids i → ⊥) → placed_in new i ≡ placed_in old i

-- The open pass has ended, and resources lie where it has put them; the destroyed ones are gone (VMA, "Defragmentation", on `vmaEndDefragmentationPass`).
pub record Settles (p q : Passing) (old new : Held) (moving ignored destroyed : List ℕ) (id : ℕ) : Type 0 where
  pub closes : Closes p q old.backed new.backed old.memory new.memory id ignored destroyed
  pub backed : IsBacked new.backed new.memory
  pub whole : IsWhole new.backed
  pub between : List (ℕ × Placed)
  pub left : LeavesOut old.resources between destroyed
  pub shapes : LeavesOut old.shapes new.shapes destroyed
  pub anew : PlacesAnew new.backed moving between new.resources
  pub cache : new.cache ≡ old.cache
