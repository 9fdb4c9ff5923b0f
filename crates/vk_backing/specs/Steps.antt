-- What each call changes of what backs ids.
use Rattle.std.specs.Prelude.{◌≡◌, ℕ, ◌+◌, ◌^◌, ◌==◌, ◌%◌, [], ◌∷◌, ◌++◌, length, set, max, nat_lt, Bool, not, if◌then◌else◌, Option, Some, None, IsTrue, ⊤}
use Rattle.std.specs.List.{filter}
use Rattle.vk_memory.specs.declared.memories.Object.{Object}
use Rattle.vk_memory.specs.MemoryState.{MemoryState, IsFull, fresh, object_at, type_of}
use Rattle.vk_model.specs.declared.resource.PoolInfo.{PoolInfo}
use Rattle.vk_model.specs.declared.resource.Spot.{Spot}
use Rattle.vk_model.specs.Trace.Objects.{Resource}
use Rattle.vk_model.specs.Memory.Room.{no_object}
use Rattle.vk_model.specs.Memory.Pools.{empty_pool}
use Rattle.vk_model.specs.Memory.Allocations.{Allocated, FindsNoneIn, GetsIn, heaps_of, with_object, without}
use Rattle.vma_pools.specs.declared.pool.PoolPlace.{PoolPlace}
use Rattle.vma_pools.specs.declared.allocations.Asked.{Asked}
use Rattle.vma_pools.specs.declared.allocations.Allocation.{Allocation}
use Rattle.vma_pools.specs.Pools.{Kept}
use Rattle.vma_pools.specs.State as pools
use Rattle.vma_pools.specs.State.{PoolsState, IfLive, IsOwn, IsEnded, released, with_allocation}
use Rattle.vk_backing.specs.declared.backing.Own.{Own}
use Rattle.vk_backing.specs.Backed.{Backed, own_in, object_of, dedicated_of, pool_of, allocation_of, mapping_of, info_by, allocation_by, LiesIn}
use Rattle.vk_backing.specs.Spots.{KeepsSpots, KeepsInfos, KeepsAllInfos}
use Rattle.vk_backing.specs.Allotted.{Allotted, Fulfils}

-- Memory objects stay as they are, but for new ones.
abbrev pub Grows : MemoryState → MemoryState → Type 0
Grows before after = (n : ℕ) (o : Object) → object_at before n ≡ Some o → object_at after n ≡ Some o

-- ---- memory objects of ids

-- An id has a new memory object of its own, and nothing else has changed (Vulkan, "Device Memory"; VMA, "Dedicated allocations").
pub record Owns (old new : Backed) (before after : MemoryState) (id t size n : ℕ) : Type 0 where
  pub number : n ≡ length before.objects
  pub memory : after ≡ record before { objects = before.objects ++ Some (fresh t size) ∷ [] }
  pub here : object_of new id ≡ Some n
  pub others : (i : ℕ) → (i ≡ id → ⊥) → object_of new i ≡ object_of old i
  pub mapped : (i : ℕ) → (i ≡ id → ⊥) → dedicated_of new i ≡ dedicated_of old i
  pub numbers : new.numbers ≡ old.numbers
  pub allocations : new.allocations ≡ old.allocations
  pub keeps : KeepsSpots old new id
  pub infos : KeepsAllInfos old new

-- A memory object was made for an id, and this is its number; or nothing has changed, exactly where there is no room for it.
abbrev pub OwnsOr : Option ℕ → Backed → Backed → MemoryState → MemoryState → ℕ → ℕ → ℕ → Type 0
OwnsOr (Some n) old new before after id t size = Owns old new before after id t size n × (IsFull before t size → ⊥)
OwnsOr None old new before after id t size = (new ≡ old) × (after ≡ before) × IsFull before t size

-- A memory object that was made is no allocation's, and allocations and pools are what they were (Vulkan, "Device Memory").
abbrev pub OwnsAlone : Option ℕ → Backed → Backed → ℕ → Type 0
OwnsAlone (Some n) old new id = (dedicated_of new id ≡ None) × (new.pools ≡ old.pools)
OwnsAlone None old new id = ⊤

-- A memory object that was made is that of a new allocation, which is the id's (VMA, "Dedicated allocations").
abbrev pub OwnsDedicated : Option ℕ → Backed → Backed → MemoryState → MemoryState → ℕ → ℕ → Asked → Type 0
OwnsDedicated (Some n) old new before after id t asked = (a : ℕ) × (dedicated_of new id ≡ Some a) × IsOwn old.pools new.pools before after t asked a
OwnsDedicated None old new before after id t asked = ⊤

-- ---- pools

-- An id has a new pool without blocks, and nothing else has changed (VMA, "Custom memory pools").
pub record MakesPool (old new : Backed) (id : ℕ) (info : PoolInfo) : Type 0 where
  pub pools : new.pools ≡ record old.pools { pools = old.pools.pools ++ Some (record { pool = empty_pool info; memories = [] }) ∷ [] }
  pub here : pool_of new id ≡ Some (length old.pools.pools)
  pub others : (i : ℕ) → (i ≡ id → ⊥) → pool_of new i ≡ pool_of old i
  pub owned : new.owned ≡ old.owned
  pub allocations : new.allocations ≡ old.allocations
  pub keeps : (i p : ℕ) (s : Spot) → LiesIn old i p s → LiesIn new i p s
  pub made_with : info_by new id ≡ Some info
  pub infos : KeepsInfos old new id

-- The pool of an id has ended, which had no blocks, and nothing else has changed (VMA, "Custom memory pools").
pub record DropsPool (old new : Backed) (id : ℕ) : Type 0 where
  pub number : ℕ
  pub named : pool_of old id ≡ Some number
  pub kept : Kept
  pub there : pools.pool_at old.pools number ≡ Some kept
  pub empty : kept.pool.blocks ≡ []
  pub pools : new.pools ≡ record old.pools { pools = set old.pools.pools number None }
  pub gone : pool_of new id ≡ None
  pub others : (i : ℕ) → (i ≡ id → ⊥) → pool_of new i ≡ pool_of old i
  pub owned : new.owned ≡ old.owned
  pub allocations : new.allocations ≡ old.allocations
  pub keeps : (i p : ℕ) (s : Spot) → LiesIn old i p s → LiesIn new i p s
  pub no_info : info_by new id ≡ None
  pub infos : KeepsInfos old new id

-- No resource lies in the pool of an id (Vulkan, "Object Lifetime").
abbrev pub IsUnused : Backed → ℕ → Type 0
IsUnused b id = (p r : ℕ) (a : Allocation) (place : PoolPlace) → pool_of b id ≡ Some p → allocation_by b r ≡ Some a → pools.shared_place a.home ≡ Some (p, place) → ⊥

-- ---- resources in pools

-- What a resource asks of blocks on a memory type: on type 2 an alignment of at least 64, so that no two buffers share an atom (Vulkan, "Resource Memory Association"; 64: profile).
abbrev pub asked_on : ℕ → Asked → Asked
asked_on t asked = record asked { align = if t == 2 then max 64 asked.align else asked.align }

-- A resource has got a place in the pool of an id, and nothing else has changed (VMA, "Custom memory pools").
pub record Shares (old new : Backed) (before after : MemoryState) (id pool : ℕ) (asked : Asked) (upper : Bool) (spot : Spot) : Type 0 where
  pub number : ℕ
  pub named : pool_of old pool ≡ Some number
  pub kept : Kept
  pub there : pools.pool_at old.pools number ≡ Some kept
  pub allocation : ℕ
  pub here : allocation_of new id ≡ Some allocation
  pub others : (i : ℕ) → (i ≡ id → ⊥) → allocation_of new i ≡ allocation_of old i
  pub owned : new.owned ≡ old.owned
  pub numbers : new.numbers ≡ old.numbers
  pub shared : pools.IsShared old.pools new.pools before after number (asked_on kept.pool.info.memory_type asked) upper allocation
  pub lies : LiesIn new id number spot
  pub size : spot.size ≡ asked.size
  pub kind : type_of after spot.memory ≡ kept.pool.info.memory_type
  pub aligned : kept.pool.info.memory_type ≡ 2 → spot.offset % 64 ≡ 0
  pub keeps : KeepsSpots old new id
  pub infos : KeepsAllInfos old new

-- A resource has got a place, and this is where it lies; or nothing has changed.
abbrev pub SharesOr : Option Spot → Backed → Backed → MemoryState → MemoryState → ℕ → ℕ → Asked → Bool → Type 0
SharesOr (Some spot) old new before after id pool asked upper = Shares old new before after id pool asked upper spot
SharesOr None old new before after id pool asked upper = (new ≡ old) × (after ≡ before)

-- ---- the end of a memory object or of a resource

-- A memory object of an id's own has ended, and with it its allocation, where it is that of one (Vulkan, "Object Lifetime"; VMA, "Dedicated allocations").
abbrev pub EndsOwn : ℕ → Option ℕ → PoolsState → PoolsState → Option ℕ → Type 0
EndsOwn n None old new gone = (gone ≡ Some n) × (new ≡ old)
EndsOwn n (Some a) old new gone = (gone ≡ Some n) × IfLive old a (λ x. IsEnded old new a x.home gone)

-- What an id had has ended: its memory object, its allocation in a pool, or nothing (Vulkan, "Object Lifetime").
abbrev pub EndsIn : Option Own → Option ℕ → PoolsState → PoolsState → Option ℕ → Type 0
EndsIn (Some o) a old new gone = EndsOwn o.object o.allocation old new gone
EndsIn None (Some a) old new gone = IfLive old a (λ x. IsEnded old new a x.home gone)
EndsIn None None old new gone = (gone ≡ None) × (new ≡ old)

-- An id has no memory object and no allocation any more, the memory object that nothing needs any more is freed, and nothing else has changed (Vulkan, "Object Lifetime"; VMA, "Custom memory pools").
pub record Releases (old new : Backed) (before after : MemoryState) (id : ℕ) (gone : Option ℕ) : Type 0 where
  pub memory : after ≡ released before gone
  pub no_object : object_of new id ≡ None
  pub objects : (i : ℕ) → (i ≡ id → ⊥) → object_of new i ≡ object_of old i
  pub no_allocation : allocation_of new id ≡ None
  pub allocations : (i : ℕ) → (i ≡ id → ⊥) → allocation_of new i ≡ allocation_of old i
  pub mapped : (i : ℕ) → (i ≡ id → ⊥) → dedicated_of new i ≡ dedicated_of old i
  pub numbers : new.numbers ≡ old.numbers
  pub keeps : KeepsSpots old new id
  pub infos : KeepsAllInfos old new
  pub ends : EndsIn (own_in old.owned id) (allocation_of old id) old.pools new.pools gone

-- ---- mappings

-- One more, where a count of 32 bits has room for it (VMA, "Memory mapping", on counting).
abbrev pub one_more : ℕ → ℕ
one_more n = if nat_lt (n + 1) (2 ^ 32) then n + 1 else n

-- How often an allocation is mapped has changed, and nothing else has; nothing at all where there is none (VMA, "Memory mapping").
abbrev pub Counts : Option ℕ → (ℕ → ℕ) → Backed → Backed → Type 0
Counts None change old new = new ≡ old
Counts (Some a) change old new = IfLive old.pools a (λ x. new ≡ record old { pools = with_allocation old.pools a (record x { maps = change x.maps }) })

-- The allocation of an id is mapped as often as the change says, if it has one, and nothing else has changed (VMA, "Memory mapping").
pub record Maps (old new : Backed) (id : ℕ) (change : ℕ → ℕ) : Type 0 where
  pub counts : Counts (mapping_of old id) change old new
  pub owned : new.owned ≡ old.owned
  pub numbers : new.numbers ≡ old.numbers
  pub allocations : new.allocations ≡ old.allocations
  pub keeps : (i p : ℕ) (s : Spot) → LiesIn old i p s → LiesIn new i p s
  pub infos : KeepsAllInfos old new

-- ---- what is allocated then

-- A new memory object of an id is allocated, where one can be made; else none can (Vulkan, "Device Memory").
abbrev pub OwnAllots : Option ℕ → Allotted → Allotted → ℕ → ℕ → ℕ → Type 0
OwnAllots (Some n) old new id t size = (d : Allocated) → Fulfils old d → (IsTrue (no_object (heaps_of d) t size) → ⊥) × Fulfils new (with_object id t size d)
OwnAllots None old new id t size = (d : Allocated) → Fulfils old d → IsTrue (no_object (heaps_of d) t size)

-- A resource asks this.
abbrev pub Asks : Resource → Asked → Type 0
Asks r asked = (r.size ≡ asked.size) × (r.align ≡ asked.align) × (r.kind ≡ asked.kind)

-- A resource gets a place in a pool, where there is room; else it finds none (VMA, "Custom memory pools").
abbrev pub ShareAllots : Option Spot → Allotted → Allotted → ℕ → ℕ → Resource → Bool → Type 0
ShareAllots (Some spot) old new id pool r upper = (d : Allocated) → Fulfils old d → (FindsNoneIn d pool r upper → ⊥) × ((e : Allocated) × GetsIn d id r pool upper e × Fulfils new e)
ShareAllots None old new id pool r upper = (d : Allocated) → Fulfils old d → FindsNoneIn d pool r upper

-- What an id had is allocated no more (Vulkan, "Object Lifetime").
abbrev pub ReleaseAllots : Allotted → Allotted → ℕ → Type 0
ReleaseAllots old new id = (d : Allocated) → Fulfils old d → Fulfils new (without id d)

-- What is allocated stays.
abbrev pub KeepsAllotted : Allotted → Allotted → Type 0
KeepsAllotted old new = (d : Allocated) → Fulfils old d → Fulfils new d

-- A pool is there (VMA, "Custom memory pools").
abbrev pub PoolAllots : Allotted → Allotted → ℕ → PoolInfo → Type 0
PoolAllots old new id info = (d : Allocated) → Fulfils old d → Fulfils new (record d { pools = d.pools ++ record { id = id; pool = empty_pool info; residents = []; moves = [] } ∷ [] })

-- A pool is there no more (VMA, "Custom memory pools").
abbrev pub DropAllots : Allotted → Allotted → ℕ → Type 0
DropAllots old new id = (d : Allocated) → Fulfils old d → Fulfils new (record d { pools = filter (λ q. not (q.id == id)) d.pools })
