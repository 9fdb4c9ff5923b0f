-- Pools and allocations, as they are seen.
use Rattle.std.specs.Prelude.{◌≡◌, ℕ, ◌<◌, ◌≤◌, List, [], ◌∷◌, ◌++◌, length, set, Bool, true, false, Option, Some, None, option_map, IsSomeAnd, slice_index_or, get_or}
use Rattle.vk_model.specs.Memory.Suballocation.{Request, IsRequest, IsApart, Taken, taken_at}
use Rattle.vk_model.specs.declared.resource.PoolKind.TheVariants as algorithm
use Rattle.vk_model.specs.Memory.MoveTargets.{BlockStart}
use Rattle.vk_model.specs.Memory.Pools.{pool_without}
use Rattle.vk_memory.specs.MemoryState.{MemoryState, region_of, type_of, fresh, with_object}
use Rattle.vma_pools.specs.declared.pool.PoolPlace.{PoolPlace}
use Rattle.vma_pools.specs.declared.allocations.Asked.{Asked}
use Rattle.vma_pools.specs.declared.allocations.Home.{Home}
use Rattle.vma_pools.specs.declared.allocations.Home.TheVariants as home
use Rattle.vma_pools.specs.declared.allocations.Allocation.{Allocation}
use Rattle.vma_pools.specs.Alike.{IsAlikePool}
use Rattle.vma_pools.specs.Pools.{Kept, Takes, Loses, KeepsBlocks, IsMemoryOf, HasNoTarget, HasTarget, TakesTarget}
use Rattle.vk_model.specs.declared.resource.Spot.{Spot}
use Rattle.vma_pools.specs.Inner.Kinds.{IsKeptPool}
use Rattle.vma_pools.specs.Ranges.{HasRange}

-- Each pool and each allocation that was made, by their numbers, which rise and are never given again; none where it has ended (VMA, "Custom memory pools"; numbers: profile).
pub record PoolsState : Type 0 where
  pub pools : List (Option Kept)
  pub allocations : List (Option Allocation)

-- The pool of a number; none where it has ended or was never made.
abbrev pub pool_at : PoolsState → ℕ → Option Kept
pool_at s p = slice_index_or s.pools p None

-- The allocation of a number; none where it has ended or was never made.
abbrev pub allocation_at : PoolsState → ℕ → Option Allocation
allocation_at s a = slice_index_or s.allocations a None

-- A place as the definitions have it.
abbrev pub start_of : PoolPlace → BlockStart
start_of s = record { block = s.block; start = s.start }

-- What an allocation asks, as a request.
abbrev pub request_in : Asked → Request
request_in r = record { size = r.size; align = r.align; kind = r.kind }

-- The range that an allocation has at a start.
abbrev pub range_at : ℕ → Asked → Taken
range_at start r = taken_at start (request_in r)

-- ---- ranges of pools

-- The place that an allocation has in a pool, by the pool's number.
abbrev pub shared_place : Home → Option (ℕ × PoolPlace)
shared_place (home.Own m) = None
shared_place (home.Shared p s) = Some (p, s)

-- The place that is reserved for it there.
abbrev pub reserved_place : Home → Option PoolPlace → Option (ℕ × PoolPlace)
reserved_place (home.Own m) t = None
reserved_place (home.Shared p s) t = option_map (λ u. (p, u)) t

-- A place that an allocation takes of a pool: its own, or the one that is reserved for it.
abbrev pub held_place : Bool → Allocation → Option (ℕ × PoolPlace)
held_place false a = shared_place a.home
held_place true a = reserved_place a.home a.target

-- A place in a pool is taken for an allocation: its own, or the one that is reserved for it (VMA, "Custom memory pools" and "Defragmentation").
pub record IsHeld (s : PoolsState) (i : ℕ) (reserved : Bool) (pool : ℕ) (place : PoolPlace) (asked : Asked) : Type 0 where
  pub allocation : Allocation
  pub live : allocation_at s i ≡ Some allocation
  pub there : held_place reserved allocation ≡ Some (pool, place)
  pub asks : allocation.asked ≡ asked

-- What always holds: pools are so; the ranges that are taken in them are those of allocations, one each; and no more blocks were made than allocations.
pub record ArePools (s : PoolsState) : Type 0 where
  pub pools : (p : ℕ) (k : Kept) → pool_at s p ≡ Some k → IsKeptPool k.pool
  pub blocks : (p : ℕ) (k : Kept) → pool_at s p ≡ Some k → k.pool.next ≤ length s.allocations
  pub requests : (i : ℕ) (a : Allocation) → allocation_at s i ≡ Some a → IsRequest a.asked.size a.asked.align
  pub taken : (i : ℕ) (r : Bool) (p : ℕ) (place : PoolPlace) (asked : Asked) → IsHeld s i r p place asked → (k : Kept) × (pool_at s p ≡ Some k) × HasRange k.pool place.block (range_at place.start asked)
  pub held : (p : ℕ) (k : Kept) (n : ℕ) (t : Taken) → pool_at s p ≡ Some k → HasRange k.pool n t → (i : ℕ) × (r : Bool) × (place : PoolPlace) × (asked : Asked) × IsHeld s i r p place asked × (place.block ≡ n) × (place.start ≡ t.start)
  pub one : (i j : ℕ) (r v : Bool) (p : ℕ) (place : PoolPlace) (asked other : Asked) → IsHeld s i r p place asked → IsHeld s j v p place other → (i ≡ j) × (r ≡ v)

-- No two places in one block of a pool conflict that are taken for allocations (Vulkan, "Resource Memory Association", on memory aliasing; VMA, "Custom memory pools").
abbrev pub ArePlacesApart : PoolsState → Type 0
ArePlacesApart s =
    (i j : ℕ) (r v : Bool) (p : ℕ) (place other : PoolPlace) (a b : Asked) → IsHeld s i r p place a → IsHeld s j v p other b → place.block ≡ other.block
    → ((i ≡ j) × (r ≡ v) → ⊥) → IsApart (range_at place.start a) (range_at other.start b)

-- ---- what calls are asked, and what they do

-- Of a pool that is live.
abbrev pub IfKept : PoolsState → ℕ → (Kept → Type 0) → Type 0
IfKept s p P = IsSomeAnd (pool_at s p) P

-- Of an allocation that is live.
abbrev pub IfLive : PoolsState → ℕ → (Allocation → Type 0) → Type 0
IfLive s i P = IsSomeAnd (allocation_at s i) P

-- No allocation takes a place of the pool (Vulkan, "Object Lifetime"; VMA, "Custom memory pools").
abbrev pub IsUnused : PoolsState → ℕ → Type 0
IsUnused s p = (i : ℕ) (reserved : Bool) (place : PoolPlace) (asked : Asked) → IsHeld s i reserved p place asked → ⊥

-- With another allocation of a number.
abbrev pub with_allocation : PoolsState → ℕ → Allocation → PoolsState
with_allocation s i a = record s { allocations = set s.allocations i (Some a) }

-- A new allocation, which isn't mapped.
abbrev pub new_allocation : Home → Asked → Allocation
new_allocation h asked = record { home = h; asked = asked; maps = 0; target = None }

-- With one more allocation.
abbrev pub with_more : PoolsState → Allocation → PoolsState
with_more s a = record s { allocations = s.allocations ++ Some a ∷ [] }

-- An allocation was put in a new memory object of its own (VMA, "Dedicated allocations").
pub record IsOwn (old new : PoolsState) (before after : MemoryState) (memory_type : ℕ) (asked : Asked) (i : ℕ) : Type 0 where
  pub number : i ≡ length old.allocations
  pub state : new ≡ with_more old (new_allocation (home.Own (length before.objects)) asked)
  pub object : after ≡ record before { objects = before.objects ++ Some (fresh memory_type asked.size) ∷ [] }

-- An allocation was put in a pool, at a place that the pool gives (VMA, "Custom memory pools").
pub record IsShared (old new : PoolsState) (before after : MemoryState) (pool : ℕ) (asked : Asked) (upper : Bool) (i : ℕ) : Type 0 where
  pub place : PoolPlace
  pub was : Kept
  pub now : Kept
  pub there : pool_at old pool ≡ Some was
  pub takes : Takes was now before after (request_in asked) upper (start_of place)
  pub number : i ≡ length old.allocations
  pub state : new ≡ with_more (record old { pools = set old.pools pool (Some now) }) (new_allocation (home.Shared pool place) asked)

-- The memory object of a number is one of this type and size.
pub record IsObject (m : MemoryState) (number memory_type size : ℕ) : Type 0 where
  pub bytes : length (region_of m number) ≡ size
  pub kind : type_of m number ≡ memory_type

-- Whose a memory object is: an allocation's own, or that of the block of a pool at an index (VMA, "Custom memory pools" and "Dedicated allocations").
pub data Owner : Type 0 where
  Alone : (allocation : ℕ) → Owner
  BlockOf : (pool index : ℕ) → Owner

-- The memory object of a number is whose.
abbrev pub Has : PoolsState → Owner → ℕ → Type 0
Has s (Alone i) n = (a : Allocation) × (allocation_at s i ≡ Some a) × (a.home ≡ home.Own n)
Has s (BlockOf p j) n = (k : Kept) × (pool_at s p ≡ Some k) × (j < length k.memories) × (get_or k.memories j 0 ≡ n)

-- The memory objects of pools and allocations are of the sizes that they need, and no two have one (Vulkan, "Device Memory").
pub record Backs (s : PoolsState) (m : MemoryState) : Type 0 where
  pub own : (i : ℕ) (a : Allocation) (n : ℕ) → allocation_at s i ≡ Some a → a.home ≡ home.Own n → length (region_of m n) ≡ a.asked.size
  pub blocks : (p : ℕ) (k : Kept) (j : ℕ) → pool_at s p ≡ Some k → j < length k.memories → IsObject m (get_or k.memories j 0) k.pool.info.memory_type k.pool.info.block_size
  pub apart : (x y : Owner) (n : ℕ) → Has s x n → Has s y n → x ≡ y

-- The memory object of a block that has gone, if one has, is no more among those of the pool's blocks.
abbrev pub LosesBlock : Option ℕ → Kept → Kept → Type 0
LosesBlock None was now = now.memories ≡ was.memories
LosesBlock (Some n) was now = Loses was.memories now.memories n

-- The range of an allocation was given back to its pool (VMA, "Custom memory pools").
pub record IsGivenBack (old new : PoolsState) (i pool : ℕ) (place : PoolPlace) (gone : Option ℕ) : Type 0 where
  pub was : Kept
  pub now : Kept
  pub there : pool_at old pool ≡ Some was
  pub pool_is : IsAlikePool (pool_without was.pool (start_of place)) now.pool
  pub objects : LosesBlock gone was now
  pub blocks : KeepsBlocks gone place.block was now
  pub state : new ≡ record { pools = set old.pools pool (Some now); allocations = set old.allocations i None }

-- An allocation has ended, and with it a memory object: its own, or that of a block of which nothing is taken then (Vulkan, "Object Lifetime"; VMA, "Custom memory pools").
abbrev pub IsEnded : PoolsState → PoolsState → ℕ → Home → Option ℕ → Type 0
IsEnded old new i (home.Own n) gone = (gone ≡ Some n) × (new ≡ record old { allocations = set old.allocations i None })
IsEnded old new i (home.Shared p place) gone = IsGivenBack old new i p place gone

-- Memory without an object, if there is one (Vulkan, "Device Memory").
abbrev pub released : MemoryState → Option ℕ → MemoryState
released m None = m
released m (Some n) = with_object m n None

-- An allocation may move: it is in a pool that can be defragmented, and has no place reserved (VMA, "Defragmentation").
abbrev pub IsMovable : PoolsState → Home → Option PoolPlace → Type 0
IsMovable s (home.Shared p place) None = IfKept s p (λ k. k.pool.info.kind ≡ algorithm.Tlsf)
IsMovable s _ _ = ⊥

-- An allocation of a pool has no move target (VMA, "Defragmentation").
pub record HasNoLower (s : PoolsState) (i : ℕ) : Type 0 where
  pub allocation : Allocation
  pub live : allocation_at s i ≡ Some allocation
  pub pool : ℕ
  pub from : PoolPlace
  pub lies : allocation.home ≡ home.Shared pool from
  pub kept : Kept
  pub there : pool_at s pool ≡ Some kept
  pub none : HasNoTarget kept.pool (start_of from) (request_in allocation.asked)

-- An allocation of a pool has this move target (VMA, "Defragmentation").
pub record HasLower (s : PoolsState) (i : ℕ) (target : PoolPlace) : Type 0 where
  pub allocation : Allocation
  pub live : allocation_at s i ≡ Some allocation
  pub pool : ℕ
  pub from : PoolPlace
  pub lies : allocation.home ≡ home.Shared pool from
  pub kept : Kept
  pub there : pool_at s pool ≡ Some kept
  pub has : HasTarget kept.pool (start_of from) (request_in allocation.asked) (start_of target)

-- The move target of an allocation is reserved for it, and taken in its pool (VMA, "Defragmentation").
pub record IsReserved (old new : PoolsState) (i : ℕ) (target : PoolPlace) : Type 0 where
  pub allocation : Allocation
  pub live : allocation_at old i ≡ Some allocation
  pub pool : ℕ
  pub from : PoolPlace
  pub lies : allocation.home ≡ home.Shared pool from
  pub was : Kept
  pub now : Kept
  pub there : pool_at old pool ≡ Some was
  pub takes : TakesTarget was now (start_of from) (request_in allocation.asked) (start_of target)
  pub state : new ≡ record { pools = set old.pools pool (Some now); allocations = set old.allocations i (Some (record allocation { target = Some target })) }

-- An allocation lies there: in its memory object, or in that of its block (Vulkan, "Resource Memory Association").
abbrev pub IsSpotOf : PoolsState → Home → Asked → Spot → Type 0
IsSpotOf s (home.Own n) asked spot = spot ≡ record { memory = n; offset = 0; size = asked.size }
IsSpotOf s (home.Shared p place) asked spot = IfKept s p (λ k. IsMemoryOf k place.block spot.memory × (spot.offset ≡ place.start) × (spot.size ≡ asked.size))

-- The place that is reserved for an allocation is there (Vulkan, "Resource Memory Association").
abbrev pub IsTargetSpot : PoolsState → Home → Option PoolPlace → Asked → Spot → Type 0
IsTargetSpot s (home.Shared p place) (Some target) asked spot = IsSpotOf s (home.Shared p target) asked spot
IsTargetSpot s _ _ asked spot = ⊥
