-- What a device has allocated, entry by entry, and which entries find no room.
use Rattle.std.specs.Prelude.{◌≡◌, ℕ, ◌+◌, ◌*◌, ◌==◌, List, [], ◌∷◌, ◌++◌, map, take, length, sum_by, Bool, true, false, not, if◌then◌else◌, Option, Some, None, slice_get, IsTrue}
use Rattle.std.specs.List.{fold, filter, find}
use Rattle.vk_model.specs.declared.entry.Entry.{Entry}
use Rattle.vk_model.specs.declared.entry.Entry.TheVariants as entry
use Rattle.vk_model.specs.declared.resource.Place.{Place}
use Rattle.vk_model.specs.declared.resource.Place.TheVariants as place
use Rattle.vk_model.specs.Basics.{among}
use Rattle.vk_model.specs.Trace.Objects.{Resource, of_buffer, of_image}
use Rattle.vk_model.specs.Memory.HeapSizes.{HeapSizes}
use Rattle.vk_model.specs.Memory.Suballocation.{Request}
use Rattle.vk_model.specs.Memory.Room.{Heaps, heap_of, no_object, request_of, NoRoomInPool}
use Rattle.vk_model.specs.Memory.MoveTargets.{BlockStart, Resident, Moved, pass_moves, parts_of_moves}
use Rattle.vk_model.specs.Memory.Pools.{Pool, empty_pool, state_of, numbered_blocks, Gives, pool_with, pool_without, IsByPlace}

-- ---- what is allocated

-- A memory object outside pools: the memory object or the resource that has it, its memory type and its bytes (Vulkan, "Device Memory"; VMA, "Dedicated allocations").
pub record OwnMemory : Type 0 where
  pub owner : ℕ
  pub memory_type : ℕ
  pub size : ℕ

-- A pool by its id, where its resources are, and the moves of its open pass, whose targets are taken too (VMA, "Custom memory pools" and "Defragmentation").
pub record PoolMemory : Type 0 where
  pub id : ℕ
  pub pool : Pool
  pub residents : List Resident
  pub moves : List Moved

-- A defragmentation by its id: its pool, and the limits of a pass on bytes and on moves (VMA, "Defragmentation").
pub record Defragmentation : Type 0 where
  pub id : ℕ
  pub pool : ℕ
  pub max_bytes : ℕ
  pub max_moves : ℕ

-- What a device has allocated, the oldest first; and the defragmentations that have begun.
pub record Allocated : Type 0 where
  pub sizes : HeapSizes
  pub objects : List OwnMemory
  pub pools : List PoolMemory
  pub defragmentations : List Defragmentation

-- A new device has allocated nothing.
abbrev pub nothing_allocated : HeapSizes → Allocated
nothing_allocated sizes = record { sizes = sizes; objects = []; pools = []; defragmentations = [] }

-- The bytes of a pool's blocks on heap h; each block is a memory object (VMA, "Custom memory pools").
abbrev pub pool_bytes : ℕ → PoolMemory → ℕ
pool_bytes h q = if heap_of q.pool.info.memory_type == h then length q.pool.blocks * q.pool.info.block_size else 0

-- The heaps of a device: their sizes, what is used of them, and how many memory objects there are (Vulkan, "Device Memory").
abbrev pub heaps_of : Allocated → Heaps
heaps_of d = record {
  limit = λ h. if h == 0 then d.sizes.heap0 else d.sizes.heap1;
  used = λ h. sum_by (λ o. if heap_of o.memory_type == h then o.size else 0) d.objects + sum_by (pool_bytes h) d.pools;
  objects = length d.objects + sum_by (λ q. length q.pool.blocks) d.pools;
}

-- The pool of an id.
abbrev pub pool_by_id : ℕ → Allocated → Option PoolMemory
pool_by_id p d = find (λ q. q.id == p) d.pools

-- What a resource asks of a pool's blocks.
abbrev pub asked_of : PoolMemory → Resource → Request
asked_of q r = request_of r q.pool.info.memory_type

-- ---- no room

-- A resource finds no room in the pool of this id (VMA, "Custom memory pools").
abbrev pub FindsNoneIn : Allocated → ℕ → Resource → Bool → Type 0
FindsNoneIn d p r upper = elim (pool_by_id p d) [ None ↦ ⊥ | Some q ↦ NoRoomInPool (heaps_of d) (state_of q.pool) (asked_of q r) upper ]

-- A resource finds no room at its place; one that the trace binds itself asks for none (Vulkan, "Device Memory"; VMA, "Choosing memory type").
abbrev pub FindsNoneAt : Allocated → Place → Resource → Type 0
FindsNoneAt d (place.Dedicated t) r = IsTrue (no_object (heaps_of d) t r.size)
FindsNoneAt d (place.Pool p) r = FindsNoneIn d p r false
FindsNoneAt d (place.PoolUpper p) r = FindsNoneIn d p r true
FindsNoneAt d (place.Memory m o) r = ⊥

-- An entry allocates, and finds no room on a device (Vulkan, "Device Memory").
abbrev pub FindsNoRoom : Allocated → Entry → Type 0
FindsNoRoom d (entry.Memory i m) = IsTrue (no_object (heaps_of d) m.memory_type m.size)
FindsNoRoom d (entry.Buffer i b) = FindsNoneAt d b.place (of_buffer b)
FindsNoRoom d (entry.Image i m) = FindsNoneAt d m.place (of_image m)
FindsNoRoom d x = ⊥

-- ---- what entries allocate and give back

-- With one more memory object.
abbrev pub with_object : ℕ → ℕ → ℕ → Allocated → Allocated
with_object i t size d = record d { objects = d.objects ++ record { owner = i; memory_type = t; size = size } ∷ [] }

-- With a pool changed, by its id.
abbrev pub with_pool : PoolMemory → Allocated → Allocated
with_pool q d = record d { pools = map (λ o. if o.id == q.id then q else o) d.pools }

-- A pool with one more resource, at this place.
abbrev pub with_resident : PoolMemory → ℕ → Request → Bool → BlockStart → PoolMemory
with_resident q i r upper s = record q { pool = pool_with q.pool r upper s; residents = record { id = i; from = s; request = r } ∷ q.residents }

-- A pool without a resource: its range is given back (VMA, "Custom memory pools").
abbrev pub without_resident : ℕ → PoolMemory → PoolMemory
without_resident i q = record q {
  pool = fold (λ p a. pool_without p a.from) q.pool (filter (λ a. a.id == i) q.residents);
  residents = filter (λ a. not (a.id == i)) q.residents;
}

-- What is left when a memory object or a resource has ended (Vulkan, "Object Lifetime").
abbrev pub without : ℕ → Allocated → Allocated
without i d = record d { objects = filter (λ o. not (o.owner == i)) d.objects; pools = map (without_resident i) d.pools }

-- A resource gets a place in the pool of this id: any that the pool gives it (VMA, "Custom memory pools").
abbrev pub GetsIn : Allocated → ℕ → Resource → ℕ → Bool → Allocated → Type 0
GetsIn d i r p upper e = elim (pool_by_id p d) [ None ↦ e ≡ d | Some q ↦ ((s : BlockStart) × Gives q.pool (asked_of q r) upper s × (e ≡ with_pool (with_resident q i (asked_of q r) upper s) d)) ]

-- A resource gets its memory; one that the trace binds itself has it (Vulkan, "Resource Memory Association").
abbrev pub Gets : Allocated → ℕ → Resource → Place → Allocated → Type 0
Gets d i r (place.Dedicated t) e = e ≡ with_object i t r.size d
Gets d i r (place.Pool p) e = GetsIn d i r p false e
Gets d i r (place.PoolUpper p) e = GetsIn d i r p true e
Gets d i r (place.Memory m o) e = e ≡ d

-- ---- passes of a defragmentation

-- A pool in which the target of a move is taken too (VMA, "Defragmentation").
abbrev pub with_target : PoolMemory → Moved → PoolMemory
with_target q m = record q { pool = fold (λ p a. pool_with p a.request false m.to) q.pool (filter (λ a. a.id == m.id) q.residents) }

-- A pool as a pass begins: its moves are those from the resources by place, and their targets are taken (VMA, "Defragmentation").
abbrev pub PassBegins : Defragmentation → PoolMemory → PoolMemory → Type 0
PassBegins f q e =
    (listed : List Resident) × IsByPlace q.residents listed
    × (e ≡ (let moves = pass_moves f.max_bytes f.max_moves (numbered_blocks q.pool.blocks) listed in record (fold with_target q moves) { moves = moves }))

-- A resource of a pool, moved.
abbrev pub moved_to : Moved → Resident → Resident
moved_to m a = if a.id == m.id then record a { from = m.to } else a

-- A move ends: the resource is at the target and its old range is given back; one that is kept stays, and the target is given back (VMA, "Defragmentation").
abbrev pub move_ended : List ℕ → PoolMemory → Moved → PoolMemory
move_ended kept q m =
    if among m.id kept
    then record q { pool = pool_without q.pool m.to }
    else record q { pool = fold (λ p a. pool_without p a.from) q.pool (filter (λ a. a.id == m.id) q.residents); residents = map (moved_to m) q.residents }

-- A pool as a pass ends; the resources that are lost end with it (VMA, "Defragmentation").
abbrev pub pass_ended : List ℕ → List ℕ → PoolMemory → PoolMemory
pass_ended kept lost q = fold (λ o i. without_resident i o) (record (fold (move_ended kept) q q.moves) { moves = [] }) lost

-- The pool of a defragmentation, with its limits.
abbrev pub defragmented : ℕ → Allocated → Option Defragmentation
defragmented i d = find (λ f. f.id == i) d.defragmentations

-- A pass of this defragmentation begins.
abbrev pub Begins : Allocated → ℕ → Allocated → Type 0
Begins d i e = elim (defragmented i d) [
  | None ↦ e ≡ d
  | Some f ↦ elim (pool_by_id f.pool d) [ None ↦ e ≡ d | Some q ↦ ((r : PoolMemory) × PassBegins f q r × (e ≡ with_pool r d)) ]
]

-- What is allocated when a pass of this defragmentation has ended.
abbrev pub after_pass : ℕ → List ℕ → List ℕ → Allocated → Allocated
after_pass i kept lost d = elim (defragmented i d) [
  | None ↦ d
  | Some f ↦ elim (pool_by_id f.pool d) [ None ↦ d | Some q ↦ with_pool (pass_ended kept lost q) d ]
]

-- ---- entries one after another

-- What an entry changes of what is allocated.
abbrev pub Changes : Allocated → Entry → Allocated → Type 0
Changes d (entry.Memory i m) e = e ≡ with_object i m.memory_type m.size d
Changes d (entry.Free m) e = e ≡ without m d
Changes d (entry.Buffer i b) e = Gets d i (of_buffer b) b.place e
Changes d (entry.Image i m) e = Gets d i (of_image m) m.place e
Changes d (entry.Destroy r) e = e ≡ without r d
Changes d (entry.Pool p info) e = e ≡ record d { pools = d.pools ++ record { id = p; pool = empty_pool info; residents = []; moves = [] } ∷ [] }
Changes d (entry.DropPool p) e = e ≡ record d { pools = filter (λ q. not (q.id == p)) d.pools }
Changes d (entry.Defrag i p b m) e = e ≡ record d { defragmentations = d.defragmentations ++ record { id = i; pool = p; max_bytes = b; max_moves = m } ∷ [] }
Changes d (entry.Pass i) e = Begins d i e
Changes d (entry.EndPass i kept lost) e = e ≡ after_pass i kept lost d
Changes d (entry.EndDefrag i) e = e ≡ record d { defragmentations = filter (λ f. not (f.id == i)) d.defragmentations }
Changes d x e = e ≡ d

-- Entries are applied one after another, each with room for what it allocates, and lead from one device to another; a pool may give any of its places (VMA, "Custom memory pools").
abbrev pub Applied : Allocated → List Entry → Allocated → Type 0
Applied d [] e = e ≡ d
Applied d (x ∷ xs) e = (mid : Allocated) × (FindsNoRoom d x → ⊥) × Changes d x mid × Applied mid xs e

-- A device with heaps of these sizes may have allocated this after some entries, all of which found room.
abbrev pub Reaches : HeapSizes → List Entry → Allocated → Type 0
Reaches sizes t d = Applied (nothing_allocated sizes) t d

-- Entry n of a trace finds no room on this device, which the entries before it reach (profile).
pub record StopsAt (sizes : HeapSizes) (t : List Entry) (n : ℕ) (d : Allocated) : Type 0 where
  pub reached : Reaches sizes (take n t) d
  pub stopped : Entry
  pub here : slice_get t n ≡ Some stopped
  pub no_room : FindsNoRoom d stopped

-- A replay of a trace ends on a device: after all entries, each of which found room, or at an entry that finds none (profile).
abbrev pub EndsOn : HeapSizes → List Entry → Option ℕ → Allocated → Type 0
EndsOn sizes t None d = Reaches sizes t d
EndsOn sizes t (Some n) d = StopsAt sizes t n d

-- ---- the parts that passes copy

-- How many parts are to be copied when an entry has been applied and this is allocated: those of the moves of the pass that it begins (VMA, "Defragmentation"; parts of 4,096 bytes: profile).
abbrev pub parts_after : Allocated → Entry → ℕ
parts_after d (entry.Pass i) = elim (defragmented i d) [
  | None ↦ 0
  | Some f ↦ elim (pool_by_id f.pool d) [ None ↦ 0 | Some q ↦ parts_of_moves q.moves ]
]
parts_after d x = 0

module _ (parts : ℕ → ℕ) where
  -- Entries are applied as by `Applied`, the first of them as entry n, and `parts` says how many parts are to be copied after each (profile).
  abbrev pub AppliedWith : ℕ → Allocated → List Entry → Allocated → Type 0
  AppliedWith n d [] e = e ≡ d
  AppliedWith n d (x ∷ xs) e = (mid : Allocated) × (FindsNoRoom d x → ⊥) × Changes d x mid × (parts n ≡ parts_after mid x) × AppliedWith (n + 1) mid xs e

  -- A device with heaps of these sizes may have allocated this after some entries, with these parts.
  abbrev pub ReachesWith : HeapSizes → List Entry → Allocated → Type 0
  ReachesWith sizes t d = AppliedWith 0 (nothing_allocated sizes) t d

  -- A replay of a trace ends on a device as by `EndsOn`, with these parts (profile).
  abbrev pub EndsOnWith : HeapSizes → List Entry → Option ℕ → Allocated → Type 0
  EndsOnWith sizes t None d = ReachesWith sizes t d
  EndsOnWith sizes t (Some n) d = ReachesWith sizes (take n t) d × StopsAt sizes t n d
