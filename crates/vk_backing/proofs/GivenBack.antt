-- What is allocated when a resource has given its place in a pool back.
use Rattle.std.proofs.Common.{◌≡◌, ℕ, suc, ◌+◌, ◌*◌, List, [], ◌∷◌, ◌++◌, map, take, drop, length, Bool, ◌==◌, Option, Some, None, refl, sym, ap, subst, ◌∙◌, arith, inl, inr}
use Rattle.std.specs.Prelude.{if◌then◌else◌, sum_by}
use Rattle.std.specs.Option.{option_and_then}
use Rattle.std.specs.List.{filter, fold}
use Rattle.std.proofs.lemmas.Bool.{cases_eq, ne_eqb, eq-eqb}
use Rattle.std.proofs.lemmas.List.{length-map}
use Rattle.vk_memory.specs.declared.memories.Object.{Object}
use Rattle.vk_memory.specs.MemoryState.{MemoryState, IsLive, object_at}
use Rattle.vk_model.specs.declared.resource.PoolInfo.{PoolInfo}
use Rattle.vk_model.specs.Memory.Room.{heap_of}
use Rattle.vk_model.specs.Memory.MoveTargets.{BlockStart, Resident}
use Rattle.vk_model.specs.Memory.Pools.{Pool, PoolBlock, pool_without}
use Rattle.vk_model.specs.Memory.Allocations.{Allocated, OwnMemory, PoolMemory, heaps_of, without, without_resident}
use Rattle.vma_pools.specs.Alike.{IsAlikePool}
use Rattle.vma_pools.specs.declared.pool.PoolPlace.{PoolPlace}
use Rattle.vma_pools.specs.declared.allocations.Allocation.{Allocation}
use Rattle.vma_pools.specs.declared.allocations.Home.{Home}
use Rattle.vma_pools.specs.declared.allocations.Home.TheVariants as home
use Rattle.vma_pools.specs.Pools.{Kept, KeepsBlocks, block_numbers}
use Rattle.vma_pools.specs.State.{PoolsState, allocation_at, start_of, request_in, IsGivenBack, IsObject, released, BlockOf}
use Rattle.vma_pools.proofs.PoolAlike.{are-length, pool-trans, alike-pool_without}
use Rattle.vma_pools.proofs.StateLemmas.{some-is}
use Rattle.vk_backing.specs.Backed.{Backed, number_in, object_of, pool_of, allocation_of, allocation_by, IsBacked}
use Rattle.vk_backing.specs.Allotted.{allotted, kind_of, bytes_on, one_if, own_memory, resident_at, resident_of, ArePoolsOf, Fulfils}
use Rattle.vk_backing.proofs.Keyed.{picked_map, sum_one}
use Rattle.vk_backing.proofs.Grown.{some_there}
use Rattle.vk_backing.proofs.Freed.{kind_kept, freed_sum, object_kind, cut_less}
use Rattle.vk_backing.proofs.Owning.{heap_bytes}
use Rattle.vk_backing.proofs.Places.{its_pools, its, its_alike, more_bytes}
use Rattle.vk_backing.proofs.Releasing.{back_here, back_other, back_allocation, gone_had, gone_live, backing}
use Rattle.vk_backing.proofs.Without.{kind_at, left_sum, left_count, left_objects, each_pool, same_pool, left_residents}

module _ (b : Backed) (m : MemoryState) (h : IsBacked b m) (a : ℕ) (x : Allocation) (live : allocation_at b.pools a ≡ Some x) (new : PoolsState) (p : ℕ) (place : PoolPlace) (lies : x.home ≡ home.Shared p place) (gone : Option ℕ) (g : IsGivenBack b.pools new a p place gone)
    (id : ℕ) (its-number : allocation_of b id ≡ Some a) (allocations : List (ℕ × ℕ)) (none : number_in allocations id ≡ None) (others : (i : ℕ) → (i ≡ id → ⊥) → number_in allocations i ≡ allocation_of b i)
    (pool : ℕ) (named : pool_of b pool ≡ Some p) (d : Allocated) (is : Fulfils (allotted b m) d) where
  abbrev s : BlockStart
  s = start_of place

  abbrev q : PoolMemory
  q = its b m d is pool p named g.was g.there

  abbrev alike : IsAlikePool q.pool g.was.pool
  alike = its_alike b m d is pool p named g.was g.there

  abbrev left : Backed
  left = backing b m h a x live new p place gone g id its-number allocations none others

  -- ---- where it was

  its_allocation : allocation_by b id ≡ Some x
  its_allocation = ap (λ (o : Option ℕ). option_and_then (allocation_at b.pools) o) its-number ∙ live

  resident_is : (t : ℕ) → resident_of t id (allocation_by b id) ≡ (if p == t then record { id = id; from = s; request = request_in x.asked } ∷ [] else [])
  resident_is t = ap (λ (o : Option Allocation). resident_of t id o) its_allocation ∙ ap (λ (l : Home). resident_at t id x.asked l) lies

  not_there : (t : ℕ) → (t ≡ p → ⊥) → resident_of t id (allocation_by b id) ≡ []
  not_there t other = resident_is t ∙ ap (λ (v : Bool). if v then record { id = id; from = s; request = request_in x.asked } ∷ [] else []) (ne_eqb p t (λ e. other (sym e)))

  there : resident_of p id (allocation_by b id) ≡ record { id = id; from = s; request = request_in x.asked } ∷ []
  there = resident_is p ∙ ap (λ (v : Bool). if v then record { id = id; from = s; request = request_in x.asked } ∷ [] else []) (eq-eqb p p refl)

  q_left : (without_resident id q).pool ≡ pool_without q.pool s
  q_left = ap (λ (l : List Resident). fold (λ p a. pool_without p a.from) q.pool l) ((its_pools b m d is pool p named g.was g.there).4.residents id ∙ there)

  now_alike : IsAlikePool (without_resident id q).pool g.now.pool
  now_alike =
      subst (λ (y : Pool). IsAlikePool y g.now.pool) (sym q_left)
      (pool-trans (pool_without q.pool s) (pool_without g.was.pool s) g.now.pool (alike-pool_without q.pool g.was.pool alike s) g.pool_is)

  same_allocation : (j : ℕ) → (j ≡ id → ⊥) → allocation_by b j ≡ allocation_by left j
  same_allocation j other = go (allocation_of b j) refl ∙ ap (λ (o : Option ℕ). option_and_then (allocation_at left.pools) o) (sym (others j other))
    where
      go : (o : Option ℕ) → allocation_of b j ≡ o → option_and_then (allocation_at b.pools) o ≡ option_and_then (allocation_at left.pools) o
      go None e = refl
      go (Some k) e = sym (back_allocation b m h a x live new p place gone g k (λ f. other (h.one j id a (e ∙ ap (λ (n : ℕ). Some n) f) its-number)))

  same_resident : (t j : ℕ) → (j ≡ id → ⊥) → resident_of t j (allocation_by b j) ≡ resident_of t j (allocation_by left j)
  same_resident t j other = ap (λ (o : Option Allocation). resident_of t j o) (same_allocation j other)

  -- ---- sums over the pools

  pools_sum : (f : Pool → ℕ) → sum_by (λ q. f q.pool) (map (without_resident id) d.pools) + f q.pool ≡ sum_by (λ q. f q.pool) d.pools + f (pool_without q.pool s)
  pools_sum f =
      sum_one (λ (o : PoolMemory). o.id) (λ (o : PoolMemory). f o.pool) (without_resident id) pool q d.pools (its_pools b m d is pool p named g.was g.there).2
      (λ o inside other. let e = each_pool b m h d is id o inside in ap f (same_pool b m h d is id o (e.4.residents id ∙ not_there e.0 (λ t. other (h.one_pool o.id pool p (e.2 ∙ ap (λ (n : ℕ). Some n) t) named)))))
      ∙ ap (λ (y : Pool). sum_by (λ (o : PoolMemory). f o.pool) d.pools + f y) q_left

  -- as many blocks are left as of the pool
  left_length : length (pool_without q.pool s).blocks ≡ length g.now.pool.blocks
  left_length = subst (λ (y : Pool). length y.blocks ≡ length g.now.pool.blocks) q_left (sym (are-length (without_resident id q).pool.blocks g.now.pool.blocks now_alike.blocks))

  was_length : length q.pool.blocks ≡ length g.was.pool.blocks
  was_length = sym (are-length q.pool.blocks g.was.pool.blocks alike.blocks)

  same_count : KeepsBlocks None place.block g.was g.now → length (pool_without q.pool s).blocks ≡ length q.pool.blocks
  same_count k =
      let f = ap (λ (l : List ℕ). length l) k.1 in
      omega (arith, left_length, was_length, f, length-map g.now.pool.blocks (λ (c : PoolBlock). c.number), length-map g.was.pool.blocks (λ (c : PoolBlock). c.number))

  less_count : (n : ℕ) → KeepsBlocks (Some n) place.block g.was g.now → length q.pool.blocks ≡ length (pool_without q.pool s).blocks + 1
  less_count n k =
      let w = h.matched p g.was g.there in
      let next : k.index + 1 ≡ suc k.index = omega arith in
      let f = ap (λ (l : List ℕ). length l) (k.numbers ∙ ap (λ (j : ℕ). take k.index (block_numbers g.was.pool) ++ drop j (block_numbers g.was.pool)) next) in
      let long = length-map g.was.pool.blocks (λ (c : PoolBlock). c.number) in
      let c = cut_less (block_numbers g.was.pool) k.index (omega (arith, k.there, w, long)) in
      omega (arith, left_length, was_length, f, c, long, length-map g.now.pool.blocks (λ (c : PoolBlock). c.number))

  -- ---- the memory object that goes

  module _ (n : ℕ) (goes : gone ≡ Some n) where
    abbrev lives : IsLive m n
    lives = gone_live b m h a x live new p place gone g n goes

    abbrev object : (o : Object) × (object_at m n ≡ Some o)
    object = some_there (object_at m n) lives

    object_is : ◌≡◌ {A = Option (ℕ × ℕ)} (Some (object.0.memory_type, object.0.size)) (Some (g.was.pool.info.memory_type, g.was.pool.info.block_size))
    object_is =
        let had = gone_had b m h a x live new p place gone g n goes in
        let of = h.backs.blocks p had.1.0 had.0 had.1.1 had.1.2 in
        let info = ap (λ (k : Kept). k.pool.info) (some-is had.1.0 g.was (sym had.1.1 ∙ g.there)) in
        object_kind m h.sized n g.was.pool.info.memory_type g.was.pool.info.block_size
        (subst (λ (i : PoolInfo). IsObject m n i.memory_type i.block_size) info (subst (λ (k : ℕ). IsObject m k had.1.0.pool.info.memory_type had.1.0.pool.info.block_size) had.1.3 of)) object.0 object.1

    gone_sum : (f : Option (ℕ × ℕ) → ℕ) → f None ≡ 0 → sum_by f (map kind_of (released m (Some n)).objects) + f (Some (g.was.pool.info.memory_type, g.was.pool.info.block_size)) ≡ sum_by f (map kind_of m.objects)
    gone_sum f zero = ap (λ (k : Option (ℕ × ℕ)). sum_by f (map kind_of (released m (Some n)).objects) + f k) (sym object_is) ∙ freed_sum m n lives f zero object.0 object.1

    gone_kind : (i k : ℕ) → object_of b i ≡ Some k → kind_at (released m (Some n)) k ≡ kind_at m k
    gone_kind i k has = kind_kept m n lives k (λ e. let w = gone_had b m h a x live new p place gone g n goes in h.apart i n (BlockOf p w.0) (has ∙ ap (λ (j : ℕ). Some j) e) w.1)

  -- ---- each pool

  other_pools : (i : ℕ) → (i ≡ pool → ⊥) → (o : Option ℕ) → pool_of b i ≡ o → (qs : List PoolMemory) → ArePoolsOf b i o qs → ArePoolsOf left i o (map (without_resident id) qs)
  other_pools i other None e qs are = ap (λ (l : List PoolMemory). map (without_resident id) l) are
  other_pools i other (Some t) e qs are =
      let away : t ≡ p → ⊥ = λ (f : t ≡ p). other (h.one_pool i pool p (e ∙ ap (λ (n : ℕ). Some n) f) named) in (
        without_resident id are.0,
        are.1,
        ap (λ (l : List PoolMemory). map (without_resident id) l) are.2,
        back_other b m h a x live new p place gone g t away ∙ are.3,
        record {
          id_is = are.4.id_is;
          pool = subst (λ (y : Pool). IsAlikePool y are.1.pool) (sym (same_pool b m h d is id are.0 (are.4.residents id ∙ not_there t away))) are.4.pool;
          residents = λ j. left_residents b m h d is id left none same_resident i t are.1 are.0 are.4 j;
        },
      )

  its_left : ArePoolsOf left pool (Some p) (map (without_resident id) (filter (λ o. o.id == pool) d.pools))
  its_left =
      let are = its_pools b m d is pool p named g.was g.there in (
        without_resident id q,
        g.now,
        ap (λ (l : List PoolMemory). map (without_resident id) l) are.2,
        back_here b m h a x live new p place gone g,
        record { id_is = are.4.id_is; pool = now_alike; residents = λ j. left_residents b m h d is id left none same_resident pool p are.1 q are.4 j },
      )

  mapped_pools : (i : ℕ) → ArePoolsOf left i (pool_of b i) (map (without_resident id) (filter (λ o. o.id == i) d.pools))
  mapped_pools i = elim (cases_eq i pool) [
    | inl e ↦ subst (λ (j : ℕ). ArePoolsOf left j (pool_of b j) (map (without_resident id) (filter (λ o. o.id == j) d.pools))) (sym e)
        (subst (λ (o : Option ℕ). ArePoolsOf left pool o (map (without_resident id) (filter (λ o. o.id == pool) d.pools))) (sym named) its_left)
    | inr other ↦ other_pools i other (pool_of b i) refl (filter (λ o. o.id == i) d.pools) (is.pools i)
  ]

  -- it has no memory object of its own
  unowned : object_of b id ≡ None
  unowned = go (object_of b id) refl
    where
      go : (o : Option ℕ) → object_of b id ≡ o → o ≡ None
      go None e = refl
      go (Some n) e = absurd (h.either id n a e its-number)

  abbrev bytes : ℕ → Pool → ℕ
  bytes heap y = if heap_of y.info.memory_type == heap then length y.blocks * y.info.block_size else 0

  pub back_allotted : Fulfils (allotted left (released m gone)) (without id d)
  back_allotted = record {
    sizes = go-sizes gone ∙ is.sizes;
    used = λ first. go-used first gone refl g.blocks;
    count = go-count gone refl g.blocks;
    objects = left_objects b m h d is id left (released m gone) unowned (λ i other. refl) (λ i k other e. go-kind gone refl i k e);
    pools = λ i. subst (λ (qs : List PoolMemory). ArePoolsOf left i (pool_of b i) qs) (sym (picked_map (λ (o : PoolMemory). o.id) (without_resident id) (λ o. refl) i d.pools)) (mapped_pools i);
  }
    where
      go-sizes : (o : Option ℕ) → (released m o).sizes ≡ m.sizes
      go-sizes None = refl
      go-sizes (Some n) = refl

      go-kind : (o : Option ℕ) → gone ≡ o → (i k : ℕ) → object_of b i ≡ Some k → kind_at (released m o) k ≡ kind_at m k
      go-kind None e i k has = refl
      go-kind (Some n) e i k has = gone_kind n e i k has

      go-used : (first : Bool) → (o : Option ℕ) → gone ≡ o → KeepsBlocks o place.block g.was g.now → (heaps_of (without id d)).used (if first then 0 else 1) ≡ sum_by (bytes_on first) (map kind_of (released m o).objects)
      go-used first None e k =
          let heap : ℕ = if first then 0 else 1 in
          let l = left_sum b m h d is id (λ (o : OwnMemory). if heap_of o.memory_type == heap then o.size else 0) in
          let z = ap (λ (o : Option ℕ). sum_by (λ (o : OwnMemory). if heap_of o.memory_type == heap then o.size else 0) (own_memory id (option_and_then (kind_at m) o))) unowned in
          let c = pools_sum (bytes heap) in
          let f = ap (λ (n : ℕ). if heap_of q.pool.info.memory_type == heap then n * q.pool.info.block_size else 0) (same_count k) in
          let u = is.used first in omega (arith, l, z, c, f, u)
      go-used first (Some n) e k =
          let heap : ℕ = if first then 0 else 1 in
          let l = left_sum b m h d is id (λ (o : OwnMemory). if heap_of o.memory_type == heap then o.size else 0) in
          let z = ap (λ (o : Option ℕ). sum_by (λ (o : OwnMemory). if heap_of o.memory_type == heap then o.size else 0) (own_memory id (option_and_then (kind_at m) o))) unowned in
          let c = pools_sum (bytes heap) in
          let f = ap (λ (n : ℕ). if heap_of q.pool.info.memory_type == heap then n * q.pool.info.block_size else 0) (less_count n k)
          ∙ more_bytes (heap_of q.pool.info.memory_type == heap) (length (pool_without q.pool s).blocks) q.pool.info.block_size in
          let b2 = heap_bytes q.pool.info.memory_type q.pool.info.block_size first ∙ ap (λ (i : PoolInfo). bytes_on first (Some (i.memory_type, i.block_size))) (sym alike.info) in
          let r = gone_sum n e (bytes_on first) refl in
          let u = is.used first in omega (arith, l, z, c, f, b2, r, u)

      go-count : (o : Option ℕ) → gone ≡ o → KeepsBlocks o place.block g.was g.now → (heaps_of (without id d)).objects ≡ sum_by one_if (map kind_of (released m o).objects)
      go-count None e k =
          let z = ap (λ (o : Option ℕ). length (own_memory id (option_and_then (kind_at m) o))) unowned in
          let l = left_count b m h d is id in let c = pools_sum (λ (y : Pool). length y.blocks) in
          let f = same_count k in omega (arith, l, z, c, f, is.count)
      go-count (Some n) e k =
          let z = ap (λ (o : Option ℕ). length (own_memory id (option_and_then (kind_at m) o))) unowned in
          let l = left_count b m h d is id in let c = pools_sum (λ (y : Pool). length y.blocks) in
          let f = less_count n k in let r = gone_sum n e one_if refl in omega (arith, l, z, c, f, r, is.count)
