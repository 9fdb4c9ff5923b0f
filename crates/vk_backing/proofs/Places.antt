-- What is allocated when a resource has got a place in a pool.
use Rattle.std.proofs.Common.{◌≡◌, ℕ, suc, ◌+◌, ◌*◌, ◌<◌, List, [], ◌∷◌, map, length, Bool, true, false, ◌==◌, Option, Some, None, refl, sym, ap, subst, ◌∙◌, arith, inl, inr}
use Rattle.std.specs.Prelude.{if◌then◌else◌, slice_index_or, sum_by}
use Rattle.std.specs.Option.{option_and_then}
use Rattle.std.specs.List.{filter}
use Rattle.std.proofs.Math.Nat.{suc-mul}
use Rattle.std.proofs.lemmas.Bool.{cases_eq, ne_eqb, eq-eqb}
use Rattle.std.proofs.lemmas.List.Sums.{sum_by_push}
use Rattle.vk_memory.specs.MemoryState.{MemoryState}
use Rattle.vk_model.specs.declared.resource.PoolInfo.{PoolInfo}
use Rattle.vk_model.specs.Trace.Objects.{Resource}
use Rattle.vk_model.specs.Memory.Suballocation.{Request}
use Rattle.vk_model.specs.Memory.Room.{heap_of, request_of, NoRoomInPool}
use Rattle.vk_model.specs.Memory.MoveTargets.{BlockStart, Resident}
use Rattle.vk_model.specs.Memory.Pools.{Gives, pool_with, state_of}
use Rattle.vk_model.specs.Memory.Allocations.{Allocated, PoolMemory, heaps_of, pool_bytes, pool_by_id, asked_of, FindsNoneIn, with_pool, with_resident, GetsIn}
use Rattle.vma_pools.specs.Alike.{IsAlikePool}
use Rattle.vma_pools.specs.declared.pool.PoolPlace.{PoolPlace}
use Rattle.vma_pools.specs.declared.allocations.Asked.{Asked}
use Rattle.vma_pools.specs.declared.allocations.Allocation.{Allocation}
use Rattle.vma_pools.specs.Pools.{Kept, Takes, heaps}
use Rattle.vma_pools.specs.State.{pool_at, allocation_at, start_of, request_in}
use Rattle.vma_pools.proofs.PoolAlike.{pool-sym, pool-trans, alike-gives_place, alike-no_room, alike-pool_with}
use Rattle.vma_pools.proofs.StateLemmas.{some-is, given-info, takes-gives}
use Rattle.vma_pools.proofs.CountedLemmas.{old-blocks}
use Rattle.vk_backing.specs.Backed.{Backed, number_in, object_of, pool_of, allocation_of, allocation_by, IsBacked}
use Rattle.vk_backing.specs.Allotted.{allotted, kind_of, bytes_on, one_if, own_memory, resident_of, ArePoolsOf, Fulfils}
use Rattle.vk_backing.proofs.PoolsBy.{pool_by, pool_found, change, change_it, change_other, keeps_id}
use Rattle.vk_backing.proofs.Keyed.{picked_in, picked_out, picked_map, sum_one}
use Rattle.vk_backing.proofs.Grown.{grown_kinds, kind_stays}
use Rattle.vk_backing.proofs.Heaps.{room_found, found_room}
use Rattle.vk_backing.proofs.Owning.{heap_bytes}
use Rattle.vk_backing.proofs.Sharing.{blocks_new, given, next, sharing, pool_here, pool_other, old_allocation, new_allocated}
use Rattle.vk_memory.proofs.LiveObjects.{live_below}

-- ---- the pool of a device

module _ (b : Backed) (m : MemoryState) (d : Allocated) (is : Fulfils (allotted b m) d) (pool p : ℕ) (named : pool_of b pool ≡ Some p) (was : Kept) (there : pool_at b.pools p ≡ Some was) where
  pub its_pools : ArePoolsOf b pool (Some p) (filter (λ q. q.id == pool) d.pools)
  its_pools = pool_by b m d is pool p named

  abbrev pub its : PoolMemory
  its = its_pools.0

  pub its_found : pool_by_id pool d ≡ Some its
  unfolding its_pools
  its_found = pool_found b m d is pool p named

  pub its_alike : IsAlikePool its.pool was.pool
  its_alike = subst (λ (k : Kept). IsAlikePool its.pool k.pool) (some-is its_pools.1 was (sym its_pools.3 ∙ there)) its_pools.4.pool

  module _ (r : Resource) (asked : Asked) (asks : request_of r was.pool.info.memory_type ≡ request_in asked) (upper : Bool) where
    pub asked_is : asked_of its r ≡ request_in asked
    asked_is = ap (λ (i : PoolInfo). request_of r i.memory_type) (sym its_alike.info) ∙ asks

    pub finds_none : NoRoomInPool (heaps m) (state_of was.pool) (request_in asked) upper → FindsNoneIn d pool r upper
    finds_none none =
        let n = room_found b m d is (state_of its.pool) (request_in asked) upper (alike-no_room was.pool its.pool (pool-sym its.pool was.pool its_alike) (heaps m) (request_in asked) upper none) in
        rw (its_found, FindsNoneIn) (subst (λ (x : Request). NoRoomInPool (heaps_of d) (state_of its.pool) x upper) (sym asked_is) n)

    pub none_found : FindsNoneIn d pool r upper → NoRoomInPool (heaps m) (state_of was.pool) (request_in asked) upper
    none_found finds =
        let n : NoRoomInPool (heaps_of d) (state_of its.pool) (asked_of its r) upper = rw (its_found, FindsNoneIn) at finds in
        alike-no_room its.pool was.pool its_alike (heaps m) (request_in asked) upper (found_room b m d is (state_of its.pool) (request_in asked) upper (subst (λ (x : Request). NoRoomInPool (heaps_of d) (state_of its.pool) x upper) asked_is n))

-- the bytes of one more block
pub more_bytes : (v : Bool) (n s : ℕ) → (if v then (n + 1) * s else 0) ≡ (if v then n * s else 0) + (if v then s else 0)
more_bytes true n s = let e : n + 1 ≡ suc n = omega arith in ap (λ (k : ℕ). k * s) e ∙ suc-mul n s
more_bytes false n s = refl

module _ (b : Backed) (m : MemoryState) (h : IsBacked b m) (p : ℕ) (was now : Kept) (there : pool_at b.pools p ≡ Some was) (place : PoolPlace) (asked : Asked) (upper : Bool) (after : MemoryState) (takes : Takes was now m after (request_in asked) upper (start_of place))
    (pool : ℕ) (named : pool_of b pool ≡ Some p) (d : Allocated) (is : Fulfils (allotted b m) d) (r : Resource) (asks : request_of r was.pool.info.memory_type ≡ request_in asked)
    (id : ℕ) (absent : allocation_of b id ≡ None) (allocations : List (ℕ × ℕ)) (here : number_in allocations id ≡ Some (next b m h p was now there place asked upper after takes)) (others : (i : ℕ) → (i ≡ id → ⊥) → number_in allocations i ≡ allocation_of b i) where
  abbrev q : PoolMemory
  q = its b m d is pool p named was there

  abbrev s : BlockStart
  s = start_of place

  abbrev asks-of : Request
  asks-of = asked_of q r

  abbrev with_it : PoolMemory
  with_it = with_resident q id asks-of upper s

  abbrev new : Backed
  new = sharing b m h p was now there place asked upper after takes allocations

  abbrev alike : IsAlikePool q.pool was.pool
  alike = its_alike b m d is pool p named was there

  same_asked : asks-of ≡ request_in asked
  same_asked = asked_is b m d is pool p named was there r asked asks upper

  id_is : q.id ≡ pool
  id_is = (its_pools b m d is pool p named was there).4.id_is

  -- ---- it gives the place

  pub gets : GetsIn d id r pool upper (with_pool with_it d)
  gets =
      let gives = alike-gives_place was.pool q.pool (pool-sym q.pool was.pool alike) (request_in asked) upper s (takes-gives was now m after (request_in asked) upper s takes).0 in
      rw (its_found b m d is pool p named was there, GetsIn) (s, subst (λ (x : Request). Gives q.pool x upper s) (sym same_asked) gives, refl)

  now_alike : IsAlikePool with_it.pool now.pool
  now_alike =
      subst (λ (x : Request). IsAlikePool (pool_with q.pool x upper s) now.pool) (sym same_asked)
      (pool-trans (pool_with q.pool (request_in asked) upper s) (pool_with was.pool (request_in asked) upper s) now.pool (alike-pool_with q.pool was.pool alike (request_in asked) upper s) (takes-gives was now m after (request_in asked) upper s takes).1)

  -- ---- the pools of the device

  changed_sum : (f : PoolMemory → ℕ) → sum_by f (map (change with_it) d.pools) + f q ≡ sum_by f d.pools + f with_it
  changed_sum f =
      sum_one (λ (o : PoolMemory). o.id) f (change with_it) pool q d.pools (its_pools b m d is pool p named was there).2 (λ x there other. ap f (change_other with_it x (λ e. other (e ∙ id_is))))
      ∙ ap (λ (o : PoolMemory). sum_by f d.pools + f o) (change_it with_it q refl)

  info_is : with_it.pool.info ≡ q.pool.info
  info_is = given-info q.pool asks-of upper s

  bytes_old : (heap : ℕ) → s.block < was.pool.next → pool_bytes heap with_it ≡ pool_bytes heap q
  bytes_old heap lt =
      ap (λ (i : PoolInfo). if heap_of i.memory_type == heap then length with_it.pool.blocks * i.block_size else 0) info_is
      ∙ ap (λ (n : ℕ). if heap_of q.pool.info.memory_type == heap then n * q.pool.info.block_size else 0) (old-blocks q.pool asks-of upper s (omega (arith, lt, alike.next)))

  bytes_new : (first : Bool) → s.block ≡ was.pool.next → pool_bytes (if first then 0 else 1) with_it ≡ pool_bytes (if first then 0 else 1) q + bytes_on first (Some (was.pool.info.memory_type, was.pool.info.block_size))
  bytes_new first is =
      let heap : ℕ = if first then 0 else 1 in
      ap (λ (i : PoolInfo). if heap_of i.memory_type == heap then length with_it.pool.blocks * i.block_size else 0) info_is
      ∙ ap (λ (n : ℕ). if heap_of q.pool.info.memory_type == heap then n * q.pool.info.block_size else 0) (blocks_new q.pool asks-of upper s (is ∙ alike.next))
      ∙ more_bytes (heap_of q.pool.info.memory_type == heap) (length q.pool.blocks) q.pool.info.block_size
      ∙ ap (λ (n : ℕ). pool_bytes heap q + n) (heap_bytes q.pool.info.memory_type q.pool.info.block_size first ∙ ap (λ (i : PoolInfo). bytes_on first (Some (i.memory_type, i.block_size))) (sym alike.info))

  -- ---- memory objects

  same_kind : (i : ℕ) → own_memory i (option_and_then (λ n. slice_index_or (map kind_of m.objects) n None) (object_of b i)) ≡ own_memory i (option_and_then (λ n. slice_index_or (map kind_of after.objects) n None) (object_of b i))
  same_kind i = go takes (object_of b i) refl
    where
      go : Takes was now m after (request_in asked) upper s → (o : Option ℕ) → object_of b i ≡ o → own_memory i (option_and_then (λ n. slice_index_or (map kind_of m.objects) n None) o) ≡ own_memory i (option_and_then (λ n. slice_index_or (map kind_of after.objects) n None) o)
      go t None e = refl
      go (inl t) (Some n) e = ap (λ (x : MemoryState). own_memory i (slice_index_or (map kind_of x.objects) n None)) (sym t.1)
      go (inr t) (Some n) e =
          ap (λ (k : Option (ℕ × ℕ)). own_memory i k) (sym (kind_stays m was.pool.info.memory_type was.pool.info.block_size n (live_below m n (h.live i n e))))
          ∙ ap (λ (x : MemoryState). own_memory i (slice_index_or (map kind_of x.objects) n None)) (sym t.object)

  -- ---- residents

  same_allocation : (j : ℕ) → (j ≡ id → ⊥) → allocation_by b j ≡ allocation_by new j
  same_allocation j other = go (allocation_of b j) refl ∙ ap (λ (o : Option ℕ). option_and_then (allocation_at new.pools) o) (sym (others j other))
    where
      go : (o : Option ℕ) → allocation_of b j ≡ o → option_and_then (allocation_at b.pools) o ≡ option_and_then (allocation_at new.pools) o
      go None e = refl
      go (Some a) e = let x = h.shared j a e in x.live ∙ sym (old_allocation b m h p was now there place asked upper after takes a x.allocation x.live)

  none_before : (t : ℕ) → resident_of t id (allocation_by b id) ≡ []
  none_before t = ap (λ (o : Option ℕ). resident_of t id (option_and_then (allocation_at b.pools) o)) absent

  its_allocation : allocation_by new id ≡ Some (given b m h p was now there place asked upper after takes)
  its_allocation = ap (λ (o : Option ℕ). option_and_then (allocation_at new.pools) o) here ∙ new_allocated b m h p was now there place asked upper after takes

  same_residents : (t : ℕ) → (t ≡ p → ⊥) → (j : ℕ) → resident_of t j (allocation_by b j) ≡ resident_of t j (allocation_by new j)
  same_residents t away j = elim (cases_eq j id) [
    | inl e ↦ ap (λ (i : ℕ). resident_of t i (allocation_by b i)) e ∙ none_before t
        ∙ sym (ap (λ (v : Bool). if v then record { id = id; from = s; request = request_in asked } ∷ [] else []) (ne_eqb p t (λ f. away (sym f))))
        ∙ ap (λ (o : Option Allocation). resident_of t id o) (sym its_allocation) ∙ ap (λ (i : ℕ). resident_of t i (allocation_by new i)) (sym e)
    | inr other ↦ ap (λ (o : Option Allocation). resident_of t j o) (same_allocation j other)
  ]

  abbrev it : Resident
  it = record { id = id; from = s; request = asks-of }

  now_residents : (j : ℕ) → filter (λ a. a.id == j) (it ∷ q.residents) ≡ resident_of p j (allocation_by new j)
  now_residents j = elim (cases_eq j id) [
    | inl e ↦ picked_in (λ (a : Resident). a.id) j it q.residents (sym e)
        ∙ ap (λ (l : List Resident). it ∷ l) ((its_pools b m d is pool p named was there).4.residents j ∙ ap (λ (i : ℕ). resident_of p i (allocation_by b i)) e ∙ none_before p)
        ∙ ap (λ (x : Request). record { id = id; from = s; request = x } ∷ []) same_asked
        ∙ sym (ap (λ (v : Bool). if v then record { id = id; from = s; request = request_in asked } ∷ [] else []) (eq-eqb p p refl))
        ∙ ap (λ (o : Option Allocation). resident_of p id o) (sym its_allocation) ∙ ap (λ (i : ℕ). resident_of p i (allocation_by new i)) (sym e)
    | inr other ↦ picked_out (λ (a : Resident). a.id) j it q.residents (λ e. other (sym e)) ∙ (its_pools b m d is pool p named was there).4.residents j ∙ ap (λ (o : Option Allocation). resident_of p j o) (same_allocation j other)
  ]

  -- ---- each pool

  other_pools : (i : ℕ) → (i ≡ pool → ⊥) → (o : Option ℕ) → pool_of b i ≡ o → (qs : List PoolMemory) → ArePoolsOf b i o qs → ArePoolsOf new i o (map (change with_it) qs)
  other_pools i other None e qs are = ap (λ (l : List PoolMemory). map (change with_it) l) are
  other_pools i other (Some t) e qs are =
      let away : t ≡ p → ⊥ = λ (f : t ≡ p). other (h.one_pool i pool p (e ∙ ap (λ (n : ℕ). Some n) f) named) in (
        are.0,
        are.1,
        ap (λ (l : List PoolMemory). map (change with_it) l) are.2 ∙ ap (λ (x : PoolMemory). x ∷ []) (change_other with_it are.0 (λ f. other (sym are.4.id_is ∙ f ∙ id_is))),
        pool_other b m h p was now there place asked upper after takes t away ∙ are.3,
        record { id_is = are.4.id_is; pool = are.4.pool; residents = λ j. are.4.residents j ∙ same_residents t away j },
      )

  its_new : ArePoolsOf new pool (Some p) (map (change with_it) (filter (λ o. o.id == pool) d.pools))
  its_new = (
    with_it,
    now,
    ap (λ (l : List PoolMemory). map (change with_it) l) (its_pools b m d is pool p named was there).2 ∙ ap (λ (x : PoolMemory). x ∷ []) (change_it with_it q refl),
    pool_here b m h p was now there place asked upper after takes,
    record { id_is = id_is; pool = now_alike; residents = now_residents },
  )

  mapped_pools : (i : ℕ) → ArePoolsOf new i (pool_of b i) (map (change with_it) (filter (λ o. o.id == i) d.pools))
  mapped_pools i = elim (cases_eq i pool) [
    | inl e ↦ subst (λ (j : ℕ). ArePoolsOf new j (pool_of b j) (map (change with_it) (filter (λ o. o.id == j) d.pools))) (sym e) (subst (λ (o : Option ℕ). ArePoolsOf new pool o (map (change with_it) (filter (λ o. o.id == pool) d.pools))) (sym named) its_new)
    | inr other ↦ other_pools i other (pool_of b i) refl (filter (λ o. o.id == i) d.pools) (is.pools i)
  ]

  pub share_allotted : Fulfils (allotted new after) (with_pool with_it d)
  share_allotted = record {
    sizes = go-sizes takes;
    used = λ first. go-used first takes;
    count = go-count takes;
    objects = λ i. is.objects i ∙ same_kind i;
    pools = λ i. subst (λ (qs : List PoolMemory). ArePoolsOf new i (pool_of b i) qs) (sym (picked_map (λ (o : PoolMemory). o.id) (change with_it) (keeps_id with_it) i d.pools)) (mapped_pools i);
  }
    where
      go-sizes : Takes was now m after (request_in asked) upper s → after.sizes ≡ d.sizes
      go-sizes (inl t) = ap (λ (x : MemoryState). x.sizes) t.1 ∙ is.sizes
      go-sizes (inr t) = ap (λ (x : MemoryState). x.sizes) t.object ∙ is.sizes

      go-used : (first : Bool) → Takes was now m after (request_in asked) upper s → (heaps_of (with_pool with_it d)).used (if first then 0 else 1) ≡ sum_by (bytes_on first) (map kind_of after.objects)
      go-used first (inl t) =
          let c = changed_sum (pool_bytes (if first then 0 else 1)) in let u = is.used first in let o = bytes_old (if first then 0 else 1) t.0.has in
          let k = ap (λ (x : MemoryState). sum_by (bytes_on first) (map kind_of x.objects)) t.1 in omega (arith, c, u, o, k)
      go-used first (inr t) =
          let c = changed_sum (pool_bytes (if first then 0 else 1)) in let u = is.used first in let o = bytes_new first t.is_new in
          let k = ap (λ (x : MemoryState). sum_by (bytes_on first) (map kind_of x.objects)) t.object
          ∙ ap (λ (l : List (Option (ℕ × ℕ))). sum_by (bytes_on first) l) (grown_kinds m was.pool.info.memory_type was.pool.info.block_size) ∙ sum_by_push (bytes_on first) (map kind_of m.objects) (Some (was.pool.info.memory_type, was.pool.info.block_size)) in
          omega (arith, c, u, o, k)

      go-count : Takes was now m after (request_in asked) upper s → (heaps_of (with_pool with_it d)).objects ≡ sum_by one_if (map kind_of after.objects)
      go-count (inl t) =
          let c = changed_sum (λ (o : PoolMemory). length o.pool.blocks) in let o = old-blocks q.pool asks-of upper s (omega (arith, t.0.has, alike.next)) in
          let k = ap (λ (x : MemoryState). sum_by one_if (map kind_of x.objects)) t.1 in omega (arith, c, is.count, o, k)
      go-count (inr t) =
          let c = changed_sum (λ (o : PoolMemory). length o.pool.blocks) in let o = blocks_new q.pool asks-of upper s (t.is_new ∙ alike.next) in
          let k = ap (λ (x : MemoryState). sum_by one_if (map kind_of x.objects)) t.object
          ∙ ap (λ (l : List (Option (ℕ × ℕ))). sum_by one_if l) (grown_kinds m was.pool.info.memory_type was.pool.info.block_size) ∙ sum_by_push one_if (map kind_of m.objects) (Some (was.pool.info.memory_type, was.pool.info.block_size)) in
          omega (arith, c, is.count, o, k)
