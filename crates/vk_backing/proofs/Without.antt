-- What is allocated when what an id had has ended.
use Rattle.std.proofs.Common.{◌≡◌, ℕ, ◌+◌, ◌*◌, List, [], map, length, Bool, not, ◌==◌, Option, Some, None, refl, sym, ap, subst, ◌∙◌, arith, inl, inr}
use Rattle.std.specs.Prelude.{if◌then◌else◌, slice_index_or, sum_by}
use Rattle.std.specs.Option.{option_and_then}
use Rattle.std.specs.List.{filter, fold}
use Rattle.std.proofs.lemmas.Bool.{cases_eq}
use Rattle.std.proofs.lemmas.List.Sums.{sum_by-cons}
use Rattle.std.proofs.lemmas.List.Filters.{sum_by-filter_both, length-filter_both}
use Rattle.vk_memory.specs.declared.memories.Object.{Object}
use Rattle.vk_memory.specs.MemoryState.{MemoryState, IsLive, object_at, with_object}
use Rattle.vk_model.specs.Memory.Room.{heap_of}
use Rattle.vk_model.specs.Memory.MoveTargets.{Resident}
use Rattle.vk_model.specs.Memory.Pools.{Pool, pool_without}
use Rattle.vk_model.specs.Memory.Allocations.{Allocated, OwnMemory, PoolMemory, without, without_resident}
use Rattle.vma_pools.specs.Alike.{IsAlikePool}
use Rattle.vma_pools.specs.declared.allocations.Allocation.{Allocation}
use Rattle.vma_pools.specs.Pools.{Kept}
use Rattle.vma_pools.specs.State.{pool_at, allocation_at}
use Rattle.vk_backing.specs.declared.backing.Own.{Own}
use Rattle.vk_backing.specs.Backed.{Backed, own_in, object_of, pool_of, allocation_of, allocation_by, IsBacked}
use Rattle.vk_backing.specs.Allotted.{allotted, kind_of, bytes_on, one_if, own_memory, resident_of, IsPoolMemory, ArePoolsOf, Fulfils}
use Rattle.vk_backing.proofs.Keyed.{IsIn, left_none, left_other, picked_map, in_one, not_in, sum_same}
use Rattle.vk_backing.proofs.Grown.{some_there}
use Rattle.vk_backing.proofs.Freed.{kind_kept, kind_here, freed_sum}
use Rattle.vk_backing.proofs.Owning.{heap_bytes}
use Rattle.vk_backing.proofs.Turned.{Stays, stays, turned, turned_residents}
use Rattle.vk_backing.proofs.Releasing.{own_live, object_gone, object_left}

abbrev pub kind_at : MemoryState → ℕ → Option (ℕ × ℕ)
kind_at m n = slice_index_or (map kind_of m.objects) n None

module _ (b : Backed) (m : MemoryState) (h : IsBacked b m) (d : Allocated) (is : Fulfils (allotted b m) d) (id : ℕ) where
  -- ---- memory objects outside pools

  abbrev kind : Option (ℕ × ℕ)
  kind = option_and_then (kind_at m) (object_of b id)

  pub left_sum : (f : OwnMemory → ℕ) → sum_by f (filter (λ o. not (o.owner == id)) d.objects) + sum_by f (own_memory id kind) ≡ sum_by f d.objects
  left_sum f =
      let s = sum_by-filter_both (λ (o : OwnMemory). o.owner == id) (λ (o : OwnMemory). not (o.owner == id)) (λ o. refl) f d.objects in
      let o = ap (λ (l : List OwnMemory). sum_by f l) (is.objects id) in omega (arith, s, o)

  pub left_count : length (filter (λ o. not (o.owner == id)) d.objects) + length (own_memory id kind) ≡ length d.objects
  left_count =
      let s = length-filter_both (λ (o : OwnMemory). o.owner == id) (λ (o : OwnMemory). not (o.owner == id)) (λ o. refl) d.objects in
      let o = ap (λ (l : List OwnMemory). length l) (is.objects id) in omega (arith, s, o)

  own_bytes : (first : Bool) (k : Option (ℕ × ℕ)) → sum_by (λ o. if heap_of o.memory_type == (if first then 0 else 1) then o.size else 0) (own_memory id k) ≡ bytes_on first k
  own_bytes first None = refl
  own_bytes first (Some k) =
      let s = sum_by-cons (λ (o : OwnMemory). if heap_of o.memory_type == (if first then 0 else 1) then o.size else 0) (record { owner = id; memory_type = k.0; size = k.1 }) [] in
      let e = heap_bytes k.0 k.1 first in omega (arith, s, e)

  own_count : (k : Option (ℕ × ℕ)) → length (own_memory id k) ≡ one_if k
  own_count None = refl
  own_count (Some k) = refl

  -- what is left of them
  module _ (c : Backed) (after : MemoryState) (none : object_of c id ≡ None) (others : (i : ℕ) → (i ≡ id → ⊥) → object_of c i ≡ object_of b i) (kept : (i n : ℕ) → (i ≡ id → ⊥) → object_of b i ≡ Some n → kind_at after n ≡ kind_at m n) where
    pub left_objects : (i : ℕ) → filter (λ o. o.owner == i) (filter (λ o. not (o.owner == id)) d.objects) ≡ own_memory i (option_and_then (kind_at after) (object_of c i))
    left_objects i = elim (cases_eq i id) [
      | inl e ↦ ap (λ (j : ℕ). filter (λ o. o.owner == j) (filter (λ o. not (o.owner == id)) d.objects)) e ∙ left_none (λ (o : OwnMemory). o.owner) id d.objects
          ∙ ap (λ (o : Option ℕ). own_memory i (option_and_then (kind_at after) o)) (sym none ∙ ap (λ (j : ℕ). object_of c j) (sym e))
      | inr other ↦ left_other (λ (o : OwnMemory). o.owner) i id d.objects other ∙ is.objects i ∙ ap (λ (k : Option (ℕ × ℕ)). own_memory i k) (go other (object_of b i) refl)
          ∙ ap (λ (o : Option ℕ). own_memory i (option_and_then (kind_at after) o)) (sym (others i other))
    ]
      where
        go : (i ≡ id → ⊥) → (o : Option ℕ) → object_of b i ≡ o → option_and_then (kind_at m) o ≡ option_and_then (kind_at after) o
        go other None e = refl
        go other (Some n) e = sym (kept i n other e)

  -- ---- pools

  -- each pool of the device is one of an id
  pub each_pool : (q : PoolMemory) → IsIn (λ (o : PoolMemory). o.id) q d.pools → (t : ℕ) × (k : Kept) × (pool_of b q.id ≡ Some t) × (pool_at b.pools t ≡ Some k) × IsPoolMemory b q.id t k q
  each_pool q there = go (pool_of b q.id) refl (is.pools q.id)
    where
      go : (o : Option ℕ) → pool_of b q.id ≡ o → ArePoolsOf b q.id o (filter (λ x. x.id == q.id) d.pools) → (t : ℕ) × (k : Kept) × (pool_of b q.id ≡ Some t) × (pool_at b.pools t ≡ Some k) × IsPoolMemory b q.id t k q
      go None e are = absurd (not_in (λ (o : PoolMemory). o.id) q d.pools q.id refl there are)
      go (Some t) e are = (t, are.1, e, are.3, subst (λ (x : PoolMemory). IsPoolMemory b q.id t are.1 x) (in_one (λ (o : PoolMemory). o.id) q are.0 d.pools there are.2) are.4)

  -- where a resource has no place a pool stays as it is
  pub same_pool : (q : PoolMemory) → filter (λ a. a.id == id) q.residents ≡ [] → (without_resident id q).pool ≡ q.pool
  same_pool q none = ap (λ (l : List Resident). fold (λ p a. pool_without p a.from) q.pool l) none

  module _ (c : Backed) (none : allocation_of c id ≡ None) (same : (t j : ℕ) → (j ≡ id → ⊥) → resident_of t j (allocation_by b j) ≡ resident_of t j (allocation_by c j)) where
    pub left_residents : (i t : ℕ) (k : Kept) (q : PoolMemory) → IsPoolMemory b i t k q → (j : ℕ) → filter (λ a. a.id == j) (filter (λ a. not (a.id == id)) q.residents) ≡ resident_of t j (allocation_by c j)
    left_residents i t k q its j = elim (cases_eq j id) [
      | inl e ↦ ap (λ (l : ℕ). filter (λ a. a.id == l) (filter (λ a. not (a.id == id)) q.residents)) e ∙ left_none (λ (a : Resident). a.id) id q.residents
          ∙ ap (λ (o : Option ℕ). resident_of t j (option_and_then (allocation_at c.pools) o)) (sym none ∙ ap (λ (l : ℕ). allocation_of c l) (sym e))
      | inr other ↦ left_other (λ (a : Resident). a.id) j id q.residents other ∙ its.residents j ∙ same t j other
    ]

  -- ---- where it has no place in a pool

  module _ (unshared : allocation_of b id ≡ None) where
    none_there : (t : ℕ) → resident_of t id (allocation_by b id) ≡ []
    none_there t = ap (λ (o : Option ℕ). resident_of t id (option_and_then (allocation_at b.pools) o)) unshared

    pools_sum : (f : Pool → ℕ) → sum_by (λ q. f q.pool) (map (without_resident id) d.pools) ≡ sum_by (λ q. f q.pool) d.pools
    pools_sum f =
        sum_same (λ (o : PoolMemory). o.id) (λ (q : PoolMemory). f q.pool) (without_resident id) d.pools
        (λ q there. let e = each_pool q there in ap f (same_pool q (e.4.residents id ∙ none_there e.0)))

    module _ (owned : List (ℕ × Own)) (allocations : List (Option Allocation)) (stay : (j a : ℕ) → allocation_of b j ≡ Some a → Stays (allocation_at b.pools a) (slice_index_or allocations a None)) where
      pools_left : (i : ℕ) (o : Option ℕ) (qs : List PoolMemory) → ArePoolsOf b i o qs → ArePoolsOf (turned b m h owned allocations stay) i o (map (without_resident id) qs)
      pools_left i None qs are = ap (λ (l : List PoolMemory). map (without_resident id) l) are
      pools_left i (Some t) qs are = (
        without_resident id are.0,
        are.1,
        ap (λ (l : List PoolMemory). map (without_resident id) l) are.2,
        are.3,
        record {
          id_is = are.4.id_is;
          pool = subst (λ (x : Pool). IsAlikePool x are.1.pool) (sym (same_pool are.0 (are.4.residents id ∙ none_there t))) are.4.pool;
          residents = λ j. left_residents (turned b m h owned allocations stay) unshared (λ t j other. turned_residents b m h owned allocations stay t j) i t are.1 are.0 are.4 j;
        },
      )

    -- nothing of it was allocated
    pub nothing_allotted : object_of b id ≡ None → Fulfils (allotted b m) (without id d)
    nothing_allotted none = record {
      sizes = is.sizes;
      used = λ first.
          let heap : ℕ = if first then 0 else 1 in
          let l = left_sum (λ (o : OwnMemory). if heap_of o.memory_type == heap then o.size else 0) in
          let z = ap (λ (o : Option ℕ). sum_by (λ (o : OwnMemory). if heap_of o.memory_type == heap then o.size else 0) (own_memory id (option_and_then (kind_at m) o))) none in
          let p = pools_sum (λ (x : Pool). if heap_of x.info.memory_type == heap then length x.blocks * x.info.block_size else 0) in
          let u = is.used first in omega (arith, l, z, p, u);
      count =
          let z = ap (λ (o : Option ℕ). length (own_memory id (option_and_then (kind_at m) o))) none in
          let p = pools_sum (λ (x : Pool). length x.blocks) in omega (arith, left_count, z, p, is.count);
      objects = left_objects b m none (λ i other. refl) (λ i n other e. refl);
      pools = λ i. subst (λ (qs : List PoolMemory). ArePoolsOf b i (pool_of b i) qs) (sym (picked_map (λ (o : PoolMemory). o.id) (without_resident id) (λ q. refl) i d.pools)) (pools_left b.owned b.pools.allocations (λ j a e. stays (allocation_at b.pools a) (allocation_at b.pools a) (λ x is. is)) i (pool_of b i) (filter (λ q. q.id == i) d.pools) (is.pools i));
    }

    -- a memory object of its own was
    module _ (n : ℕ) (its : object_of b id ≡ Some n) (owned : List (ℕ × Own)) (gone : own_in owned id ≡ None) (others : (i : ℕ) → (i ≡ id → ⊥) → own_in owned i ≡ own_in b.owned i)
        (allocations : List (Option Allocation)) (stay : (j a : ℕ) → allocation_of b j ≡ Some a → Stays (allocation_at b.pools a) (slice_index_or allocations a None)) where
      lives : IsLive m n
      lives = own_live b m h id n its owned gone others allocations stay

      abbrev object : (o : Object) × (object_at m n ≡ Some o)
      object = some_there (object_at m n) lives

      kind_is : kind ≡ Some (object.0.memory_type, object.0.size)
      kind_is = ap (λ (o : Option ℕ). option_and_then (kind_at m) o) its ∙ kind_here m n lives object.0 object.1

      pub freed_allotted : Fulfils (allotted (turned b m h owned allocations stay) (with_object m n None)) (without id d)
      freed_allotted = record {
        sizes = is.sizes;
        used = λ first.
            let heap : ℕ = if first then 0 else 1 in
            let l = left_sum (λ (o : OwnMemory). if heap_of o.memory_type == heap then o.size else 0) in
            let z = own_bytes first kind ∙ ap (λ (k : Option (ℕ × ℕ)). bytes_on first k) kind_is in
            let p = pools_sum (λ (x : Pool). if heap_of x.info.memory_type == heap then length x.blocks * x.info.block_size else 0) in
            let s = freed_sum m n lives (bytes_on first) refl object.0 object.1 in
            let u = is.used first in omega (arith, l, z, p, s, u);
        count =
            let z = own_count kind ∙ ap (λ (k : Option (ℕ × ℕ)). one_if k) kind_is in
            let p = pools_sum (λ (x : Pool). length x.blocks) in
            let s = freed_sum m n lives one_if refl object.0 object.1 in omega (arith, left_count, z, p, s, is.count);
        objects = left_objects (turned b m h owned allocations stay) (with_object m n None) (object_gone b m h id n its owned gone others allocations stay) (object_left b m h id n its owned gone others allocations stay) (λ i k other e. kind_kept m n lives k (λ f. other (h.own i id n (e ∙ ap (λ (j : ℕ). Some j) f) its)));
        pools = λ i. subst (λ (qs : List PoolMemory). ArePoolsOf (turned b m h owned allocations stay) i (pool_of b i) qs) (sym (picked_map (λ (o : PoolMemory). o.id) (without_resident id) (λ q. refl) i d.pools)) (pools_left owned allocations stay i (pool_of b i) (filter (λ q. q.id == i) d.pools) (is.pools i));
      }
