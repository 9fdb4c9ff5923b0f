-- A pool is made, and ends.
use Rattle.std.proofs.Common.{◌≡◌, ℕ, ◌*◌, ◌<◌, List, [], ◌∷◌, ◌++◌, set, length, Bool, true, false, not, ◌==◌, Option, Some, None, refl, sym, ap, subst, ◌∙◌, arith, inl, inr, ◌⊎◌}
use Rattle.std.specs.Prelude.{if◌then◌else◌, sum_by, Contains, All, IsTrue}
use Rattle.std.proofs.lemmas.List.Elements.{All-head}
use Rattle.std.specs.Option.{option_and_then}
use Rattle.std.specs.List.{filter}
use Rattle.std.proofs.lemmas.Bool.{cases_eq, ne_eqb}
use Rattle.std.proofs.lemmas.List.Sums.{sum_by_push, sum_by-cons}
use Rattle.std.proofs.lemmas.List.Filters.{sum_by-filter_both}
use Rattle.vk_memory.specs.MemoryState.{MemoryState}
use Rattle.vk_model.specs.declared.resource.PoolInfo.{PoolInfo}
use Rattle.vk_model.specs.Memory.Suballocation.{Taken}
use Rattle.vk_model.specs.Memory.Room.{heap_of, is_none_left}
use Rattle.vk_model.specs.Memory.Pools.{Pool, PoolBlock, empty_pool, block_taken, has_some_taken}
use Rattle.vk_model.specs.Memory.Allocations.{Allocated, PoolMemory, pool_bytes}
use Rattle.vma_pools.specs.Pools.{Kept}
use Rattle.vma_pools.specs.declared.pool.PoolPlace.{PoolPlace}
use Rattle.vma_pools.specs.declared.allocations.Allocation.{Allocation}
use Rattle.vma_pools.specs.declared.allocations.Home.{Home}
use Rattle.vma_pools.specs.declared.allocations.Home.TheVariants as home
use Rattle.vma_pools.specs.Ranges.{HasRange}
use Rattle.vma_pools.specs.State as pools
use Rattle.vma_pools.specs.State.{PoolsState, pool_at, allocation_at, start_of, request_in, shared_place, reserved_place, held_place, Owner, Alone, BlockOf, Has, ArePools, Backs}
use Rattle.vma_pools.proofs.NumberLemmas.{at-more, at-old, at-new, at-below, at-set, at-other}
use Rattle.vma_pools.proofs.CallLemmas.{own-places}
use Rattle.vma_pools.proofs.PoolAlike.{pool-refl, are-length}
use Rattle.vma_pools.proofs.StateLemmas.{some-is}
use Rattle.vk_backing.specs.Backed.{Backed, number_in, pool_of, allocation_of, allocation_by, IsBacked, IsWhole}
use Rattle.vk_backing.specs.Steps.{IsUnused}
use Rattle.vk_backing.specs.Allotted.{allotted, resident_at, resident_of, ArePoolsOf, Fulfils}
use Rattle.vk_backing.proofs.Spots.{home_pool}
use Rattle.vk_backing.proofs.Keyed.{push_here, push_other, left_none, left_other}

-- a pool in which nothing lies has no residents
pub elsewhere : (b : Backed) (m : MemoryState) → IsBacked b m → (p : ℕ) → ((k : Kept) (place : PoolPlace) (a : Allocation) (n : ℕ) → pool_at b.pools p ≡ Some k → allocation_at b.pools n ≡ Some a → a.home ≡ home.Shared p place → ⊥) → (r : ℕ) → [] ≡ resident_of p r (allocation_by b r)
elsewhere b m h p none r = go (allocation_of b r) refl
  where
    go : (o : Option ℕ) → allocation_of b r ≡ o → [] ≡ resident_of p r (option_and_then (allocation_at b.pools) o)
    go None e = refl
    go (Some n) e =
        let s = h.shared r n e in
        let k = h.named s.id s.pool s.named in
        let other : s.pool ≡ p → ⊥ = λ (is : s.pool ≡ p). none k.0 s.place s.allocation n (ap (λ (q : ℕ). pool_at b.pools q) (sym is) ∙ k.1) s.live (s.lies ∙ ap (λ (q : ℕ). home.Shared q s.place) is) in
        sym
        (ap (λ (o : Option Allocation). resident_of p r o) s.live ∙ ap (λ (l : Home). resident_at p r s.allocation.asked l) s.lies
        ∙ ap (λ (v : Bool). if v then record { id = r; from = start_of s.place; request = request_in s.allocation.asked } ∷ [] else []) (ne_eqb s.pool p other))

-- no bytes of no blocks
no_bytes : (v : Bool) (size : ℕ) → (if v then 0 * size else 0) ≡ 0
no_bytes true size = omega arith
no_bytes false size = refl

-- ---- one more

module _ (b : Backed) (m : MemoryState) (h : IsBacked b m) (info : PoolInfo) where
  abbrev first : Kept
  first = record { pool = empty_pool info; memories = [] }

  abbrev pub with_pool : List (ℕ × ℕ) → Backed
  with_pool numbers = record b { pools = record b.pools { pools = b.pools.pools ++ Some first ∷ [] }; numbers = numbers }

  abbrev count : ℕ
  count = length b.pools.pools

  pool_was : (numbers : List (ℕ × ℕ)) (p : ℕ) (k : Kept) → pool_at (with_pool numbers).pools p ≡ Some k → (pool_at b.pools p ≡ Some k) ⊎ ((p ≡ count) × (first ≡ k))
  pool_was numbers p k at = elim (at-more b.pools.pools (Some first) p k at) [ inl old ↦ inl old | inr new ↦ inr (new.0, some-is first k new.1) ]

  none_has : (numbers : List (ℕ × ℕ)) (x : Owner) (n : ℕ) → Has (with_pool numbers).pools x n → Has b.pools x n
  none_has numbers (Alone i) n has = has
  none_has numbers (BlockOf p j) n has = elim (pool_was numbers p has.0 has.1) [
    | inl old ↦ (has.0, old, has.2, has.3)
    | inr new ↦ absurd (let lt = subst (λ (k : Kept). j < length k.memories) (sym new.1) has.2 in omega (arith, lt))
  ]

  -- whatever numbers ids have, that are those of the pools before it, and the new one's
  module _ (numbers : List (ℕ × ℕ)) (always : ArePools (with_pool numbers).pools) (backs : Backs (with_pool numbers).pools m)
      (was : (i p : ℕ) → number_in numbers i ≡ Some p → (pool_of b i ≡ Some p) ⊎ (p ≡ count)) (still : (i p : ℕ) → pool_of b i ≡ Some p → number_in numbers i ≡ Some p)
      (one : (i j : ℕ) → number_in numbers i ≡ Some count → number_in numbers j ≡ Some count → i ≡ j) where
    old_below : (i p : ℕ) → pool_of b i ≡ Some p → p < count
    old_below i p has = let k = h.named i p has in at-below b.pools.pools p k.0 k.1

    pub pool_backed : IsBacked (with_pool numbers) m
    pool_backed = record {
      pools = always;
      backs = backs;
      matched = λ p k at. elim (pool_was numbers p k at) [ inl old ↦ h.matched p k old | inr new ↦ subst (λ (k : Kept). length k.memories ≡ length k.pool.blocks) new.1 refl ];
      sized = h.sized;
      live = h.live;
      own = h.own;
      apart = λ i n x has its. h.apart i n x has (none_has numbers x n its);
      dedicated = h.dedicated;
      either = h.either;
      named = λ i p has. elim (was i p has) [
        | inl old ↦ (let k = h.named i p old in (k.0, at-old b.pools.pools (Some first) p k.0 k.1))
        | inr new ↦ (first, ap (λ (n : ℕ). pool_at (with_pool numbers).pools n) new ∙ at-new b.pools.pools (Some first))
      ];
      one_pool = λ i j p x y. elim (was i p x) [
        | inl old ↦ elim (was j p y) [
          | inl too ↦ h.one_pool i j p old too
          | inr new ↦ (let l = old_below i p old in absurd (omega (arith, l, new)))
        ]
        | inr new ↦ one i j (x ∙ ap (λ (n : ℕ). Some n) new) (y ∙ ap (λ (n : ℕ). Some n) new)
      ];
      shared = λ i a has. let s = h.shared i a has in record {
        allocation = s.allocation;
        live = s.live;
        aligned = λ p place k lies at cached. elim (pool_was numbers p k at) [
          | inl old ↦ s.aligned p place k lies old cached
          | inr new ↦ (let low = old_below s.id s.pool s.named in let same = home_pool s.pool p s.place place (sym s.lies ∙ lies) in absurd (omega (arith, low, same, new.0)))
        ];
        pool = s.pool;
        place = s.place;
        lies = s.lies;
        id = s.id;
        named = still s.id s.pool s.named;
      };
      one = h.one;
    }

  -- no id has it yet
  pub pool_unnamed : ArePools (with_pool b.numbers).pools → Backs (with_pool b.numbers).pools m → IsBacked (with_pool b.numbers) m
  pool_unnamed always backs = pool_backed b.numbers always backs (λ i p has. inl has) (λ i p has. has) (λ i j x y. let k = h.named i count x in absurd (let l = at-below b.pools.pools count k.0 k.1 in omega (arith, l)))

  pub pool_named : (id : ℕ) → pool_of b id ≡ None → (numbers : List (ℕ × ℕ)) → number_in numbers id ≡ Some count → ((i : ℕ) → (i ≡ id → ⊥) → number_in numbers i ≡ pool_of b i) → ArePools (with_pool numbers).pools → Backs (with_pool numbers).pools m → IsBacked (with_pool numbers) m
  pool_named id absent numbers here others always backs =
      pool_backed numbers always backs was
      (λ i p has. others i (λ is. let e = sym absent ∙ ap (λ (j : ℕ). pool_of b j) (sym is) ∙ has in cc) ∙ has)
      (λ i j x y. it i x ∙ sym (it j y))
    where
      was : (i p : ℕ) → number_in numbers i ≡ Some p → (pool_of b i ≡ Some p) ⊎ (p ≡ count)
      was i p has = elim (cases_eq i id) [
        | inl is ↦ inr (some-is p count (sym has ∙ ap (λ (j : ℕ). number_in numbers j) is ∙ here))
        | inr other ↦ inl (sym (others i other) ∙ has)
      ]

      it : (i : ℕ) → number_in numbers i ≡ Some count → i ≡ id
      it i has = elim (cases_eq i id) [
        | inl is ↦ is
        | inr other ↦ absurd (let k = h.named i count (sym (others i other) ∙ has) in let l = at-below b.pools.pools count k.0 k.1 in omega (arith, l))
      ]

  -- ---- what is allocated then

  module _ (id : ℕ) (absent : pool_of b id ≡ None) (numbers : List (ℕ × ℕ)) (here : number_in numbers id ≡ Some count) (others : (i : ℕ) → (i ≡ id → ⊥) → number_in numbers i ≡ pool_of b i) (d : Allocated) (is : Fulfils (allotted b m) d) where
    abbrev new : PoolMemory
    new = record { id = id; pool = empty_pool info; residents = []; moves = [] }

    kept_pools : (i : ℕ) (o : Option ℕ) (qs : List PoolMemory) → ArePoolsOf b i o qs → ArePoolsOf (with_pool numbers) i o qs
    kept_pools i None qs are = are
    kept_pools i (Some p) qs are = (are.0, are.1, are.2, at-old b.pools.pools (Some first) p are.1 are.3, record { id_is = are.4.id_is; pool = are.4.pool; residents = are.4.residents })

    none_of : (qs : List PoolMemory) → ArePoolsOf b id (pool_of b id) qs → qs ≡ []
    none_of qs are = subst (λ (o : Option ℕ). ArePoolsOf b id o qs) absent are

    past : (k : Kept) (place : PoolPlace) (a : Allocation) (n : ℕ) → pool_at b.pools count ≡ Some k → allocation_at b.pools n ≡ Some a → a.home ≡ home.Shared count place → ⊥
    past k place a n at live lies = let l = at-below b.pools.pools count k at in omega (arith, l)

    pub pool_allotted : Fulfils (allotted (with_pool numbers) m) (record d { pools = d.pools ++ new ∷ [] })
    pool_allotted = record {
      sizes = is.sizes;
      used = λ first.
          let heap : ℕ = if first then 0 else 1 in
          let p = sum_by_push (pool_bytes heap) d.pools new in
          let z = no_bytes (heap_of info.memory_type == heap) info.block_size in let q = is.used first in omega (arith, p, q, z);
      count = let p = sum_by_push (λ (q : PoolMemory). length q.pool.blocks) d.pools new in omega (arith, p, is.count);
      objects = is.objects;
      pools = λ i. elim (cases_eq i id) [
        | inl e ↦ subst (λ (o : Option ℕ). ArePoolsOf (with_pool numbers) i o (filter (λ q. q.id == i) (d.pools ++ new ∷ []))) (sym (ap (λ (j : ℕ). number_in numbers j) e ∙ here)) (
          new,
          first,
          push_here (λ (q : PoolMemory). q.id) i d.pools new (sym e) ∙ ap (λ (l : List PoolMemory). l ++ new ∷ []) (ap (λ (j : ℕ). filter (λ q. q.id == j) d.pools) e ∙ none_of (filter (λ q. q.id == id) d.pools) (is.pools id)),
          at-new b.pools.pools (Some first),
          record { id_is = sym e; pool = pool-refl (empty_pool info); residents = λ r. elsewhere b m h count past r },
        )
        | inr other ↦ subst (λ (qs : List PoolMemory). ArePoolsOf (with_pool numbers) i (number_in numbers i) qs) (sym (push_other (λ (q : PoolMemory). q.id) i d.pools new (λ e. other (sym e))))
            (subst (λ (o : Option ℕ). ArePoolsOf (with_pool numbers) i o (filter (λ q. q.id == i) d.pools)) (sym (others i other)) (kept_pools i (pool_of b i) (filter (λ q. q.id == i) d.pools) (is.pools i)))
      ];
    }

-- ---- one less

module _ (b : Backed) (m : MemoryState) (h : IsBacked b m) (id p : ℕ) (its : pool_of b id ≡ Some p) (k : Kept) (there : pool_at b.pools p ≡ Some k) (empty : k.pool.blocks ≡ [])
    (numbers : List (ℕ × ℕ)) (gone : number_in numbers id ≡ None) (others : (i : ℕ) → (i ≡ id → ⊥) → number_in numbers i ≡ pool_of b i) where
  abbrev pub dropped : Backed
  dropped = record b { pools = record b.pools { pools = set b.pools.pools p None }; numbers = numbers }

  pool_left : (q : ℕ) (l : Kept) → pool_at dropped.pools q ≡ Some l → (pool_at b.pools q ≡ Some l) × (q ≡ p → ⊥)
  pool_left q l at = elim (cases_eq q p) [
    | inl is ↦ absurd (let e = sym (at-set b.pools.pools p None (at-below b.pools.pools p k there)) ∙ ap (λ (n : ℕ). pool_at dropped.pools n) (sym is) ∙ at in cc)
    | inr other ↦ (sym (at-other b.pools.pools p q None other) ∙ at, other)
  ]

  still_has : (x : Owner) (n : ℕ) → Has dropped.pools x n → Has b.pools x n
  still_has (Alone i) n has = has
  still_has (BlockOf q j) n has = (has.0, (pool_left q has.0 has.1).0, has.2, has.3)

  -- nothing lies in it
  nothing : (n : ℕ) (a : Allocation) (place : PoolPlace) → allocation_at b.pools n ≡ Some a → a.home ≡ home.Shared p place → ⊥
  nothing n a place live lies =
      let t = h.pools.taken n false p place a.asked (record { allocation = a; live = live; there = ap shared_place lies; asks = refl }) in
      let has = subst (λ (l : List PoolBlock). Contains l t.2.block) (ap (λ (l : Kept). l.pool.blocks) (some-is t.0 k (sym t.1 ∙ there)) ∙ empty) t.2.there in
      omega (arith, has.1)

  named_was : (i q : ℕ) → number_in numbers i ≡ Some q → (pool_of b i ≡ Some q) × (i ≡ id → ⊥)
  named_was i q has = elim (cases_eq i id) [
    | inl is ↦ absurd (let e = sym gone ∙ ap (λ (j : ℕ). number_in numbers j) (sym is) ∙ has in cc)
    | inr other ↦ (sym (others i other) ∙ has, other)
  ]

  not_it : (i q : ℕ) → pool_of b i ≡ Some q → (i ≡ id → ⊥) → q ≡ p → ⊥
  not_it i q has other is = other (h.one_pool i id p (has ∙ ap (λ (n : ℕ). Some n) is) its)

  pub drop_backed : ArePools dropped.pools → Backs dropped.pools m → IsBacked dropped m
  drop_backed always backs = record {
    pools = always;
    backs = backs;
    matched = λ q l at. h.matched q l (pool_left q l at).0;
    sized = h.sized;
    live = h.live;
    own = h.own;
    apart = λ i n x has its. h.apart i n x has (still_has x n its);
    dedicated = h.dedicated;
    either = h.either;
    named = λ i q has.
        let w = named_was i q has in let l = h.named i q w.0 in (l.0, at-other b.pools.pools p q None (not_it i q w.0 w.1) ∙ l.1);
    one_pool = λ i j q x y. h.one_pool i j q (named_was i q x).0 (named_was j q y).0;
    shared = λ i a has.
        let s = h.shared i a has in
        let other : s.id ≡ id → ⊥ = λ (is : s.id ≡ id). nothing a s.allocation s.place s.live (s.lies ∙ ap (λ (q : ℕ). home.Shared q s.place) (some-is s.pool p (sym s.named ∙ ap (λ (j : ℕ). pool_of b j) is ∙ its))) in
        record { allocation = s.allocation; live = s.live; aligned = λ q place l lies at cached. s.aligned q place l lies (pool_left q l at).0 cached; pool = s.pool; place = s.place; lies = s.lies; id = s.id; named = others s.id other ∙ s.named };
    one = h.one;
  }

  module _ (d : Allocated) (is : Fulfils (allotted b m) d) where
    its_pools : ArePoolsOf b id (Some p) (filter (λ q. q.id == id) d.pools)
    its_pools = subst (λ (o : Option ℕ). ArePoolsOf b id o (filter (λ q. q.id == id) d.pools)) its (is.pools id)

    -- the pool of the device has no blocks either
    bare : length its_pools.0.pool.blocks ≡ 0
    bare =
        let l = are-length its_pools.0.pool.blocks its_pools.1.pool.blocks its_pools.4.pool.blocks in
        let e : length its_pools.1.pool.blocks ≡ 0 = ap (λ (l : Kept). length l.pool.blocks) (some-is its_pools.1 k (sym its_pools.3 ∙ there)) ∙ ap (λ (l : List PoolBlock). length l) empty in
        omega (arith, l, e)

    -- so what it counts for is nothing
    less : (f : PoolMemory → ℕ) → f its_pools.0 ≡ 0 → sum_by f (filter (λ q. not (q.id == id)) d.pools) ≡ sum_by f d.pools
    less f zero =
        let s = sum_by-filter_both (λ (q : PoolMemory). q.id == id) (λ (q : PoolMemory). not (q.id == id)) (λ q. refl) f d.pools in
        let o = ap (λ (l : List PoolMemory). sum_by f l) its_pools.2 ∙ sum_by-cons f its_pools.0 [] in
        omega (arith, s, o, zero)

    left_pools : (i : ℕ) → (i ≡ id → ⊥) → (o : Option ℕ) → pool_of b i ≡ o → (qs : List PoolMemory) → ArePoolsOf b i o qs → ArePoolsOf dropped i o qs
    left_pools i other None e qs are = are
    left_pools i other (Some q) e qs are = (are.0, are.1, are.2, at-other b.pools.pools p q None (not_it i q e other) ∙ are.3, record { id_is = are.4.id_is; pool = are.4.pool; residents = are.4.residents })

    pub drop_allotted : Fulfils (allotted dropped m) (record d { pools = filter (λ q. not (q.id == id)) d.pools })
    drop_allotted = record {
      sizes = is.sizes;
      used = λ first.
          let heap : ℕ = if first then 0 else 1 in
          let q = its_pools.0 in
          let z : pool_bytes heap q ≡ 0 = ap (λ (n : ℕ). if heap_of q.pool.info.memory_type == heap then n * q.pool.info.block_size else 0) bare ∙ no_bytes (heap_of q.pool.info.memory_type == heap) q.pool.info.block_size in
          let l = less (pool_bytes heap) z in let u = is.used first in omega (arith, l, u);
      count = let l = less (λ (q : PoolMemory). length q.pool.blocks) bare in omega (arith, l, is.count);
      objects = is.objects;
      pools = λ i. elim (cases_eq i id) [
        | inl e ↦ subst (λ (o : Option ℕ). ArePoolsOf dropped i o (filter (λ q. q.id == i) (filter (λ q. not (q.id == id)) d.pools))) (sym (ap (λ (j : ℕ). number_in numbers j) e ∙ gone))
            (ap (λ (j : ℕ). filter (λ q. q.id == j) (filter (λ q. not (q.id == id)) d.pools)) e ∙ left_none (λ (q : PoolMemory). q.id) id d.pools)
        | inr other ↦ subst (λ (qs : List PoolMemory). ArePoolsOf dropped i (number_in numbers i) qs) (sym (left_other (λ (q : PoolMemory). q.id) i id d.pools other))
            (subst (λ (o : Option ℕ). ArePoolsOf dropped i o (filter (λ q. q.id == i) d.pools)) (sym (others i other)) (left_pools i other (pool_of b i) refl (filter (λ q. q.id == i) d.pools) (is.pools i)))
      ];
    }

-- ---- nothing lies in a pool

-- where no resource does no allocation does
pub unused_held : (b : Backed) (m : MemoryState) → IsBacked b m → IsWhole b → (id p : ℕ) → pool_of b id ≡ Some p → IsUnused b id → pools.IsUnused b.pools p
unused_held b m h whole id p its unused i r place asked held =
    let w = whole i held.allocation held.live in elim w.1 [
      | inl shares ↦ (let s = h.shared w.0 i shares in
          let same : s.allocation ≡ held.allocation = some-is s.allocation held.allocation (sym s.live ∙ held.live) in
          let lies = ap (λ (x : Allocation). x.home) (sym same) ∙ s.lies in
          go r w.0 shares s.pool s.place lies held.there)
      | inr alone ↦ (let d = h.dedicated w.0 i alone in
          let same : d.allocation ≡ held.allocation = some-is d.allocation held.allocation (sym d.live ∙ held.live) in
          let e = sym (own-places held.allocation d.number (ap (λ (x : Allocation). x.home) (sym same) ∙ d.lies) r) ∙ held.there in
          none_there e)
    ]
  where
    none_there : ◌≡◌ {A = Option (ℕ × PoolPlace)} None (Some (p, place)) → ⊥
    none_there e = cc

    reserved : (q : ℕ) (pl : PoolPlace) (t : Option PoolPlace) → reserved_place (home.Shared q pl) t ≡ Some (p, place) → q ≡ p
    reserved q pl None e = absurd cc
    reserved q pl (Some u) e = ap (λ (x : ℕ × PoolPlace). x.0) (some-is (q, u) (p, place) e)

    go : (r : Bool) (j : ℕ) → allocation_of b j ≡ Some i → (q : ℕ) (pl : PoolPlace) → held.allocation.home ≡ home.Shared q pl → held_place r held.allocation ≡ Some (p, place) → ⊥
    go false j has q pl lies there = unused p j held.allocation place its (ap (λ (o : Option ℕ). option_and_then (allocation_at b.pools) o) has ∙ held.live) there
    go true j has q pl lies there =
        let same = reserved q pl held.allocation.target (ap (λ (l : Home). reserved_place l held.allocation.target) (sym lies) ∙ there) in
        unused p j held.allocation pl its (ap (λ (o : Option ℕ). option_and_then (allocation_at b.pools) o) has ∙ held.live) (ap shared_place lies ∙ ap (λ (x : ℕ). Some (x, pl)) same)

-- and it has no blocks
some_range : (p : Pool) (x : PoolBlock) (xs : List PoolBlock) → p.blocks ≡ x ∷ xs → has_some_taken x ≡ true → (t : Taken) × HasRange p x.number t
some_range p x xs is some = go (block_taken x.block) refl (ap (λ (ts : List Taken). not (is_none_left ts)) refl ∙ some)
  where
    go : (ts : List Taken) → block_taken x.block ≡ ts → not (is_none_left ts) ≡ true → (t : Taken) × HasRange p x.number t
    go [] e f = absurd cc
    go (t ∷ ts) e f = (
      t,
      record {
        block = x;
        there = subst (λ (l : List PoolBlock). Contains l x) (sym is) (0, omega arith, refl);
        number = refl;
        range = subst (λ (l : List Taken). Contains l t) (sym e) (0, omega arith, refl);
      },
    )

pub unused_empty : (s : PoolsState) → ArePools s → (p : ℕ) (k : Kept) → pool_at s p ≡ Some k → pools.IsUnused s p → k.pool.blocks ≡ []
unused_empty s h p k at unused = go k.pool.blocks refl
  where
    go : (bs : List PoolBlock) → k.pool.blocks ≡ bs → bs ≡ []
    go [] e = refl
    go (x ∷ xs) e =
        let some = All-head (λ (b : PoolBlock). IsTrue (has_some_taken b)) x xs (subst (λ (l : List PoolBlock). All (λ b. IsTrue (has_some_taken b)) l) e (h.pools p k at).pool.none_empty) in
        let r = some_range k.pool x xs e some in
        let o = h.held p k x.number r.0 at r.1 in
        absurd (unused o.0 o.1 o.2 o.3 o.4)
