-- Each pool and allocation keeps a memory object of its own.
use Rattle.std.proofs.Common.{◌≡◌, ℕ, ◌+◌, ◌<◌, List, [], ◌∷◌, ◌++◌, length, get_or, set, Bool, Option, Some, None, refl, sym, ap, subst, ◌∙◌, arith, inl, inr, ◌⊎◌}
use Rattle.std.specs.Prelude.{slice_index_or}
use Rattle.std.proofs.lemmas.Bool.{cases_eq, cases_lt}
use Rattle.std.proofs.lemmas.List.{length-append, length-replicate, get_or_append_left}
use Rattle.std.proofs.Math.Seq.{get_or-append_seam}
use Rattle.vk_model.specs.declared.resource.PoolInfo.{PoolInfo}
use Rattle.vk_memory.specs.declared.memories.Object.{Object}
use Rattle.vk_memory.specs.MemoryState.{MemoryState, bytes_of, object_at, region_of, type_of, type_in, fresh}
use Rattle.vma_pools.specs.declared.pool.PoolPlace.{PoolPlace}
use Rattle.vma_pools.specs.declared.allocations.Allocation.{Allocation}
use Rattle.vma_pools.specs.declared.allocations.Asked.{Asked}
use Rattle.vma_pools.specs.declared.allocations.Home.TheVariants as home
use Rattle.vma_pools.specs.Pools.{Kept, Takes}
use Rattle.vma_pools.specs.State.{PoolsState, pool_at, IsObject, Owner, Alone, BlockOf, Has, ArePools, Backs, new_allocation, with_more, request_in, start_of}
use Rattle.vma_pools.proofs.NumberLemmas.{at-more, at-old, at-new, at-below, at-set, at-other}
use Rattle.vma_pools.proofs.StateLemmas.{some-is, given-info}

-- ---- memory objects

some-object : (m : MemoryState) (n : ℕ) → 0 < length (region_of m n) → (o : Object) × (object_at m n ≡ Some o)
some-object m n lt = go (object_at m n) refl lt
  where
    go : (o : Option Object) → object_at m n ≡ o → 0 < length (bytes_of o) → (x : Object) × (object_at m n ≡ Some x)
    go None e l = absurd (omega (arith, l))
    go (Some x) e l = (x, e)

-- an object with another one beside it
module _ (m : MemoryState) (t size : ℕ) where
  abbrev grown : MemoryState
  grown = record m { objects = m.objects ++ Some (fresh t size) ∷ [] }

  grown-object : (n : ℕ) → 0 < length (region_of m n) → object_at grown n ≡ object_at m n
  grown-object n lt = let o = some-object m n lt in at-old m.objects (Some (fresh t size)) n o.0 o.1 ∙ sym o.1

  pub grown-region : (n : ℕ) → 0 < length (region_of m n) → region_of grown n ≡ region_of m n
  grown-region n lt = ap bytes_of (grown-object n lt)

  pub grown-type : (n : ℕ) → 0 < length (region_of m n) → type_of grown n ≡ type_of m n
  grown-type n lt = ap type_in (grown-object n lt)

  pub grown-new : object_at grown (length m.objects) ≡ Some (fresh t size)
  grown-new = at-new m.objects (Some (fresh t size))

  pub new-length : length (region_of grown (length m.objects)) ≡ size
  new-length = ap (λ (o : Option Object). length (bytes_of o)) grown-new ∙ length-replicate size 205

  pub live-below : (n : ℕ) → 0 < length (region_of m n) → n < length m.objects
  live-below n lt = let o = some-object m n lt in at-below m.objects n o.0 o.1

-- ---- what has a memory object

pub has-bytes : (s : PoolsState) (h : ArePools s) (m : MemoryState) → Backs s m → (x : Owner) (n : ℕ) → Has s x n → 0 < length (region_of m n)
has-bytes s h m backs (Alone i) n has = let l = backs.own i has.0 n has.1 has.2 in let r = (h.requests i has.0 has.1).some in omega (arith, l, r)
has-bytes s h m backs (BlockOf p j) n has =
    let o = backs.blocks p has.0 j has.1 has.2 in let r = (h.pools p has.0 has.1).info.some in
    subst (λ (k : ℕ). 0 < length (region_of m k)) has.3 (omega (arith, o.bytes, r))

-- ---- one more allocation with a memory object of its own

module _ (s : PoolsState) (h : ArePools s) (m : MemoryState) (backs : Backs s m) (t : ℕ) (asked : Asked) where
  abbrev one : Allocation
  one = new_allocation (home.Own (length m.objects)) asked

  abbrev more : PoolsState
  more = with_more s one

  abbrev after : MemoryState
  after = grown m t asked.size

  from-own : (x : Owner) (n : ℕ) → Has more x n → Has s x n ⊎ ((x ≡ Alone (length s.allocations)) × (n ≡ length m.objects))
  from-own (Alone i) n has = elim (at-more s.allocations (Some one) i has.0 has.1) [
    | inl old ↦ inl (has.0, old, has.2)
    | inr new ↦ (let is = some-is one has.0 new.1 in inr (ap Alone new.0, own-is n (length m.objects) (sym has.2 ∙ ap (λ (a : Allocation). a.home) (sym is))))
  ]
    where
      own-is : (x y : ℕ) → home.Own x ≡ home.Own y → x ≡ y
      own-is x y e = cc
  from-own (BlockOf p j) n has = inl has

  old-apart : (x : Owner) (n : ℕ) → Has s x n → n ≡ length m.objects → ⊥
  old-apart x n has is = let l = live-below m t asked.size n (has-bytes s h m backs x n has) in absurd (omega (arith, l, is))

  pub own-backs : Backs more after
  own-backs = record {
    own = λ i a n at lies. elim (at-more s.allocations (Some one) i a at) [
      | inl old ↦ ap length (grown-region m t asked.size n (has-bytes s h m backs (Alone i) n (a, old, lies))) ∙ backs.own i a n old lies
      | inr new ↦ (let is = some-is one a new.1 in let k = own-number n (ap (λ (a : Allocation). a.home) is ∙ lies) in
          ap (λ (k : ℕ). length (region_of after k)) (sym k) ∙ new-length m t asked.size ∙ ap (λ (a : Allocation). a.asked.size) is)
    ];
    blocks = λ p k j at lt.
        let o = backs.blocks p k j at lt in let some = has-bytes s h m backs (BlockOf p j) (get_or k.memories j 0) (k, at, lt, refl) in
        record { bytes = ap length (grown-region m t asked.size (get_or k.memories j 0) some) ∙ o.bytes; kind = grown-type m t asked.size (get_or k.memories j 0) some ∙ o.kind };
    apart = λ x y n a b. elim (from-own x n a) [
      | inl old ↦ elim (from-own y n b) [ inl too ↦ backs.apart x y n old too | inr new ↦ absurd (old-apart x n old new.1) ]
      | inr new ↦ elim (from-own y n b) [ inl old ↦ absurd (old-apart y n old new.1) | inr too ↦ new.0 ∙ sym too.0 ]
    ];
  }
    where
      own-number : (n : ℕ) → home.Own (length m.objects) ≡ home.Own n → length m.objects ≡ n
      own-number n e = cc

-- ---- one more allocation in a pool

-- the pool has the same memory objects, or one more
module _ (s : PoolsState) (h : ArePools s) (m : MemoryState) (backs : Backs s m) (p : ℕ) (was now : Kept) (there : pool_at s p ≡ Some was) (place : PoolPlace) (asked : Asked) (info : now.pool.info ≡ was.pool.info) where
  abbrev given : PoolsState
  given = record { pools = set s.pools p (Some now); allocations = s.allocations ++ Some (new_allocation (home.Shared p place) asked) ∷ [] }

  given-here : pool_at given p ≡ Some now
  given-here = at-set s.pools p (Some now) (at-below s.pools p was there)

  given-other : (q : ℕ) → (q ≡ p → ⊥) → pool_at given q ≡ pool_at s q
  given-other q other = at-other s.pools p q (Some now) other

  here-is : (q : ℕ) (k : Kept) → q ≡ p → pool_at given q ≡ Some k → now ≡ k
  here-is q k is at = some-is now k (sym given-here ∙ ap (λ (n : ℕ). pool_at given n) (sym is) ∙ at)

  -- the new allocation has none of its own
  alone-was : (i n : ℕ) → Has given (Alone i) n → Has s (Alone i) n
  alone-was i n has = elim (at-more s.allocations (Some (new_allocation (home.Shared p place) asked)) i has.0 has.1) [
    | inl old ↦ (has.0, old, has.2)
    | inr new ↦ absurd (let e = ap (λ (a : Allocation). a.home) (some-is (new_allocation (home.Shared p place) asked) has.0 new.1) ∙ has.2 in cc)
  ]

  module _ (same : now.memories ≡ was.memories) where
    from-same : (x : Owner) (n : ℕ) → Has given x n → Has s x n
    from-same (Alone i) n has = alone-was i n has
    from-same (BlockOf q j) n has = elim (cases_eq q p) [
      | inl is ↦ (let k = sym (ap (λ (k : Kept). k.memories) (here-is q has.0 is has.1)) ∙ same in
          (was, ap (λ (l : ℕ). pool_at s l) is ∙ there, subst (λ (l : List ℕ). j < length l) k has.2, subst (λ (l : List ℕ). get_or l j 0 ≡ n) k has.3))
      | inr other ↦ (has.0, sym (given-other q other) ∙ has.1, has.2, has.3)
    ]

    pub same-backs : Backs given m
    same-backs = record {
      own = λ i a n at lies. let o = alone-was i n (a, at, lies) in elim (at-more s.allocations (Some (new_allocation (home.Shared p place) asked)) i a at) [
        | inl old ↦ backs.own i a n old lies
        | inr new ↦ absurd (let e = ap (λ (a : Allocation). a.home) (some-is (new_allocation (home.Shared p place) asked) a new.1) ∙ lies in cc)
      ];
      blocks = λ q k j at lt. elim (cases_eq q p) [
        | inl is ↦ (let e = here-is q k is at in let ms = sym (ap (λ (k : Kept). k.memories) e) ∙ same in
            let o = backs.blocks p was j there (subst (λ (l : List ℕ). j < length l) ms lt) in
            let i = sym (ap (λ (k : Kept). k.pool.info) e) ∙ info in
            record { bytes = ap (λ (l : List ℕ). length (region_of m (get_or l j 0))) ms ∙ o.bytes ∙ ap (λ (x : PoolInfo). x.block_size) (sym i); kind = ap (λ (l : List ℕ). type_of m (get_or l j 0)) ms ∙ o.kind ∙ ap (λ (x : PoolInfo). x.memory_type) (sym i) })
        | inr other ↦ backs.blocks q k j (sym (given-other q other) ∙ at) lt
      ];
      apart = λ x y n a b. backs.apart x y n (from-same x n a) (from-same y n b);
    }

  module _ (more : now.memories ≡ was.memories ++ length m.objects ∷ []) where
    abbrev next : MemoryState
    next = grown m was.pool.info.memory_type was.pool.info.block_size

    abbrev last : ℕ
    last = length was.memories

    at-last : (j : ℕ) → j < last + 1 → (j < last) ⊎ (j ≡ last)
    at-last j lt = elim (cases_lt j last) [ inl l ↦ inl l | inr g ↦ inr (omega (arith, lt, g)) ]

    more-length : length now.memories ≡ last + 1
    more-length = ap length more ∙ length-append was.memories (length m.objects ∷ [])

    old-at : (j : ℕ) → j < last → get_or now.memories j 0 ≡ get_or was.memories j 0
    old-at j lt = ap (λ (l : List ℕ). get_or l j 0) more ∙ get_or_append_left was.memories (length m.objects ∷ []) 0 j lt

    new-at : get_or now.memories last 0 ≡ length m.objects
    new-at = ap (λ (l : List ℕ). get_or l last 0) more ∙ get_or-append_seam was.memories (length m.objects) [] 0

    from-more : (x : Owner) (n : ℕ) → Has given x n → Has s x n ⊎ ((x ≡ BlockOf p last) × (n ≡ length m.objects))
    from-more (Alone i) n has = inl (alone-was i n has)
    from-more (BlockOf q j) n has = elim (cases_eq q p) [
      | inl is ↦ (let e = here-is q has.0 is has.1 in
          let lt : j < last + 1 = omega (arith, has.2, ap (λ (k : Kept). length k.memories) e, more-length) in
          let at : get_or now.memories j 0 ≡ n = ap (λ (k : Kept). get_or k.memories j 0) e ∙ has.3 in
          elim (at-last j lt) [
            | inl l ↦ inl (was, ap (λ (q : ℕ). pool_at s q) is ∙ there, l, sym (old-at j l) ∙ at)
            | inr l ↦ inr (ap (λ (r : ℕ). BlockOf r j) is ∙ ap (λ (r : ℕ). BlockOf p r) l, sym at ∙ ap (λ (r : ℕ). get_or now.memories r 0) l ∙ new-at)
          ])
      | inr other ↦ inl (has.0, sym (given-other q other) ∙ has.1, has.2, has.3)
    ]

    not-last : (x : Owner) (n : ℕ) → Has s x n → n ≡ length m.objects → ⊥
    not-last x n has is = let l = live-below m was.pool.info.memory_type was.pool.info.block_size n (has-bytes s h m backs x n has) in absurd (omega (arith, l, is))

    pub more-backs : Backs given next
    more-backs = record {
      own = λ i a n at lies. elim (at-more s.allocations (Some (new_allocation (home.Shared p place) asked)) i a at) [
        | inl old ↦ ap length (grown-region m was.pool.info.memory_type was.pool.info.block_size n (has-bytes s h m backs (Alone i) n (a, old, lies))) ∙ backs.own i a n old lies
        | inr new ↦ absurd (let e = ap (λ (a : Allocation). a.home) (some-is (new_allocation (home.Shared p place) asked) a new.1) ∙ lies in cc)
      ];
      blocks = λ q k j at lt. elim (from-more (BlockOf q j) (get_or k.memories j 0) (k, at, lt, refl)) [
        | inl old ↦ old-block q k j at (get_or k.memories j 0) old
        | inr new ↦ new-block q k j at (block-is q j new.0) new.1
      ];
      apart = λ x y n a b. elim (from-more x n a) [
        | inl old ↦ elim (from-more y n b) [ inl too ↦ backs.apart x y n old too | inr new ↦ absurd (not-last x n old new.1) ]
        | inr new ↦ elim (from-more y n b) [ inl old ↦ absurd (not-last y n old new.1) | inr too ↦ new.0 ∙ sym too.0 ]
      ];
    }
      where
        block-is : (q j : ℕ) → BlockOf q j ≡ BlockOf p last → q ≡ p
        block-is q j e = cc

        info-of : (q : ℕ) (k l : Kept) → pool_at given q ≡ Some k → pool_at s q ≡ Some l → l.pool.info ≡ k.pool.info
        info-of q k l at old = elim (cases_eq q p) [
          | inl is ↦ ap (λ (k : Kept). k.pool.info) (some-is l was (sym old ∙ ap (λ (n : ℕ). pool_at s n) is ∙ there)) ∙ sym info ∙ ap (λ (k : Kept). k.pool.info) (here-is q k is at)
          | inr other ↦ ap (λ (k : Kept). k.pool.info) (some-is l k (sym old ∙ sym (given-other q other) ∙ at))
        ]

        old-block : (q : ℕ) (k : Kept) (j : ℕ) → pool_at given q ≡ Some k → (n : ℕ) → Has s (BlockOf q j) n → IsObject next n k.pool.info.memory_type k.pool.info.block_size
        old-block q k j at n has =
            let o = backs.blocks q has.0 j has.1 has.2 in let some = has-bytes s h m backs (BlockOf q j) n has in let i = info-of q k has.0 at has.1 in
            record {
              bytes = ap length (grown-region m was.pool.info.memory_type was.pool.info.block_size n some) ∙ ap (λ (r : ℕ). length (region_of m r)) (sym has.3) ∙ o.bytes ∙ ap (λ (x : PoolInfo). x.block_size) i;
              kind = grown-type m was.pool.info.memory_type was.pool.info.block_size n some ∙ ap (λ (r : ℕ). type_of m r) (sym has.3) ∙ o.kind ∙ ap (λ (x : PoolInfo). x.memory_type) i;
            }

        new-block : (q : ℕ) (k : Kept) (j : ℕ) → pool_at given q ≡ Some k → q ≡ p → get_or k.memories j 0 ≡ length m.objects → IsObject next (get_or k.memories j 0) k.pool.info.memory_type k.pool.info.block_size
        new-block q k j at is n =
            let i = sym info ∙ ap (λ (k : Kept). k.pool.info) (here-is q k is at) in
            record {
              bytes = ap (λ (r : ℕ). length (region_of next r)) n ∙ new-length m was.pool.info.memory_type was.pool.info.block_size ∙ ap (λ (x : PoolInfo). x.block_size) i;
              kind = ap (λ (r : ℕ). type_of next r) n ∙ ap type_in (grown-new m was.pool.info.memory_type was.pool.info.block_size) ∙ ap (λ (x : PoolInfo). x.memory_type) i;
            }

-- ---- both ways in which a pool gives a place

pub takes-backs : (s : PoolsState) (h : ArePools s) (m after : MemoryState) → Backs s m → (p : ℕ) (was now : Kept) → pool_at s p ≡ Some was → (place : PoolPlace) (asked : Asked) (upper : Bool) → Takes was now m after (request_in asked) upper (start_of place)
    → Backs (record { pools = set s.pools p (Some now); allocations = s.allocations ++ Some (new_allocation (home.Shared p place) asked) ∷ [] }) after
takes-backs s h m after backs p was now there place asked upper (inl t) =
    let info = t.0.pool.info ∙ given-info was.pool (request_in asked) upper (start_of place) in
    subst (λ (n : MemoryState). Backs (record { pools = set s.pools p (Some now); allocations = s.allocations ++ Some (new_allocation (home.Shared p place) asked) ∷ [] }) n) (sym t.1)
    (same-backs s h m backs p was now there place asked info t.0.memories)
takes-backs s h m after backs p was now there place asked upper (inr t) =
    let info = t.pool.info ∙ given-info was.pool (request_in asked) upper (start_of place) in
    subst (λ (n : MemoryState). Backs (record { pools = set s.pools p (Some now); allocations = s.allocations ++ Some (new_allocation (home.Shared p place) asked) ∷ [] }) n) (sym t.object)
    (more-backs s h m backs p was now there place asked info t.memories)

-- ---- other pools

-- a pool that is another one than at its number before has no memory objects
module _ (s : PoolsState) (m : MemoryState) (backs : Backs s m) (pools : List (Option Kept)) (each : (p : ℕ) (k : Kept) → slice_index_or pools p None ≡ Some k → (pool_at s p ≡ Some k) ⊎ (k.memories ≡ [])) where
  block-was : (p j : ℕ) (k : Kept) → slice_index_or pools p None ≡ Some k → j < length k.memories → pool_at s p ≡ Some k
  block-was p j k at lt = elim (each p k at) [ inl old ↦ old | inr none ↦ absurd (omega (arith, lt, ap (λ (l : List ℕ). length l) none)) ]

  has-was : (x : Owner) (n : ℕ) → Has (record s { pools = pools }) x n → Has s x n
  has-was (Alone i) n has = has
  has-was (BlockOf p j) n has = (has.0, block-was p j has.0 has.1 has.2, has.2, has.3)

  pub repooled-backs : Backs (record s { pools = pools }) m
  repooled-backs = record {
    own = backs.own;
    blocks = λ p k j at lt. backs.blocks p k j (block-was p j k at lt) lt;
    apart = λ x y n a b. backs.apart x y n (has-was x n a) (has-was y n b);
  }

-- one more, which has none
pub made-backs : (s : PoolsState) (m : MemoryState) → Backs s m → (first : Kept) → first.memories ≡ [] → Backs (record s { pools = s.pools ++ Some first ∷ [] }) m
made-backs s m backs first none = repooled-backs s m backs (s.pools ++ Some first ∷ []) (λ p k at. elim (at-more s.pools (Some first) p k at) [ inl old ↦ inl old | inr new ↦ inr (ap (λ (l : Kept). l.memories) (sym (some-is first k new.1)) ∙ none) ])

-- one less
pub dropped-backs : (s : PoolsState) (m : MemoryState) → Backs s m → (p : ℕ) → p < length s.pools → Backs (record s { pools = set s.pools p None }) m
dropped-backs s m backs p there = repooled-backs s m backs (set s.pools p None) (λ q k at. elim (cases_eq q p) [
  | inl is ↦ absurd (let e = sym (at-set s.pools p None there) ∙ ap (λ (n : ℕ). slice_index_or (set s.pools p None) n None) (sym is) ∙ at in cc)
  | inr other ↦ inl (sym (at-other s.pools p q None other) ∙ at)
])
