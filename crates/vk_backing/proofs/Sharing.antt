-- A resource gets a place in a pool.
use Rattle.std.proofs.Common.{◌≡◌, ℕ, ◌+◌, ◌<◌, ◌≤◌, List, [], ◌∷◌, ◌++◌, set, length, get_or, Bool, Some, None, refl, sym, ap, subst, ◌∙◌, arith, inl, inr, ◌⊎◌}
use Rattle.std.specs.Prelude.{if◌then◌else◌}
use Rattle.std.proofs.lemmas.Bool.{cases_eq, cases_lt, eq-eqb}
use Rattle.std.proofs.lemmas.List.{length-append, get_or_append_left}
use Rattle.std.proofs.Math.Seq.{get_or-append_seam}
use Rattle.vk_memory.specs.MemoryState.{MemoryState, IsLive}
use Rattle.vk_model.specs.declared.resource.PoolInfo.{PoolInfo}
use Rattle.vk_model.specs.Memory.Suballocation.{Request}
use Rattle.vk_model.specs.Memory.MoveTargets.{BlockStart}
use Rattle.vk_model.specs.Memory.Pools.{Pool, block_with, new_block, in_block, pool_with}
use Rattle.vma_pools.specs.declared.pool.PoolPlace.{PoolPlace}
use Rattle.vma_pools.specs.declared.allocations.Asked.{Asked}
use Rattle.vma_pools.specs.declared.allocations.Allocation.{Allocation}
use Rattle.vma_pools.specs.declared.allocations.Home.TheVariants as home
use Rattle.vma_pools.specs.Pools.{Kept, Takes}
use Rattle.vma_pools.specs.State.{PoolsState, pool_at, allocation_at, start_of, request_in, new_allocation, Owner, Alone, BlockOf, Has, ArePools, Backs}
use Rattle.vma_pools.proofs.NumberLemmas.{at-more, at-old, at-new, at-below, at-set, at-other}
use Rattle.vma_pools.proofs.PoolAlike.{are-length}
use Rattle.vma_pools.proofs.StateLemmas.{some-is, given-info, takes-gives}
use Rattle.vma_pools.proofs.CountedLemmas.{old-blocks}
use Rattle.vk_backing.specs.Backed.{Backed, AreSized, number_in, object_of, dedicated_of, pool_of, allocation_of, IsBacked, IsShared, IsOwner, IsWhole}
use Rattle.vk_backing.proofs.Grown.{grown_live, grown_sized}
use Rattle.vk_backing.proofs.Spots.{home_pool}
use Rattle.vk_backing.proofs.Turned.{stays, dedicated_stays}
use Rattle.vk_memory.proofs.LiveObjects.{live_below}

-- ---- the blocks of a pool that has given a place

pub blocks_new : (p : Pool) (r : Request) (upper : Bool) (s : BlockStart) → s.block ≡ p.next → length (pool_with p r upper s).blocks ≡ length p.blocks + 1
blocks_new p r upper s is =
    ap (λ (v : Bool). length (if v then record p { blocks = p.blocks ++ record { number = p.next; block = block_with (new_block p.info) r upper s.start } ∷ []; next = p.next + 1 } else record p { blocks = in_block (λ k. block_with k r upper s.start) s.block p.blocks }).blocks)
    (eq-eqb s.block p.next is)
    ∙ length-append p.blocks _

module _ (b : Backed) (m : MemoryState) (h : IsBacked b m) (p : ℕ) (was now : Kept) (there : pool_at b.pools p ≡ Some was) (place : PoolPlace) (asked : Asked) (upper : Bool) (after : MemoryState) (takes : Takes was now m after (request_in asked) upper (start_of place)) where
  abbrev pub given : Allocation
  given = new_allocation (home.Shared p place) asked

  abbrev pub next : ℕ
  next = length b.pools.allocations

  abbrev pub given_pools : PoolsState
  given_pools = record { pools = set b.pools.pools p (Some now); allocations = b.pools.allocations ++ Some given ∷ [] }

  abbrev pub sharing : List (ℕ × ℕ) → Backed
  sharing allocations = record b { pools = given_pools; allocations = allocations }

  -- ---- pools

  pub pool_here : pool_at given_pools p ≡ Some now
  pool_here = at-set b.pools.pools p (Some now) (at-below b.pools.pools p was there)

  pub pool_other : (q : ℕ) → (q ≡ p → ⊥) → pool_at given_pools q ≡ pool_at b.pools q
  pool_other q other = at-other b.pools.pools p q (Some now) other

  pub pool_was : (q : ℕ) (k : Kept) → pool_at given_pools q ≡ Some k → ((q ≡ p) × (now ≡ k)) ⊎ (pool_at b.pools q ≡ Some k)
  pool_was q k at = elim (cases_eq q p) [
    | inl is ↦ inl (is, some-is now k (sym pool_here ∙ ap (λ (n : ℕ). pool_at given_pools n) (sym is) ∙ at))
    | inr other ↦ inr (sym (pool_other q other) ∙ at)
  ]

  pool_still : (q : ℕ) (k : Kept) → pool_at b.pools q ≡ Some k → (l : Kept) × (pool_at given_pools q ≡ Some l)
  pool_still q k at = elim (cases_eq q p) [ inl is ↦ (now, ap (λ (n : ℕ). pool_at given_pools n) is ∙ pool_here) | inr other ↦ (k, pool_other q other ∙ at) ]

  now_matched : (t : Takes was now m after (request_in asked) upper (start_of place)) → length now.memories ≡ length now.pool.blocks
  now_matched (inl t) =
      let a = old-blocks was.pool (request_in asked) upper (start_of place) t.0.has in
      let l = are-length (pool_with was.pool (request_in asked) upper (start_of place)).blocks now.pool.blocks t.0.pool.blocks in
      let w = h.matched p was there in let e = ap (λ (ms : List ℕ). length ms) t.0.memories in omega (arith, a, l, w, e)
  now_matched (inr t) =
      let a = blocks_new was.pool (request_in asked) upper (start_of place) t.is_new in
      let l = are-length (pool_with was.pool (request_in asked) upper (start_of place)).blocks now.pool.blocks t.pool.blocks in
      let w = h.matched p was there in let e = ap (λ (ms : List ℕ). length ms) t.memories ∙ length-append was.memories (length m.objects ∷ []) in omega (arith, a, l, w, e)

  -- ---- memory objects

  pub memory_sized : AreSized after
  memory_sized = go takes
    where
      go : Takes was now m after (request_in asked) upper (start_of place) → AreSized after
      go (inl t) = subst AreSized (sym t.1) h.sized
      go (inr t) = subst AreSized (sym t.object) (grown_sized m was.pool.info.memory_type was.pool.info.block_size h.sized)

  pub memory_live : (n : ℕ) → IsLive m n → IsLive after n
  memory_live n live = go takes
    where
      go : Takes was now m after (request_in asked) upper (start_of place) → IsLive after n
      go (inl t) = subst (λ (x : MemoryState). IsLive x n) (sym t.1) live
      go (inr t) = subst (λ (x : MemoryState). IsLive x n) (sym t.object) (grown_live m was.pool.info.memory_type was.pool.info.block_size n live)

  -- who has one had it, or it is new
  pub had : (x : Owner) (n : ℕ) → Has given_pools x n → Has b.pools x n ⊎ (n ≡ length m.objects)
  had (Alone i) n has = elim (at-more b.pools.allocations (Some given) i has.0 has.1) [
    | inl old ↦ inl (has.0, old, has.2)
    | inr new ↦ absurd (let e = ap (λ (a : Allocation). a.home) (some-is given has.0 new.1) ∙ has.2 in cc)
  ]
  had (BlockOf q j) n has = elim (pool_was q has.0 has.1) [
    | inl here ↦ go takes here.0 (subst (λ (k : Kept). (j < length k.memories) × (get_or k.memories j 0 ≡ n)) (sym here.1) (has.2, has.3))
    | inr old ↦ inl (has.0, old, has.2, has.3)
  ]
    where
      go : Takes was now m after (request_in asked) upper (start_of place) → q ≡ p → (j < length now.memories) × (get_or now.memories j 0 ≡ n) → Has b.pools (BlockOf q j) n ⊎ (n ≡ length m.objects)
      go (inl t) is at = let s = subst (λ (ms : List ℕ). (j < length ms) × (get_or ms j 0 ≡ n)) t.0.memories at in inl (was, ap (λ (l : ℕ). pool_at b.pools l) is ∙ there, s.0, s.1)
      go (inr t) is at =
          let s = subst (λ (ms : List ℕ). (j < length ms) × (get_or ms j 0 ≡ n)) t.memories at in
          let long = length-append was.memories (length m.objects ∷ []) in
          elim (cases_lt j (length was.memories)) [
            | inl lt ↦ inl (was, ap (λ (l : ℕ). pool_at b.pools l) is ∙ there, lt, sym (get_or_append_left was.memories (length m.objects ∷ []) 0 j lt) ∙ s.1)
            | inr ge ↦ (let last : j ≡ length was.memories = omega (arith, ge, s.0, long) in
                inr (sym s.1 ∙ ap (λ (i : ℕ). get_or (was.memories ++ length m.objects ∷ []) i 0) last ∙ get_or-append_seam was.memories (length m.objects) [] 0))
          ]

  -- whose memory object an id has, it had
  still_owner : (i n : ℕ) (x : Owner) → object_of b i ≡ Some n → Has given_pools x n → IsOwner (dedicated_of b i) x
  still_owner i n x has its = elim (had x n its) [ inl old ↦ h.apart i n x has old | inr new ↦ (let l = live_below m n (h.live i n has) in absurd (omega (arith, l, new))) ]

  -- ---- allocations

  pub old_allocation : (a : ℕ) (x : Allocation) → allocation_at b.pools a ≡ Some x → allocation_at given_pools a ≡ Some x
  old_allocation a x live = at-old b.pools.allocations (Some given) a x live

  pub new_allocated : allocation_at given_pools next ≡ Some given
  new_allocated = at-new b.pools.allocations (Some given)

  allocation_below : (i a : ℕ) → allocation_of b i ≡ Some a → a < next
  allocation_below i a has = let s = h.shared i a has in at-below b.pools.allocations a s.allocation s.live

  -- whatever numbers resources have, that are those that they had, and the new one
  module _ (pool : ℕ) (named : pool_of b pool ≡ Some p) (id : ℕ) (apart : object_of b id ≡ None) (always : ArePools given_pools) (backs : Backs given_pools after) (allocations : List (ℕ × ℕ))
      (owned_was : (i a : ℕ) → number_in allocations i ≡ Some a → (allocation_of b i ≡ Some a) ⊎ ((i ≡ id) × (a ≡ next))) (cached : was.pool.info.memory_type ≡ 2 → 64 ≤ asked.align) where
    was_type : (k : Kept) → now ≡ k → was.pool.info.memory_type ≡ k.pool.info.memory_type
    was_type k is =
        sym (ap (λ (i : PoolInfo). i.memory_type) ((takes-gives was now m after (request_in asked) upper (start_of place) takes).1.info ∙ given-info was.pool (request_in asked) upper (start_of place)))
        ∙ ap (λ (k : Kept). k.pool.info.memory_type) is

    still_shared : (a : ℕ) → IsShared b a → IsShared (sharing allocations) a
    still_shared a s = record {
      allocation = s.allocation;
      live = old_allocation a s.allocation s.live;
      aligned = λ q pl k lies at atoms. elim (pool_was q k at) [
        | inl here ↦ s.aligned q pl was lies (ap (λ (n : ℕ). pool_at b.pools n) here.0 ∙ there) (was_type k here.1 ∙ atoms)
        | inr old ↦ s.aligned q pl k lies old atoms
      ];
      pool = s.pool;
      place = s.place;
      lies = s.lies;
      id = s.id;
      named = s.named;
    }

    now_shared : IsShared (sharing allocations) next
    now_shared = record {
      allocation = given;
      live = new_allocated;
      aligned = λ q pl k lies at atoms. elim (pool_was q k at) [
        | inl here ↦ cached (was_type k here.1 ∙ atoms)
        | inr old ↦ (let same = some-is was k (sym there ∙ ap (λ (n : ℕ). pool_at b.pools n) (home_pool p q place pl lies) ∙ old) in cached (ap (λ (k : Kept). k.pool.info.memory_type) same ∙ atoms))
      ];
      pool = p;
      place = place;
      lies = refl;
      id = pool;
      named = named;
    }

    pub share_backed : IsBacked (sharing allocations) after
    share_backed = record {
      pools = always;
      backs = backs;
      matched = λ q k at. elim (pool_was q k at) [ inl here ↦ subst (λ (k : Kept). length k.memories ≡ length k.pool.blocks) here.1 (now_matched takes) | inr old ↦ h.matched q k old ];
      sized = memory_sized;
      live = λ i n has. memory_live n (h.live i n has);
      own = h.own;
      apart = λ i n x has its. still_owner i n x has its;
      dedicated = λ i a has. dedicated_stays (allocation_at b.pools a) (allocation_at given_pools a) (object_of b i) (object_of b i) (stays (allocation_at b.pools a) (allocation_at given_pools a) (λ x is. old_allocation a x is)) refl (h.dedicated i a has);
      either = λ i n a has its. elim (owned_was i a its) [
        | inl old ↦ h.either i n a has old
        | inr new ↦ (let e = sym apart ∙ ap (λ (j : ℕ). object_of b j) (sym new.0) ∙ has in cc)
      ];
      named = λ i q has. let k = h.named i q has in pool_still q k.0 k.1;
      one_pool = h.one_pool;
      shared = λ i a has. elim (owned_was i a has) [ inl old ↦ still_shared a (h.shared i a old) | inr new ↦ subst (λ (n : ℕ). IsShared (sharing allocations) n) (sym new.1) now_shared ];
      one = λ i j a x y. elim (owned_was i a x) [
        | inl old ↦ elim (owned_was j a y) [
          | inl too ↦ h.one i j a old too
          | inr new ↦ (let l = allocation_below i a old in absurd (omega (arith, l, new.1)))
        ]
        | inr new ↦ elim (owned_was j a y) [
          | inl old ↦ (let l = allocation_below j a old in absurd (omega (arith, l, new.1)))
          | inr too ↦ new.0 ∙ sym too.0
        ]
      ];
    }

  module _ (id : ℕ) (allocations : List (ℕ × ℕ)) (here : number_in allocations id ≡ Some next) (others : (i : ℕ) → (i ≡ id → ⊥) → number_in allocations i ≡ allocation_of b i) where
    pub named_was : (i a : ℕ) → number_in allocations i ≡ Some a → (allocation_of b i ≡ Some a) ⊎ ((i ≡ id) × (a ≡ next))
    named_was i a has = elim (cases_eq i id) [
      | inl is ↦ inr (is, some-is a next (sym has ∙ ap (λ (j : ℕ). number_in allocations j) is ∙ here))
      | inr other ↦ inl (sym (others i other) ∙ has)
    ]

    pub share_whole : allocation_of b id ≡ None → IsWhole b → IsWhole (sharing allocations)
    share_whole absent whole a x live = elim (at-more b.pools.allocations (Some given) a x live) [
      | inl old ↦ (let w = whole a x old in elim w.1 [
        | inl shares ↦ (w.0, inl (others w.0 (λ is. let e = sym absent ∙ ap (λ (j : ℕ). allocation_of b j) (sym is) ∙ shares in cc) ∙ shares))
        | inr alone ↦ (w.0, inr alone)
      ])
      | inr new ↦ (id, inl (here ∙ ap (λ (n : ℕ). Some n) (sym new.0)))
    ]
