-- What an id had ends.
use Rattle.std.proofs.Common.{◌≡◌, ℕ, suc, ◌+◌, ◌<◌, List, ◌++◌, set, take, drop, length, get_or, Option, Some, None, refl, sym, ap, subst, ◌∙◌, arith, inl, inr, ◌⊎◌}
use Rattle.std.specs.Prelude.{slice_index_or}
use Rattle.std.proofs.lemmas.Bool.{cases_eq}
use Rattle.std.proofs.lemmas.List.{length-map}
use Rattle.vk_memory.specs.MemoryState.{MemoryState, IsLive, with_object}
use Rattle.vk_model.specs.declared.resource.PoolInfo.{PoolInfo}
use Rattle.vk_model.specs.Memory.Pools.{PoolBlock}
use Rattle.vma_pools.specs.declared.pool.PoolPlace.{PoolPlace}
use Rattle.vma_pools.specs.declared.allocations.Allocation.{Allocation}
use Rattle.vma_pools.specs.Pools.{Kept, KeepsBlocks, block_numbers}
use Rattle.vma_pools.specs.State.{PoolsState, pool_at, allocation_at, Owner, Alone, BlockOf, Has, ArePools, Backs, IsGivenBack, released}
use Rattle.vma_pools.proofs.NumberLemmas.{at-below, at-set, at-other}
use Rattle.vma_pools.proofs.StateLemmas.{some-is}
use Rattle.vma_pools.proofs.CallLemmas.{sized-live}
use Rattle.vk_backing.specs.declared.backing.Own.{Own}
use Rattle.vk_backing.specs.Backed.{Backed, AreSized, number_in, own_in, object_in, dedicated_in, object_of, dedicated_of, allocation_of, IsBacked, IsDedicated, IsOwner, IsWhole}
use Rattle.vk_backing.proofs.Freed.{freed_sized, freed_live, cut_less, in_cut}
use Rattle.vk_backing.proofs.Owned.{object_is, dedicated_is}
use Rattle.vk_backing.proofs.Turned.{Stays, stays, dedicated_stays, turned, turned_shared}

-- ---- a memory object of its own

module _ (b : Backed) (m : MemoryState) (h : IsBacked b m) (id n : ℕ) (its : object_of b id ≡ Some n) (owned : List (ℕ × Own)) (gone : own_in owned id ≡ None) (others : (i : ℕ) → (i ≡ id → ⊥) → own_in owned i ≡ own_in b.owned i)
    (allocations : List (Option Allocation)) (shared : (j a : ℕ) → allocation_of b j ≡ Some a → Stays (allocation_at b.pools a) (slice_index_or allocations a None)) where
  abbrev pub disowned : Backed
  disowned = turned b m h owned allocations shared

  pub own_live : IsLive m n
  own_live = h.live id n its

  pub object_gone : object_in owned id ≡ None
  object_gone = object_is owned id None gone

  pub dedicated_gone : dedicated_in owned id ≡ None
  dedicated_gone = dedicated_is owned id None gone

  pub object_left : (i : ℕ) → (i ≡ id → ⊥) → object_in owned i ≡ object_of b i
  object_left i other = object_is owned i (own_in b.owned i) (others i other)

  pub dedicated_left : (i : ℕ) → (i ≡ id → ⊥) → dedicated_in owned i ≡ dedicated_of b i
  dedicated_left i other = dedicated_is owned i (own_in b.owned i) (others i other)

  own_was : (i k : ℕ) → object_in owned i ≡ Some k → (object_of b i ≡ Some k) × (k ≡ n → ⊥) × (i ≡ id → ⊥)
  own_was i k has = elim (cases_eq i id) [
    | inl is ↦ absurd (let e = sym object_gone ∙ ap (λ (j : ℕ). object_in owned j) (sym is) ∙ has in cc)
    | inr other ↦ (let was = sym (object_left i other) ∙ has in (was, λ e. other (h.own i id n (was ∙ ap (λ (j : ℕ). Some j) e) its), other))
  ]

  pub own_released : ArePools disowned.pools → Backs disowned.pools (with_object m n None) → ((x : Owner) (k : ℕ) → Has disowned.pools x k → Has b.pools x k)
      → ((i a : ℕ) → (i ≡ id → ⊥) → dedicated_of b i ≡ Some a → Stays (allocation_at b.pools a) (slice_index_or allocations a None)) → IsBacked disowned (with_object m n None)
  own_released always backs had alone = record {
    pools = always;
    backs = backs;
    matched = h.matched;
    sized = freed_sized m n own_live h.sized;
    live = λ i k has. let w = own_was i k has in freed_live m n own_live k w.1 (h.live i k w.0);
    own = λ i j k x y. h.own i j k (own_was i k x).0 (own_was j k y).0;
    apart = λ i k x has its. let w = own_was i k has in subst (λ (d : Option ℕ). IsOwner d x) (sym (dedicated_left i w.2)) (h.apart i k x w.0 (had x k its));
    dedicated = λ i a has. elim (cases_eq i id) [
      | inl is ↦ absurd (let e = sym dedicated_gone ∙ ap (λ (j : ℕ). dedicated_in owned j) (sym is) ∙ has in cc)
      | inr other ↦ (let was = sym (dedicated_left i other) ∙ has in dedicated_stays (allocation_at b.pools a) (slice_index_or allocations a None) (object_of b i) (object_in owned i) (alone i a other was) (object_left i other) (h.dedicated i a was))
    ];
    either = λ i k a has its. h.either i k a (own_was i k has).0 its;
    named = h.named;
    one_pool = h.one_pool;
    shared = λ i a has. turned_shared b m h owned allocations shared i a has;
    one = h.one;
  }

  -- each allocation that is left is an id's
  pub own_whole_left : ((a : ℕ) (x : Allocation) → slice_index_or allocations a None ≡ Some x → (y : Allocation) × (allocation_at b.pools a ≡ Some y) × (dedicated_of b id ≡ Some a → ⊥)) → IsWhole b → IsWhole disowned
  own_whole_left was whole a x live =
      let y = was a x live in let w = whole a y.0 y.1 in elim w.1 [
        | inl shares ↦ (w.0, inl shares)
        | inr alone ↦ (w.0, inr (dedicated_left w.0 (λ is. y.2 (ap (λ (j : ℕ). dedicated_of b j) (sym is) ∙ alone)) ∙ alone))
      ]

-- whoever has a memory object of its own has no allocation
pub unshared : (b : Backed) (m : MemoryState) → IsBacked b m → (id n : ℕ) → object_of b id ≡ Some n → (o : Option ℕ) → allocation_of b id ≡ o → allocation_of b id ≡ None
unshared b m h id n its None e = e
unshared b m h id n its (Some a) e = absurd (h.either id n a its e)

-- ---- a place in a pool

module _ (b : Backed) (m : MemoryState) (h : IsBacked b m) (a : ℕ) (x : Allocation) (live : allocation_at b.pools a ≡ Some x) (new : PoolsState) (p : ℕ) (place : PoolPlace) (gone : Option ℕ) (g : IsGivenBack b.pools new a p place gone) where
  abbrev pub back_pools : PoolsState
  back_pools = record { pools = set b.pools.pools p (Some g.now); allocations = set b.pools.allocations a None }

  pub back_here : pool_at back_pools p ≡ Some g.now
  back_here = at-set b.pools.pools p (Some g.now) (at-below b.pools.pools p g.was g.there)

  pub back_other : (q : ℕ) → (q ≡ p → ⊥) → pool_at back_pools q ≡ pool_at b.pools q
  back_other q other = at-other b.pools.pools p q (Some g.now) other

  pub back_was : (q : ℕ) (k : Kept) → pool_at back_pools q ≡ Some k → ((q ≡ p) × (g.now ≡ k)) ⊎ (pool_at b.pools q ≡ Some k)
  back_was q k at = elim (cases_eq q p) [
    | inl is ↦ inl (is, some-is g.now k (sym back_here ∙ ap (λ (n : ℕ). pool_at back_pools n) (sym is) ∙ at))
    | inr other ↦ inr (sym (back_other q other) ∙ at)
  ]

  back_still : (q : ℕ) (k : Kept) → pool_at b.pools q ≡ Some k → (l : Kept) × (pool_at back_pools q ≡ Some l)
  back_still q k at = elim (cases_eq q p) [ inl is ↦ (g.now, ap (λ (n : ℕ). pool_at back_pools n) is ∙ back_here) | inr other ↦ (k, back_other q other ∙ at) ]

  pub back_allocation : (j : ℕ) → (j ≡ a → ⊥) → allocation_at back_pools j ≡ allocation_at b.pools j
  back_allocation j other = at-other b.pools.allocations a j None other

  pub back_ended : allocation_at back_pools a ≡ None
  back_ended = at-set b.pools.allocations a None (at-below b.pools.allocations a x live)

  -- a block for each memory object
  now_matched : (o : Option ℕ) → KeepsBlocks o place.block g.was g.now → length g.now.memories ≡ length g.now.pool.blocks
  now_matched None k =
      let w = h.matched p g.was g.there in let e = ap (λ (l : List ℕ). length l) k.0 in let f = ap (λ (l : List ℕ). length l) k.1 in
      omega (arith, w, e, f, length-map g.now.pool.blocks (λ (c : PoolBlock). c.number), length-map g.was.pool.blocks (λ (c : PoolBlock). c.number))
  now_matched (Some n) k =
      let w = h.matched p g.was g.there in
      let next : k.index + 1 ≡ suc k.index = omega arith in
      let e = ap (λ (l : List ℕ). length l) (k.memories ∙ ap (λ (j : ℕ). take k.index g.was.memories ++ drop j g.was.memories) next) in
      let f = ap (λ (l : List ℕ). length l) (k.numbers ∙ ap (λ (j : ℕ). take k.index (block_numbers g.was.pool) ++ drop j (block_numbers g.was.pool)) next) in
      let long = length-map g.was.pool.blocks (λ (c : PoolBlock). c.number) in
      let c = cut_less g.was.memories k.index k.there in let d = cut_less (block_numbers g.was.pool) k.index (omega (arith, k.there, w, long)) in
      omega (arith, w, e, f, c, d, long, length-map g.now.pool.blocks (λ (c : PoolBlock). c.number))

  -- whoever has a memory object, one had it
  alone_had : (j n : ℕ) → Has back_pools (Alone j) n → Has b.pools (Alone j) n
  alone_had j n has = elim (cases_eq j a) [
    | inl is ↦ absurd (let e = sym back_ended ∙ ap (λ (l : ℕ). allocation_at back_pools l) (sym is) ∙ has.1 in cc)
    | inr other ↦ (has.0, sym (back_allocation j other) ∙ has.1, has.2)
  ]

  block_had : (q j n : ℕ) → Has back_pools (BlockOf q j) n → (r : ℕ) × (l : ℕ) × Has b.pools (BlockOf r l) n
  block_had q j n has = elim (back_was q has.0 has.1) [
    | inl here ↦ go gone g.blocks (subst (λ (k : Kept). (j < length k.memories) × (get_or k.memories j 0 ≡ n)) (sym here.1) (has.2, has.3))
    | inr old ↦ (q, j, (has.0, old, has.2, has.3))
  ]
    where
      go : (o : Option ℕ) → KeepsBlocks o place.block g.was g.now → (j < length g.now.memories) × (get_or g.now.memories j 0 ≡ n) → (r : ℕ) × (l : ℕ) × Has b.pools (BlockOf r l) n
      go None k at = let s = subst (λ (ms : List ℕ). (j < length ms) × (get_or ms j 0 ≡ n)) k.0 at in (p, j, (g.was, g.there, s.0, s.1))
      go (Some r) k at =
          let next : k.index + 1 ≡ suc k.index = omega arith in
          let s = subst (λ (ms : List ℕ). (j < length ms) × (get_or ms j 0 ≡ n)) (k.memories ∙ ap (λ (l : ℕ). take k.index g.was.memories ++ drop l g.was.memories) next) at in
          let c = in_cut g.was.memories k.index j s.0 in (p, c.0, (g.was, g.there, c.1, c.2 ∙ s.1))

  -- whose memory object an id has, it had
  still_owner : (i n : ℕ) (y : Owner) → object_of b i ≡ Some n → Has back_pools y n → IsOwner (dedicated_of b i) y
  still_owner i n (Alone j) has its = h.apart i n (Alone j) has (alone_had j n its)
  still_owner i n (BlockOf q j) has its = let w = block_had q j n its in h.apart i n (BlockOf w.0 w.1) has w.2

  -- the memory object that goes is a block's
  pub gone_had : (n : ℕ) → gone ≡ Some n → (j : ℕ) × Has b.pools (BlockOf p j) n
  gone_had n is = go gone g.blocks is
    where
      go : (o : Option ℕ) → KeepsBlocks o place.block g.was g.now → o ≡ Some n → (j : ℕ) × Has b.pools (BlockOf p j) n
      go None k e = absurd cc
      go (Some r) k e = (k.index, (g.was, g.there, k.there, k.is ∙ some-is r n e))

  pub gone_live : (n : ℕ) → gone ≡ Some n → IsLive m n
  gone_live n is =
      let had = gone_had n is in
      let o = h.backs.blocks p had.1.0 had.0 had.1.1 had.1.2 in
      subst (λ (j : ℕ). IsLive m j) had.1.3 (sized-live m (get_or had.1.0.memories had.0 0) had.1.0.pool.info.block_size o.bytes (h.pools.pools p had.1.0 had.1.1).info.some)

  -- nothing else becomes of memory
  back_sized : AreSized (released m gone)
  back_sized = go gone (λ n is. gone_live n is)
    where
      go : (o : Option ℕ) → ((n : ℕ) → o ≡ Some n → IsLive m n) → AreSized (released m o)
      go None lives = h.sized
      go (Some n) lives = freed_sized m n (lives n refl) h.sized

  back_live : (i k : ℕ) → object_of b i ≡ Some k → IsLive (released m gone) k
  back_live i k has = go gone (λ n is. gone_had n is) (λ n is. gone_live n is)
    where
      go : (o : Option ℕ) → ((n : ℕ) → o ≡ Some n → (j : ℕ) × Has b.pools (BlockOf p j) n) → ((n : ℕ) → o ≡ Some n → IsLive m n) → IsLive (released m o) k
      go None had lives = h.live i k has
      go (Some n) had lives = freed_live m n (lives n refl) k (λ e. let w = had n refl in h.apart i n (BlockOf p w.0) (has ∙ ap (λ (j : ℕ). Some j) e) w.1) (h.live i k has)

  module _ (id : ℕ) (its : allocation_of b id ≡ Some a) (allocations : List (ℕ × ℕ)) (none : number_in allocations id ≡ None) (others : (i : ℕ) → (i ≡ id → ⊥) → number_in allocations i ≡ allocation_of b i) where
    abbrev pub backing : Backed
    backing = record b { pools = back_pools; allocations = allocations }

    pub shared_was : (i j : ℕ) → number_in allocations i ≡ Some j → (allocation_of b i ≡ Some j) × (j ≡ a → ⊥)
    shared_was i j has = elim (cases_eq i id) [
      | inl is ↦ absurd (let e = sym none ∙ ap (λ (l : ℕ). number_in allocations l) (sym is) ∙ has in cc)
      | inr other ↦ (let was = sym (others i other) ∙ has in (was, λ e. other (h.one i id a (was ∙ ap (λ (l : ℕ). Some l) e) its)))
    ]

    -- an allocation in a pool has no memory object of its own
    not_dedicated : (j : ℕ) {n : Option ℕ} → IsDedicated (allocation_at b.pools j) n → j ≡ a → ⊥
    not_dedicated j d is =
        let t = h.shared id a its in
        let same = some-is d.allocation t.allocation (sym d.live ∙ ap (λ (l : ℕ). allocation_at b.pools l) is ∙ t.live) in
        let e = sym d.lies ∙ ap (λ (y : Allocation). y.home) same ∙ t.lies in cc

    pub back_released : ArePools back_pools → Backs back_pools (released m gone) → IsBacked backing (released m gone)
    back_released always backs = record {
      pools = always;
      backs = backs;
      matched = λ q k at. elim (back_was q k at) [ inl here ↦ subst (λ (k : Kept). length k.memories ≡ length k.pool.blocks) here.1 (now_matched gone g.blocks) | inr old ↦ h.matched q k old ];
      sized = back_sized;
      live = back_live;
      own = h.own;
      apart = λ i n y has its. still_owner i n y has its;
      dedicated = λ i j has.
          let d = h.dedicated i j has in
          dedicated_stays (allocation_at b.pools j) (allocation_at back_pools j) (object_of b i) (object_of b i) (stays (allocation_at b.pools j) (allocation_at back_pools j) (λ y at. back_allocation j (λ is. not_dedicated j d is) ∙ at)) refl d;
      either = λ i n j has its. h.either i n j has (shared_was i j its).0;
      named = λ i q has. let k = h.named i q has in back_still q k.0 k.1;
      one_pool = h.one_pool;
      shared = λ i j has.
          let w = shared_was i j has in let s = h.shared i j w.0 in
          record {
            allocation = s.allocation;
            live = back_allocation j w.1 ∙ s.live;
            aligned = λ q pl k lies at cached. elim (back_was q k at) [
              | inl here ↦ s.aligned q pl g.was lies (ap (λ (n : ℕ). pool_at b.pools n) here.0 ∙ g.there) (sym (ap (λ (i : PoolInfo). i.memory_type) g.pool_is.info) ∙ ap (λ (k : Kept). k.pool.info.memory_type) here.1 ∙ cached)
              | inr old ↦ s.aligned q pl k lies old cached
            ];
            pool = s.pool;
            place = s.place;
            lies = s.lies;
            id = s.id;
            named = s.named;
          };
      one = λ i j l y z. h.one i j l (shared_was i l y).0 (shared_was j l z).0;
    }

    pub back_whole : IsWhole b → IsWhole backing
    back_whole whole j y at =
        let away : j ≡ a → ⊥ = λ (is : j ≡ a). (let e = sym back_ended ∙ ap (λ (l : ℕ). allocation_at back_pools l) (sym is) ∙ at in cc) in
        let w = whole j y (sym (back_allocation j away) ∙ at) in
        elim w.1 [
          | inl shares ↦ (w.0, inl (others w.0 (λ is. away (some-is j a (sym shares ∙ ap (λ (l : ℕ). allocation_of b l) is ∙ its))) ∙ shares))
          | inr alone ↦ (w.0, inr alone)
        ]
