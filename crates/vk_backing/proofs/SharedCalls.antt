-- What a call that puts a resource in a pool leaves.
use Rattle.std.proofs.Common.{◌≡◌, ℕ, ◌%◌, ◌≤◌, List, Bool, ◌==◌, Some, None, refl, sym, ap, subst, ◌∙◌, arith, inl}
use Rattle.std.specs.Prelude.{if◌then◌else◌, max}
use Rattle.vk_model.specs.declared.resource.PoolInfo.{PoolInfo}
use Rattle.vk_memory.specs.MemoryState.{MemoryState, type_of}
use Rattle.vk_model.specs.declared.resource.Kind.{Kind}
use Rattle.vk_model.specs.declared.resource.Spot.{Spot}
use Rattle.vk_model.specs.Trace.Objects.{Resource}
use Rattle.vk_model.specs.Memory.Room.{NoRoomInPool, request_of}
use Rattle.vk_model.specs.Memory.Pools.{state_of}
use Rattle.vk_model.specs.Memory.Allocations.{Allocated, FindsNoneIn, GetsIn, with_pool, with_resident, asked_of}
use Rattle.vma_pools.specs.declared.allocations.Asked.{Asked}
use Rattle.vma_pools.specs.declared.allocations.Allocation.{Allocation}
use Rattle.vma_pools.specs.Pools.{Kept, IsMemoryOf, heaps}
use Rattle.vma_pools.specs.State.{PoolsState, pool_at, allocation_at, IfKept, IfLive, ArePools, Backs, IsShared, IsSpotOf, request_in, start_of}
use Rattle.vma_pools.proofs.EndedLemmas.{kept-is, live-is}
use Rattle.vma_pools.proofs.StateLemmas.{some-is, given-info, takes-gives}
use Rattle.vma_defrag.proofs.Aligned.{gives_aligned}
use Rattle.vk_backing.specs.Backed.{Backed, number_in, object_of, pool_of, allocation_of, info_by, LiesIn, IsBacked, IsWhole}
use Rattle.vk_backing.specs.Allotted.{allotted, Fulfils}
use Rattle.vk_backing.specs.Steps.{Asks}
use Rattle.vk_backing.proofs.Sharing.{share_backed, named_was, share_whole, pool_here, new_allocated, given, given_pools}
use Rattle.vk_backing.proofs.Spots.{spot_object}
use Rattle.vk_backing.proofs.Infos.{share_infos}
use Rattle.vk_backing.proofs.Keeping.{share_keeps}
use Rattle.vk_backing.proofs.Places.{its, finds_none, none_found, gets, share_allotted}

-- what a resource asks of blocks
pub asks_is : (r : Resource) (asked : Asked) (t align : ℕ) → Asks r asked → align ≡ (if t == 2 then max 64 asked.align else asked.align) → request_of r t ≡ request_in (record asked { align = align })
asks_is r asked t align e is =
    ap (λ (n : ℕ). record { size = n; align = if t == 2 then max 64 r.align else r.align; kind = r.kind }) e.0
    ∙ ap (λ (n : ℕ). record { size = asked.size; align = if t == 2 then max 64 n else n; kind = r.kind }) e.1
    ∙ ap (λ (k : Kind). record { size = asked.size; align = if t == 2 then max 64 asked.align else asked.align; kind = k }) e.2
    ∙ ap (λ (n : ℕ). record { size = asked.size; align = n; kind = asked.kind }) (sym is)

-- of a pool that is kept
pub kept-holds : (s : PoolsState) (p : ℕ) (P : Kept → Type 0) → IfKept s p P → (k : Kept) → pool_at s p ≡ Some k → P k
kept-holds s p P h k at = let l = kept-is s p P h in subst P (some-is l.0 k (sym l.1 ∙ at)) l.2

-- on cached memory it is an atom's
pub atoms_asked : (s : PoolsState) (p align result : ℕ) → IfKept s p (λ k. result ≡ (if k.pool.info.memory_type == 2 then max 64 align else align)) → (k : Kept) → pool_at s p ≡ Some k → k.pool.info.memory_type ≡ 2 → 64 ≤ result
atoms_asked s p align result h k at cached =
    let e = kept-holds s p (λ k. result ≡ (if k.pool.info.memory_type == 2 then max 64 align else align)) h k at in
    let f : result ≡ max 64 align = e ∙ ap (λ (t : ℕ). if t == 2 then max 64 align else align) cached in omega (arith, f)

module _ (b : Backed) (m : MemoryState) (h : IsBacked b m) (pool p : ℕ) (named : pool_of b pool ≡ Some p) (asked : Asked) (upper : Bool) where
  -- no room was found
  pub none_shared : (r : Resource) → ((k : Kept) → pool_at b.pools p ≡ Some k → request_of r k.pool.info.memory_type ≡ request_in asked) → IfKept b.pools p (λ k. NoRoomInPool (heaps m) (state_of k.pool) (request_in asked) upper)
      → (d : Allocated) → Fulfils (allotted b m) d → FindsNoneIn d pool r upper
  none_shared r asks none d is =
      let k = kept-is b.pools p (λ k. NoRoomInPool (heaps m) (state_of k.pool) (request_in asked) upper) none in
      finds_none b m d is pool p named k.0 k.1 r asked (asks k.0 k.1) upper k.2

  module _ (new : PoolsState) (after : MemoryState) (a : ℕ) (sh : IsShared b.pools new m after p asked upper a) (id : ℕ) (apart : object_of b id ≡ None) (always : ArePools new) (backs : Backs new after) where
    pub unnamed_backed : (sh.was.pool.info.memory_type ≡ 2 → 64 ≤ asked.align) → IsBacked (record b { pools = new }) after
    unnamed_backed cached =
        subst (λ (s : PoolsState). IsBacked (record b { pools = s }) after) (sym sh.state)
        (share_backed b m h p sh.was sh.now sh.there sh.place asked upper after sh.takes pool named id apart (subst ArePools sh.state always) (subst (λ (s : PoolsState). Backs s after) sh.state backs) b.allocations (λ i a has. inl has) cached)

    module _ (absent : allocation_of b id ≡ None) (allocations : List (ℕ × ℕ)) (here : number_in allocations id ≡ Some a) (others : (i : ℕ) → (i ≡ id → ⊥) → number_in allocations i ≡ allocation_of b i) where
      abbrev shared : Backed
      shared = record b { pools = new; allocations = allocations }

      pub named_backed : (sh.was.pool.info.memory_type ≡ 2 → 64 ≤ asked.align) → IsBacked shared after
      named_backed cached =
          subst (λ (s : PoolsState). IsBacked (record b { pools = s; allocations = allocations }) after) (sym sh.state)
          (share_backed b m h p sh.was sh.now sh.there sh.place asked upper after sh.takes pool named id apart (subst ArePools sh.state always) (subst (λ (s : PoolsState). Backs s after) sh.state backs) allocations
          (named_was b m h p sh.was sh.now sh.there sh.place asked upper after sh.takes id allocations (here ∙ ap (λ (n : ℕ). Some n) sh.number) others) cached)

      pub named_whole : IsWhole b → IsWhole shared
      named_whole whole =
          subst (λ (s : PoolsState). IsWhole (record b { pools = s; allocations = allocations })) (sym sh.state)
          (share_whole b m h p sh.was sh.now sh.there sh.place asked upper after sh.takes id allocations (here ∙ ap (λ (n : ℕ). Some n) sh.number) others absent whole)

      abbrev it : Allocation
      it = given b m h p sh.was sh.now sh.there sh.place asked upper after sh.takes

      it_lives : allocation_at new a ≡ Some it
      it_lives =
          ap (λ (s : PoolsState). allocation_at s a) sh.state
          ∙ subst (λ (n : ℕ). allocation_at (given_pools b m h p sh.was sh.now sh.there sh.place asked upper after sh.takes) n ≡ Some it) (sym sh.number) (new_allocated b m h p sh.was sh.now sh.there sh.place asked upper after sh.takes)

      its_pool : pool_at new p ≡ Some sh.now
      its_pool = ap (λ (s : PoolsState). pool_at s p) sh.state ∙ pool_here b m h p sh.was sh.now sh.there sh.place asked upper after sh.takes

      pub named_lies : (spot : Spot) → IfLive new a (λ x. IsSpotOf new x.home x.asked spot) → LiesIn shared id p spot
      named_lies spot placed =
          let l = live-is new a (λ x. IsSpotOf new x.home x.asked spot) placed in
          let of_it : IsSpotOf new it.home it.asked spot = subst (λ (x : Allocation). IsSpotOf new x.home x.asked spot) (some-is l.0 it (sym l.1 ∙ it_lives)) l.2 in
          let at = kept-holds new p (λ k. IsMemoryOf k sh.place.block spot.memory × (spot.offset ≡ sh.place.start) × (spot.size ≡ asked.size)) of_it sh.now its_pool in
          record { number = a; has = here; allocation = it; live = it_lives; place = sh.place; lies = refl; kept = sh.now; there = its_pool; memory = at.0; offset = at.1; size = at.2 }

      pub named_keeps : (i q : ℕ) (s : Spot) → (i ≡ id → ⊥) → LiesIn b i q s → LiesIn shared i q s
      named_keeps i q s other l =
          subst (λ (t : PoolsState). LiesIn (record b { pools = t; allocations = allocations }) i q s) (sym sh.state)
          (share_keeps b m h p sh.was sh.now sh.there sh.place asked upper after sh.takes id allocations others i q s other l)

      pub named_infos : (i : ℕ) → info_by shared i ≡ info_by b i
      named_infos i =
          subst (λ (t : PoolsState). info_by (record b { pools = t; allocations = allocations }) i ≡ info_by b i) (sym sh.state)
          (share_infos b m h p sh.was sh.now sh.there sh.place asked upper after sh.takes i)

      pub named_kind : (sh.was.pool.info.memory_type ≡ 2 → 64 ≤ asked.align) → (spot : Spot) → LiesIn shared id p spot → type_of after spot.memory ≡ sh.was.pool.info.memory_type
      named_kind cached spot l =
          let k-is = some-is l.kept sh.now (sym l.there ∙ its_pool) in
          (spot_object shared after (named_backed cached) id p spot l).kind ∙ ap (λ (k : Kept). k.pool.info.memory_type) k-is
          ∙ ap (λ (i : PoolInfo). i.memory_type) ((takes-gives sh.was sh.now m after (request_in asked) upper (start_of sh.place) sh.takes).1.info ∙ given-info sh.was.pool (request_in asked) upper (start_of sh.place))

      pub named_aligned : (spot : Spot) → IfLive new a (λ x. IsSpotOf new x.home x.asked spot) → spot.offset % asked.align ≡ 0
      named_aligned spot placed =
          let l = live-is new a (λ x. IsSpotOf new x.home x.asked spot) placed in
          let of_it : IsSpotOf new it.home it.asked spot = subst (λ (x : Allocation). IsSpotOf new x.home x.asked spot) (some-is l.0 it (sym l.1 ∙ it_lives)) l.2 in
          let at = kept-holds new p (λ k. IsMemoryOf k sh.place.block spot.memory × (spot.offset ≡ sh.place.start) × (spot.size ≡ asked.size)) of_it sh.now its_pool in
          ap (λ (n : ℕ). n % asked.align) at.1 ∙ gives_aligned sh.was.pool (h.pools.pools p sh.was sh.there).pool (request_in asked) upper (start_of sh.place) (takes-gives sh.was sh.now m after (request_in asked) upper (start_of sh.place) sh.takes).0

      pub named_size : (spot : Spot) → IfLive new a (λ x. IsSpotOf new x.home x.asked spot) → spot.size ≡ asked.size
      named_size spot placed =
          let l = live-is new a (λ x. IsSpotOf new x.home x.asked spot) placed in
          let of_it : IsSpotOf new it.home it.asked spot = subst (λ (x : Allocation). IsSpotOf new x.home x.asked spot) (some-is l.0 it (sym l.1 ∙ it_lives)) l.2 in
          (kept-holds new p (λ k. IsMemoryOf k sh.place.block spot.memory × (spot.offset ≡ sh.place.start) × (spot.size ≡ asked.size)) of_it sh.now its_pool).2

      pub named_allots : (r : Resource) → request_of r sh.was.pool.info.memory_type ≡ request_in asked → IfKept b.pools p (λ k. NoRoomInPool (heaps m) (state_of k.pool) (request_in asked) upper → ⊥)
          → (d : Allocated) → Fulfils (allotted b m) d → (FindsNoneIn d pool r upper → ⊥) × ((e : Allocated) × GetsIn d id r pool upper e × Fulfils (allotted shared after) e)
      named_allots r asks room d is =
          let q = its b m d is pool p named sh.was sh.there in (
            λ none. kept-holds b.pools p (λ k. NoRoomInPool (heaps m) (state_of k.pool) (request_in asked) upper → ⊥) room sh.was sh.there (none_found b m d is pool p named sh.was sh.there r asked asks upper none),
            (
              with_pool (with_resident q id (asked_of q r) upper (start_of sh.place)) d,
              gets b m h p sh.was sh.now sh.there sh.place asked upper after sh.takes pool named d is r asks id absent allocations (here ∙ ap (λ (n : ℕ). Some n) sh.number) others,
              subst (λ (s : PoolsState). Fulfils (allotted (record b { pools = s; allocations = allocations }) after) (with_pool (with_resident q id (asked_of q r) upper (start_of sh.place)) d)) (sym sh.state)
                  (share_allotted b m h p sh.was sh.now sh.there sh.place asked upper after sh.takes pool named d is r asks id absent allocations (here ∙ ap (λ (n : ℕ). Some n) sh.number) others),
            ),
          )
