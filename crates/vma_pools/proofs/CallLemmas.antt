-- What the calls on allocations find.
use Rattle.std.proofs.Common.{◌≡◌, ℕ, ◌<◌, List, length, get_or, Bool, false, true, Option, Some, None, refl, sym, ap, subst, ◌∙◌, arith}
use Rattle.std.specs.Prelude.{Any, IfNone, IfSome, IsSome, IsSomeAnd, slice_index_or}
use Rattle.vk_model.specs.Memory.Suballocation.{Taken}
use Rattle.vk_model.specs.Memory.Pools.{Pool}
use Rattle.vk_memory.specs.declared.memories.Object.{Object}
use Rattle.vk_memory.specs.MemoryState.{MemoryState, IsLive, bytes_of, object_at, region_of}
use Rattle.vk_model.specs.declared.resource.Spot.{Spot}
use Rattle.vma_pools.specs.declared.pool.PoolPlace.{PoolPlace}
use Rattle.vma_pools.specs.declared.allocations.Allocation.{Allocation}
use Rattle.vma_pools.specs.declared.allocations.Home.{Home}
use Rattle.vma_pools.specs.declared.allocations.Home.TheVariants as home
use Rattle.vma_pools.specs.Pools.{Kept, Loses, IsMemoryOf}
use Rattle.vma_pools.specs.Ranges.{HasRange}
use Rattle.vma_pools.specs.State.{PoolsState, pool_at, allocation_at, shared_place, reserved_place, held_place, range_at, IsHeld, ArePools, ArePlacesApart, Backs, IfLive, IfKept, IsSpotOf, LosesBlock, IsEnded}
use Rattle.vma_pools.proofs.NumberLemmas.{at-below, found-at}
use Rattle.vma_pools.proofs.RangeLemmas.{ranges-apart}
use Rattle.vma_pools.proofs.StateLemmas.{some-is}
use Rattle.vma_pools.proofs.EndedLemmas.{kept-is, live-is}

-- ---- the pool of an allocation

module _ (s : PoolsState) (h : ArePools s) (i : ℕ) (a : Allocation) (live : allocation_at s i ≡ Some a) (p : ℕ) (place : PoolPlace) (lies : a.home ≡ home.Shared p place) where
  pub lies-held : IsHeld s i false p place a.asked
  lies-held = record { allocation = a; live = live; there = ap shared_place lies; asks = refl }

  abbrev pub its-pool : (k : Kept) × (pool_at s p ≡ Some k) × HasRange k.pool place.block (range_at place.start a.asked)
  its-pool = h.taken i false p place a.asked lies-held

  pub pool-below : p < length s.pools
  pool-below = at-below s.pools p its-pool.0 its-pool.1

  module _ (o : Option Kept) (is : o ≡ slice_index_or s.pools p o) where
    pub not-none : o ≡ None → ⊥
    not-none none = go s.pools p o pool-below is none its-pool.1
      where
        go : (xs : List (Option Kept)) (p : ℕ) (o : Option Kept) → p < length xs → o ≡ slice_index_or xs p o → o ≡ None → slice_index_or xs p None ≡ Some its-pool.0 → ⊥
        go xs p o lt is none some = let e = sym (subst (λ (q : Option Kept). q ≡ slice_index_or xs p q) none is) ∙ refl in let f = e in absurd cc

    pub found-pool : (k : Kept) → o ≡ Some k → pool_at s p ≡ Some k
    found-pool k some = found-at s.pools p o k pool-below is some

    pub found-range : (k : Kept) → o ≡ Some k → HasRange k.pool place.block (range_at place.start a.asked)
    found-range k some = subst (λ (l : Kept). HasRange l.pool place.block (range_at place.start a.asked)) (some-is its-pool.0 k (sym its-pool.1 ∙ found-pool k some)) its-pool.2

pub range-block : (p : Pool) (n : ℕ) (t : Taken) → HasRange p n t → Any (λ b. b.number ≡ n) p.blocks
range-block p n t has = (has.there.0, has.block, has.there.1, has.there.2, has.number)

-- ---- memory objects

some-bytes : (o : Option Object) → 0 < length (bytes_of o) → IsSome o
some-bytes None lt = absurd (omega (arith, lt))
some-bytes (Some x) lt = refl

pub sized-live : (m : MemoryState) (n size : ℕ) → length (region_of m n) ≡ size → 0 < size → IsLive m n
sized-live m n size is some = some-bytes (object_at m n) (omega (arith, is, some))

pub own-live : (s : PoolsState) (h : ArePools s) (m : MemoryState) → Backs s m → (i : ℕ) (a : Allocation) (n : ℕ) → allocation_at s i ≡ Some a → a.home ≡ home.Own n → IsLive m n
own-live s h m backs i a n live lies = sized-live m n a.asked.size (backs.own i a n live lies) (h.requests i a live).some

pub block-live : (s : PoolsState) (h : ArePools s) (m : MemoryState) → Backs s m → (p : ℕ) (k : Kept) → pool_at s p ≡ Some k → (new : List ℕ) (n : ℕ) → Loses k.memories new n → IsLive m n
block-live s h m backs p k at new n loses =
    let o = backs.blocks p k loses.index at loses.there in
    subst (λ (x : ℕ). IsLive m x) loses.is (sized-live m (get_or k.memories loses.index 0) k.pool.info.block_size o.bytes (h.pools p k at).info.some)

-- ---- answers about what is live

pub live-and : (s : PoolsState) (i : ℕ) (a : Allocation) (P : Allocation → Type 0) → allocation_at s i ≡ Some a → P a → IfLive s i P
live-and s i a P live h = subst (λ (o : Option Allocation). IsSomeAnd o P) (sym live) h

pub kept-and : (s : PoolsState) (p : ℕ) (k : Kept) (P : Kept → Type 0) → pool_at s p ≡ Some k → P k → IfKept s p P
kept-and s p k P at h = subst (λ (o : Option Kept). IsSomeAnd o P) (sym at) h

-- the pool that was found at its number is the live one
pub kept-here : (s : PoolsState) (p : ℕ) (P : Kept → Type 0) → IfKept s p P → (o : Option Kept) (x : Kept) → o ≡ slice_index_or s.pools p o → o ≡ Some x → pool_at s p ≡ Some x
kept-here s p P h o x is some = let k = kept-is s p P h in found-at s.pools p o x (at-below s.pools p k.0 k.1) is some

-- an allocation of a pool lies in the memory object of its block
pub spot-shared : (s : PoolsState) (i : ℕ) (a : Allocation) → allocation_at s i ≡ Some a → (p : ℕ) (place : PoolPlace) → a.home ≡ home.Shared p place → (k : Kept) → pool_at s p ≡ Some k → (m : ℕ) → IsMemoryOf k place.block m
    → IfLive s i (λ b. IsSpotOf s b.home b.asked (record { memory = m; offset = place.start; size = a.asked.size }))
spot-shared s i a live p place lies k at m is =
    let spot : Spot = record { memory = m; offset = place.start; size = a.asked.size } in
    live-and s i a (λ b. IsSpotOf s b.home b.asked spot) live
    (subst (λ (h : Home). IsSpotOf s h a.asked spot) (sym lies) (kept-and s p k (λ k. IsMemoryOf k place.block spot.memory × (spot.offset ≡ place.start) × (spot.size ≡ a.asked.size)) at (is, refl, refl)))

-- ---- an allocation that ends

pub live-holds : (s : PoolsState) (i : ℕ) (P : Allocation → Type 0) → IfLive s i P → (a : Allocation) → allocation_at s i ≡ Some a → P a
live-holds s i P h a live = let l = live-is s i P h in subst P (some-is l.0 a (sym l.1 ∙ live)) l.2

pub own-places : (a : Allocation) (n : ℕ) → a.home ≡ home.Own n → (r : Bool) → held_place r a ≡ None
own-places a n lies false = ap shared_place lies
own-places a n lies true = ap (λ (h : Home). reserved_place h a.target) lies

pub its-place : (a : Allocation) (p : ℕ) (place : PoolPlace) → a.home ≡ home.Shared p place → held_place false a ≡ Some (p, place)
its-place a p place lies = ap shared_place lies

pub no-target : (a : Allocation) (p : ℕ) (place : PoolPlace) → a.home ≡ home.Shared p place → a.target ≡ None → held_place true a ≡ None
no-target a p place lies none = ap (λ (h : Home). reserved_place h a.target) lies ∙ ap (λ (t : Option PoolPlace). reserved_place (home.Shared p place) t) none

pub loses-block : (gone : Option ℕ) (was now : Kept) → IfNone gone (now.memories ≡ was.memories) → IfSome gone (λ n. Loses was.memories now.memories n) → LosesBlock gone was now
loses-block None was now kept lost = kept
loses-block (Some n) was now kept lost = lost

-- what has ended had a memory object that is live
pub ended-live : (s : PoolsState) (h : ArePools s) (m : MemoryState) → Backs s m → (i : ℕ) (a : Allocation) → allocation_at s i ≡ Some a → (new : PoolsState) (n : ℕ) (l : Home) → a.home ≡ l → IsEnded s new i l (Some n) → IsLive m n
ended-live s h m backs i a live new n (home.Own k) lies ended = subst (λ (x : ℕ). IsLive m x) (some-is k n (sym ended.0)) (own-live s h m backs i a k live lies)
ended-live s h m backs i a live new n (home.Shared p place) lies ended = block-live s h m backs p ended.was ended.there ended.now.memories n ended.objects

-- ---- places of allocations

pub places-apart : (s : PoolsState) → ArePools s → ArePlacesApart s
places-apart s h i j r v p place other a b x y same differ =
    let one = h.taken i r p place a x in let two = h.taken j v p other b y in
    let k = some-is two.0 one.0 (sym two.1 ∙ one.1) in
    let there = subst (λ (k : Kept). HasRange k.pool place.block (range_at other.start b)) k (subst (λ (n : ℕ). HasRange two.0.pool n (range_at other.start b)) (sym same) two.2) in
    ranges-apart one.0.pool (h.pools p one.0 one.1).pool place.block (range_at place.start a) (range_at other.start b) one.2 there
    (λ starts. differ (h.one i j r v p place a b x (subst (λ (q : PoolPlace). IsHeld s j v p q b) (place-is other place (sym same) (sym starts)) y)))
  where
    place-is : (x y : PoolPlace) → x.block ≡ y.block → x.start ≡ y.start → x ≡ y
    place-is x y e f = ap (λ (n : ℕ). record { block = n; start = x.start }) e ∙ ap (λ (n : ℕ). record { block = y.block; start = n }) f
