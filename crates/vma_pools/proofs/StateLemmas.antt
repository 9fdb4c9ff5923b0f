-- Pools and allocations stay as they always are when one more is made.
use Rattle.std.proofs.Common.{◌≡◌, ℕ, ◌+◌, ◌<◌, ◌≤◌, List, [], ◌∷◌, ◌++◌, length, set, Bool, true, false, Option, Some, None, not, ◌&&◌, refl, sym, ap, subst, ◌∙◌, ◌==◌, arith, inl, inr, ◌⊎◌}
use Rattle.std.specs.Prelude.{slice_index_or, unwrap_or, nat_lt, if◌then◌else◌}
use Rattle.std.proofs.lemmas.Bool.{cases_eq, or_parts, and_from, lt-ltb, both_ways}
use Rattle.std.proofs.lemmas.List.{length-append}
use Rattle.vma_pools.specs.Alike.{IsAlikePool}
use Rattle.vk_model.specs.declared.resource.PoolInfo.{PoolInfo}
use Rattle.vk_model.specs.Memory.Suballocation.{Taken, Request, IsRequest, IsApart, ranges_meet, same_kind, share_page}
use Rattle.vk_model.specs.Memory.Pools.{Pool, empty_pool, IsPool, block_with, new_block, in_block, Gives, pool_with, pool_without}
use Rattle.vma_blocks.specs.PoolInfos.{IsPoolInfo}
use Rattle.vma_pools.specs.declared.pool.PoolPlace.{PoolPlace}
use Rattle.vma_pools.specs.declared.allocations.Asked.{Asked}
use Rattle.vma_pools.specs.declared.allocations.Allocation.{Allocation}
use Rattle.vma_pools.specs.declared.allocations.Home.TheVariants as home
use Rattle.vk_model.specs.Memory.MoveTargets.{BlockStart}
use Rattle.vk_memory.specs.MemoryState.{MemoryState}
use Rattle.vma_pools.specs.Pools.{Kept, Takes}
use Rattle.vma_pools.specs.Inner.Kinds.{IsKeptPool}
use Rattle.vma_pools.proofs.KindLemmas.{stays-first, stays-taken, stays-freed}
use Rattle.vma_pools.specs.Ranges.{HasRange}
use Rattle.vma_pools.specs.State.{PoolsState, pool_at, allocation_at, held_place, start_of, request_in, range_at, IsHeld, ArePools}
use Rattle.vma_pools.proofs.RangeLemmas.{range-apart, range-new, range-kept, range-from}
use Rattle.vma_pools.proofs.NumberLemmas.{at-more, at-old, at-new, at-below, at-set, at-other}
use Rattle.vma_pools.proofs.AlikeRanges.{alike-range, range-alike}

-- the allocations are the same
pub same-held : (s t : PoolsState) → t.allocations ≡ s.allocations → (i : ℕ) (r : Bool) (p : ℕ) (place : PoolPlace) (asked : Asked) → IsHeld s i r p place asked → IsHeld t i r p place asked
same-held s t same i r p place asked h = record { allocation = h.allocation; live = ap (λ (l : List (Option Allocation)). slice_index_or l i None) same ∙ h.live; there = h.there; asks = h.asks }

no-range : (info : PoolInfo) (n : ℕ) (t : Taken) → HasRange (empty_pool info) n t → ⊥
no-range info n t h = absurd (omega (arith, h.there.1))

-- ---- one more pool

abbrev pub Fine : Kept → Type 0
Fine k = IsKeptPool k.pool

pub some-is : {A : Type 0} (a b : A) → Some a ≡ Some b → a ≡ b
some-is a b e = cc

module _ (s : PoolsState) (h : ArePools s) (info : PoolInfo) (fine : IsPoolInfo info) where
  abbrev made : Kept
  made = record { pool = empty_pool info; memories = [] }

  abbrev more : PoolsState
  more = record s { pools = s.pools ++ Some made ∷ [] }

  pub pool-made : ArePools more
  pool-made = record {
    pools = λ p k at. elim (at-more s.pools (Some made) p k at) [ inl old ↦ h.pools p k old | inr new ↦ subst Fine (some-is made k new.1) (stays-first info fine) ];
    blocks = λ p k at. elim (at-more s.pools (Some made) p k at) [ inl old ↦ h.blocks p k old | inr new ↦ subst (λ (k : Kept). k.pool.next ≤ length s.allocations) (some-is made k new.1) (omega arith) ];
    requests = h.requests;
    taken = λ i r p place asked held. let old = h.taken i r p place asked (same-held more s refl i r p place asked held) in (old.0, at-old s.pools (Some made) p old.0 old.1, old.2);
    held = λ p k n t at range. elim (at-more s.pools (Some made) p k at) [
      | inl old ↦ (let o = h.held p k n t old range in (o.0, o.1, o.2, o.3, same-held s more refl o.0 o.1 p o.2 o.3 o.4, o.5, o.6))
      | inr new ↦ absurd (no-range info n t (subst (λ (k : Kept). HasRange k.pool n t) (sym (some-is made k new.1)) range))
    ];
    one = λ i j r v p place asked other a b. h.one i j r v p place asked other (same-held more s refl i r p place asked a) (same-held more s refl j v p place other b);
  }

-- ---- one more allocation in a memory object of its own

module _ (s : PoolsState) (h : ArePools s) (a : Allocation) (asks : IsRequest a.asked.size a.asked.align) where
  abbrev added : PoolsState
  added = record s { allocations = s.allocations ++ Some a ∷ [] }

  added-held : (i : ℕ) (r : Bool) (p : ℕ) (place : PoolPlace) (asked : Asked) → IsHeld s i r p place asked → IsHeld added i r p place asked
  added-held i r p place asked held = record { allocation = held.allocation; live = at-old s.allocations (Some a) i held.allocation held.live; there = held.there; asks = held.asks }

  -- what is held was, or is by the new one
  from-added : (i : ℕ) (r : Bool) (p : ℕ) (place : PoolPlace) (asked : Asked) → IsHeld added i r p place asked → IsHeld s i r p place asked ⊎ ((i ≡ length s.allocations) × (held_place r a ≡ Some (p, place)) × (asked ≡ a.asked))
  from-added i r p place asked held = elim (at-more s.allocations (Some a) i held.allocation held.live) [
    | inl old ↦ inl (record { allocation = held.allocation; live = old; there = held.there; asks = held.asks })
    | inr new ↦ (let is = some-is a held.allocation new.1 in inr (new.0, ap (λ (b : Allocation). held_place r b) is ∙ held.there, sym held.asks ∙ ap (λ (b : Allocation). b.asked) (sym is)))
  ]

  added-requests : (i : ℕ) (b : Allocation) → allocation_at added i ≡ Some b → IsRequest b.asked.size b.asked.align
  added-requests i b at = elim (at-more s.allocations (Some a) i b at) [ inl old ↦ h.requests i b old | inr new ↦ subst (λ (c : Allocation). IsRequest c.asked.size c.asked.align) (some-is a b new.1) asks ]

  added-length : length added.allocations ≡ length s.allocations + 1
  added-length = length-append s.allocations (Some a ∷ [])

  module _ (own : (r : Bool) → held_place r a ≡ None) where
    pub own-added : ArePools added
    own-added = record {
      pools = h.pools;
      blocks = λ p k at. let l = h.blocks p k at in omega (arith, l, added-length);
      requests = added-requests;
      taken = λ i r p place asked held. elim (from-added i r p place asked held) [
        | inl old ↦ h.taken i r p place asked old
        | inr new ↦ absurd (no-place r p place new.1)
      ];
      held = λ p k n t at range. let o = h.held p k n t at range in (o.0, o.1, o.2, o.3, added-held o.0 o.1 p o.2 o.3 o.4, o.5, o.6);
      one = λ i j r v p place asked other x y. elim (from-added i r p place asked x) [
        | inl old ↦ elim (from-added j v p place other y) [ inl too ↦ h.one i j r v p place asked other old too | inr new ↦ absurd (no-place v p place new.1) ]
        | inr new ↦ absurd (no-place r p place new.1)
      ];
    }
      where
        no-place : (r : Bool) (p : ℕ) (place : PoolPlace) → held_place r a ≡ Some (p, place) → ⊥
        no-place r p place e = let n = own r in cc

-- ---- one more allocation in a pool

pub next-grows : (p : Pool) (r : Request) (upper : Bool) (s : BlockStart) → (pool_with p r upper s).next ≤ p.next + 1
next-grows p r upper s = go (s.block == p.next)
  where
    go : (v : Bool) → (if v then record p { blocks = p.blocks ++ record { number = p.next; block = block_with (new_block p.info) r upper s.start } ∷ []; next = p.next + 1 }
        else record p { blocks = in_block (λ k. block_with k r upper s.start) s.block p.blocks }).next ≤ p.next + 1
    go true = omega arith
    go false = omega arith

pub given-info : (p : Pool) (r : Request) (upper : Bool) (s : BlockStart) → (pool_with p r upper s).info ≡ p.info
given-info p r upper s = go (s.block == p.next)
  where
    go : (v : Bool) → (if v then record p { blocks = p.blocks ++ record { number = p.next; block = block_with (new_block p.info) r upper s.start } ∷ []; next = p.next + 1 }
        else record p { blocks = in_block (λ k. block_with k r upper s.start) s.block p.blocks }).info ≡ p.info
    go true = refl
    go false = refl

-- a pool stays fine when it has given a place
pub taken-fine : (old now : Kept) (r : Request) (upper : Bool) (s : BlockStart) → 0 < r.size → Fine old → Gives old.pool r upper s → IsAlikePool (pool_with old.pool r upper s) now.pool → Fine now
taken-fine old now r upper s some fine gives same = stays-taken old.pool now.pool r upper s some fine gives same

-- and when a range was given back
pub freed-fine : (old now : Kept) (s : BlockStart) → Fine old → IsAlikePool (pool_without old.pool s) now.pool → Fine now
freed-fine old now s fine same = stays-freed old.pool now.pool s fine same

pub takes-gives : (old now : Kept) (before after : MemoryState) (r : Request) (upper : Bool) (s : BlockStart) → Takes old now before after r upper s → Gives old.pool r upper s × IsAlikePool (pool_with old.pool r upper s) now.pool
takes-gives old now before after r upper s (inl t) = (t.0.given, t.0.pool)
takes-gives old now before after r upper s (inr t) = (t.given, t.pool)

-- two ranges of some bytes that start at one place meet
pub start-meets : (start n m : ℕ) → 0 < n → 0 < m → ranges_meet start n start m ≡ true
start-meets start n m some few =
    and_from (nat_lt 0 n && nat_lt 0 m && nat_lt start (start + m)) (nat_lt start (start + n))
    (and_from (nat_lt 0 n && nat_lt 0 m) (nat_lt start (start + m)) (and_from (nat_lt 0 n) (nat_lt 0 m) (lt-ltb 0 n some) (lt-ltb 0 m few)) (lt-ltb start (start + m) (omega (arith, few))))
    (lt-ltb start (start + n) (omega (arith, some)))

same-start : (start : ℕ) (a b : Asked) → 0 < a.size → 0 < b.size → IsApart (range_at start a) (range_at start b) → ⊥
same-start start a b some few apart =
    both_ways (ranges_meet start a.size start b.size) (or_parts (ranges_meet start a.size start b.size) (not (same_kind a.kind b.kind) && share_page start a.size start b.size) apart).0
    (start-meets start a.size b.size some few)

-- one more place is taken in a pool, for one more allocation or for one that is there
module _ (s t : PoolsState) (h : ArePools s) (p : ℕ) (old now : Kept) (there : pool_at s p ≡ Some old) (asked : Asked) (asks : IsRequest asked.size asked.align) (upper : Bool) (place : PoolPlace)
    (gives : Gives old.pool (request_in asked) upper (start_of place)) (same : IsAlikePool (pool_with old.pool (request_in asked) upper (start_of place)) now.pool) (fine : Fine now)
    (here : pool_at t p ≡ Some now) (others : (q : ℕ) → (q ≡ p → ⊥) → pool_at t q ≡ pool_at s q)
    (longer : length s.allocations ≤ length t.allocations) (bound : now.pool.next ≤ length t.allocations)
    (requests : (i : ℕ) (a : Allocation) → allocation_at t i ≡ Some a → IsRequest a.asked.size a.asked.align)
    (holder : ℕ) (which : Bool) (new : IsHeld t holder which p place asked)
    (keep : (i : ℕ) (r : Bool) (q : ℕ) (pl : PoolPlace) (a : Asked) → IsHeld s i r q pl a → IsHeld t i r q pl a)
    (from : (i : ℕ) (r : Bool) (q : ℕ) (pl : PoolPlace) (a : Asked) → IsHeld t i r q pl a → IsHeld s i r q pl a ⊎ ((i ≡ holder) × (r ≡ which) × (q ≡ p) × (pl ≡ place) × (a ≡ asked))) where
  abbrev old-pool : IsPool old.pool
  old-pool = (h.pools p old there).pool

  abbrev taken : Pool
  taken = pool_with old.pool (request_in asked) upper (start_of place)

  here-is : (q : ℕ) (k : Kept) → q ≡ p → pool_at t q ≡ Some k → now ≡ k
  here-is q k is at = some-is now k (sym here ∙ ap (λ (n : ℕ). pool_at t n) (sym is) ∙ at)

  -- no other was there
  none-there : (i : ℕ) (r : Bool) (a : Asked) → IsHeld s i r p place a → ⊥
  none-there i r a held =
      let was = h.taken i r p place a held in
      let range = subst (λ (k : Kept). HasRange k.pool place.block (range_at place.start a)) (some-is was.0 old (sym was.1 ∙ there)) was.2 in
      let some = subst (λ (b : Asked). IsRequest b.size b.align) held.asks (h.requests i held.allocation held.live) in
      same-start place.start asked a asks.some some.some (range-apart old.pool old-pool (request_in asked) asks.some upper (start_of place) gives (range_at place.start a) range)

  moved : (q : Pool) (x y : PoolPlace) (a b : Asked) → x ≡ y → a ≡ b → HasRange q x.block (range_at x.start a) → HasRange q y.block (range_at y.start b)
  moved q x y a b e f has = subst (λ (c : Asked). HasRange q y.block (range_at y.start c)) f (subst (λ (z : PoolPlace). HasRange q z.block (range_at z.start a)) e has)

  at-place : (i : ℕ) (r : Bool) (q : ℕ) (pl : PoolPlace) (a : Asked) → q ≡ p → pl ≡ place → IsHeld s i r q pl a → IsHeld s i r p place a
  at-place i r q pl a e f held = subst (λ (x : PoolPlace). IsHeld s i r p x a) f (subst (λ (m : ℕ). IsHeld s i r m pl a) e held)

  pub more-places : ArePools t
  more-places = record {
    pools = λ q k at. elim (cases_eq q p) [ inl is ↦ subst Fine (here-is q k is at) fine | inr other ↦ h.pools q k (sym (others q other) ∙ at) ];
    blocks = λ q k at. elim (cases_eq q p) [
      | inl is ↦ subst (λ (k : Kept). k.pool.next ≤ length t.allocations) (here-is q k is at) bound
      | inr other ↦ (let l = h.blocks q k (sym (others q other) ∙ at) in omega (arith, l, longer))
    ];
    requests = requests;
    taken = λ i r q pl a held. elim (from i r q pl a held) [
      | inl was ↦ (let o = h.taken i r q pl a was in elim (cases_eq q p) [
        | inl is ↦ (let k-is = some-is o.0 old (sym o.1 ∙ ap (λ (n : ℕ). pool_at s n) is ∙ there) in (
          now,
          ap (λ (n : ℕ). pool_at t n) is ∙ here,
          alike-range taken now.pool same pl.block (range_at pl.start a)
              (range-kept old.pool old-pool (request_in asked) asks.some upper (start_of place) gives pl.block (range_at pl.start a) (subst (λ (k : Kept). HasRange k.pool pl.block (range_at pl.start a)) k-is o.2)),
        ))
        | inr other ↦ (o.0, others q other ∙ o.1, o.2)
      ])
      | inr one ↦ (
        now,
        ap (λ (m : ℕ). pool_at t m) one.2 ∙ here,
        alike-range taken now.pool same pl.block (range_at pl.start a)
            (moved taken place pl asked a (sym one.3) (sym one.4) (range-new old.pool old-pool (request_in asked) asks.some upper (start_of place) gives)),
      )
    ];
    held = λ q k n u at range. elim (cases_eq q p) [
      | inl is ↦ elim (range-from old.pool old-pool (request_in asked) asks.some upper (start_of place) gives n u (range-alike taken now.pool same n u (subst (λ (k : Kept). HasRange k.pool n u) (sym (here-is q k is at)) range))) [
        | inl one ↦ (holder, which, place, asked, subst (λ (m : ℕ). IsHeld t holder which m place asked) (sym is) new, sym one.0, ap (λ (v : Taken). v.start) (sym one.1))
        | inr was ↦ (let o = h.held p old n u there was in (o.0, o.1, o.2, o.3, subst (λ (m : ℕ). IsHeld t o.0 o.1 m o.2 o.3) (sym is) (keep o.0 o.1 p o.2 o.3 o.4), o.5, o.6))
      ]
      | inr other ↦ (let o = h.held q k n u (sym (others q other) ∙ at) range in (o.0, o.1, o.2, o.3, keep o.0 o.1 q o.2 o.3 o.4, o.5, o.6))
    ];
    one = λ i j r v q pl a b x y. elim (from i r q pl a x) [
      | inl old-x ↦ elim (from j v q pl b y) [ inl old-y ↦ h.one i j r v q pl a b old-x old-y | inr n ↦ absurd (none-there i r a (at-place i r q pl a n.2 n.3 old-x)) ]
      | inr n ↦ elim (from j v q pl b y) [ inl old-y ↦ absurd (none-there j v b (at-place j v q pl b n.2 n.3 old-y)) | inr m ↦ (n.0 ∙ sym m.0, n.1 ∙ sym m.1) ]
    ];
  }

module _ (s : PoolsState) (h : ArePools s) (p : ℕ) (old now : Kept) (there : pool_at s p ≡ Some old) (asked : Asked) (asks : IsRequest asked.size asked.align) (upper : Bool) (place : PoolPlace)
    (gives : Gives old.pool (request_in asked) upper (start_of place)) (same : IsAlikePool (pool_with old.pool (request_in asked) upper (start_of place)) now.pool) (fine : Fine now) where
  abbrev new : Allocation
  new = record { home = home.Shared p place; asked = asked; maps = 0; target = None }

  abbrev given : PoolsState
  given = record { pools = set s.pools p (Some now); allocations = s.allocations ++ Some new ∷ [] }

  given-here : pool_at given p ≡ Some now
  given-here = at-set s.pools p (Some now) (at-below s.pools p old there)

  given-other : (q : ℕ) → (q ≡ p → ⊥) → pool_at given q ≡ pool_at s q
  given-other q other = at-other s.pools p q (Some now) other

  given-held : (i : ℕ) (r : Bool) (q : ℕ) (pl : PoolPlace) (a : Asked) → IsHeld s i r q pl a → IsHeld given i r q pl a
  given-held i r q pl a held = same-held (added s h new asks) given refl i r q pl a (added-held s h new asks i r q pl a held)

  from-given : (i : ℕ) (r : Bool) (q : ℕ) (pl : PoolPlace) (a : Asked) → IsHeld given i r q pl a → IsHeld s i r q pl a ⊎ ((i ≡ length s.allocations) × (held_place r new ≡ Some (q, pl)) × (a ≡ asked))
  from-given i r q pl a held = from-added s h new asks i r q pl a (same-held given (added s h new asks) refl i r q pl a held)

  -- the new one holds its place, and no other
  new-place : (r : Bool) (q : ℕ) (pl : PoolPlace) → held_place r new ≡ Some (q, pl) → (r ≡ false) × (q ≡ p) × (pl ≡ place)
  new-place true q pl e = absurd cc
  new-place false q pl e = (refl, ap (λ (o : Option (ℕ × PoolPlace)). (unwrap_or o (q, pl)).0) (sym e), ap (λ (o : Option (ℕ × PoolPlace)). (unwrap_or o (q, pl)).1) (sym e))

  from-given-place : (i : ℕ) (r : Bool) (q : ℕ) (pl : PoolPlace) (a : Asked) → IsHeld given i r q pl a → IsHeld s i r q pl a ⊎ ((i ≡ length s.allocations) × (r ≡ false) × (q ≡ p) × (pl ≡ place) × (a ≡ asked))
  from-given-place i r q pl a held = elim (from-given i r q pl a held) [ inl old ↦ inl old | inr one ↦ (let n = new-place r q pl one.1 in inr (one.0, n.0, n.1, n.2, one.2)) ]

  pub shared-added : ArePools given
  shared-added =
      let grows = next-grows old.pool (request_in asked) upper (start_of place) in let low = h.blocks p old there in let long = added-length s h new asks in
      more-places s given h p old now there asked asks upper place gives same fine given-here given-other (omega (arith, long)) (omega (arith, low, grows, same.next, long)) (added-requests s h new asks)
      (length s.allocations) false (record { allocation = new; live = at-new s.allocations (Some new); there = refl; asks = refl }) given-held from-given-place
