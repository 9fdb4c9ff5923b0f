-- Pools and allocations stay as they always are when an allocation changes or has ended.
use Rattle.std.proofs.Common.{◌≡◌, ℕ, ◌<◌, length, set, Bool, true, false, Option, Some, None, refl, sym, ap, subst, ◌∙◌, arith, inl, inr}
use Rattle.std.specs.Prelude.{IsSome, IsSomeAnd, slice_index_or, unwrap_or}
use Rattle.std.proofs.lemmas.Bool.{cases_eq}
use Rattle.std.proofs.lemmas.List.{length-set}
use Rattle.vma_pools.specs.Alike.{IsAlikePool}
use Rattle.vk_model.specs.Memory.Suballocation.{IsRequest}
use Rattle.vk_model.specs.Memory.Pools.{pool_without}
use Rattle.vma_pools.specs.declared.pool.PoolPlace.{PoolPlace}
use Rattle.vma_pools.specs.declared.allocations.Asked.{Asked}
use Rattle.vma_pools.specs.declared.allocations.Allocation.{Allocation}
use Rattle.vma_pools.specs.declared.allocations.Home.{Home}
use Rattle.vma_pools.specs.Pools.{Kept}
use Rattle.vma_pools.specs.Ranges.{HasRange}
use Rattle.vma_pools.specs.State.{PoolsState, pool_at, allocation_at, held_place, shared_place, reserved_place, IfLive, IfKept, IsUnused, start_of, range_at, IsHeld, ArePools}
use Rattle.vma_pools.proofs.RangeLemmas.{left-kept, left-from}
use Rattle.vma_pools.proofs.NumberLemmas.{at-below, at-set, at-other, found-at}
use Rattle.vma_pools.proofs.AlikeRanges.{alike-range, range-alike}
use Rattle.vma_pools.proofs.StateLemmas.{Fine, same-held, some-is}

-- ---- what is live

pub live-is : (s : PoolsState) (i : ℕ) (P : Allocation → Type 0) → IfLive s i P → (a : Allocation) × (allocation_at s i ≡ Some a) × P a
live-is s i P h = go (allocation_at s i) refl h
  where
    go : (o : Option Allocation) → allocation_at s i ≡ o → IsSomeAnd o P → (a : Allocation) × (allocation_at s i ≡ Some a) × P a
    go None e h = absurd h
    go (Some a) e h = (a, e, h)

pub kept-is : (s : PoolsState) (p : ℕ) (P : Kept → Type 0) → IfKept s p P → (k : Kept) × (pool_at s p ≡ Some k) × P k
kept-is s p P h = go (pool_at s p) refl h
  where
    go : (o : Option Kept) → pool_at s p ≡ o → IsSomeAnd o P → (k : Kept) × (pool_at s p ≡ Some k) × P k
    go None e h = absurd h
    go (Some k) e h = (k, e, h)

-- the allocation that was found at its number is the live one
pub live-here : (s : PoolsState) (i : ℕ) (P : Allocation → Type 0) → IfLive s i P → (o : Option Allocation) (x : Allocation) → o ≡ slice_index_or s.allocations i o → o ≡ Some x → allocation_at s i ≡ Some x
live-here s i P h o x is some = let l = live-is s i P h in found-at s.allocations i o x (at-below s.allocations i l.0 l.1) is some

pub some-live : (s : PoolsState) (i : ℕ) → IsSome (allocation_at s i) → (o : Option Allocation) (x : Allocation) → o ≡ slice_index_or s.allocations i o → o ≡ Some x → allocation_at s i ≡ Some x
some-live s i h o x is some = go (allocation_at s i) refl h
  where
    go : (p : Option Allocation) → allocation_at s i ≡ p → IsSome p → allocation_at s i ≡ Some x
    go None e h = absurd cc
    go (Some a) e h = found-at s.allocations i o x (at-below s.allocations i a e) is some

-- where two allocations lie in the same places
pub same-places : (a b : Allocation) → b.home ≡ a.home → b.target ≡ a.target → (r : Bool) → held_place r b ≡ held_place r a
same-places a b e f false = ap shared_place e
same-places a b e f true = ap (λ (h : Home). reserved_place h b.target) e ∙ ap (λ (t : Option PoolPlace). reserved_place a.home t) f

-- ---- an allocation has ended, or is mapped another time

-- one of the allocations is another one, or none
module _ (s : PoolsState) (i : ℕ) (a : Option Allocation) where
  abbrev changed : PoolsState
  changed = record s { allocations = set s.allocations i a }

  changed-length : length changed.allocations ≡ length s.allocations
  changed-length = length-set s.allocations i a

  pub other-held : (j : ℕ) (r : Bool) (p : ℕ) (place : PoolPlace) (asked : Asked) → (j ≡ i → ⊥) → IsHeld s j r p place asked → IsHeld changed j r p place asked
  other-held j r p place asked other held = record { allocation = held.allocation; live = at-other s.allocations i j a other ∙ held.live; there = held.there; asks = held.asks }

  pub from-other : (j : ℕ) (r : Bool) (p : ℕ) (place : PoolPlace) (asked : Asked) → (j ≡ i → ⊥) → IsHeld changed j r p place asked → IsHeld s j r p place asked
  from-other j r p place asked other held = record { allocation = held.allocation; live = sym (at-other s.allocations i j a other) ∙ held.live; there = held.there; asks = held.asks }

-- another one that holds the same
module _ (s : PoolsState) (h : ArePools s) (i : ℕ) (a b : Allocation) (live : allocation_at s i ≡ Some a) (holds : (r : Bool) → held_place r b ≡ held_place r a) (asks : b.asked ≡ a.asked) where
  abbrev turned : PoolsState
  turned = changed s i (Some b)

  abbrev below : i < length s.allocations
  below = at-below s.allocations i a live

  turned-here : allocation_at turned i ≡ Some b
  turned-here = at-set s.allocations i (Some b) below

  turned-held : (j : ℕ) (r : Bool) (p : ℕ) (place : PoolPlace) (asked : Asked) → IsHeld s j r p place asked → IsHeld turned j r p place asked
  turned-held j r p place asked held = elim (cases_eq j i) [
    | inl is ↦ (let same = some-is a held.allocation (sym live ∙ ap (λ (n : ℕ). allocation_at s n) (sym is) ∙ held.live) in
        record { allocation = b; live = ap (λ (n : ℕ). allocation_at turned n) is ∙ turned-here; there = holds r ∙ ap (λ (x : Allocation). held_place r x) same ∙ held.there; asks = asks ∙ ap (λ (x : Allocation). x.asked) same ∙ held.asks })
    | inr other ↦ other-held s i (Some b) j r p place asked other held
  ]

  from-turned : (j : ℕ) (r : Bool) (p : ℕ) (place : PoolPlace) (asked : Asked) → IsHeld turned j r p place asked → IsHeld s j r p place asked
  from-turned j r p place asked held = elim (cases_eq j i) [
    | inl is ↦ (let same = some-is b held.allocation (sym turned-here ∙ ap (λ (n : ℕ). allocation_at turned n) (sym is) ∙ held.live) in
        record { allocation = a; live = ap (λ (n : ℕ). allocation_at s n) is ∙ live; there = sym (holds r) ∙ ap (λ (x : Allocation). held_place r x) same ∙ held.there; asks = sym asks ∙ ap (λ (x : Allocation). x.asked) same ∙ held.asks })
    | inr other ↦ from-other s i (Some b) j r p place asked other held
  ]

  pub turned-pools : ArePools turned
  turned-pools = record {
    pools = h.pools;
    blocks = λ p k at. let l = h.blocks p k at in omega (arith, l, changed-length s i (Some b));
    requests = λ j c at. elim (cases_eq j i) [
      | inl is ↦ subst (λ (x : Allocation). IsRequest x.asked.size x.asked.align) (some-is b c (sym turned-here ∙ ap (λ (n : ℕ). allocation_at turned n) (sym is) ∙ at)) (subst (λ (x : Asked). IsRequest x.size x.align) (sym asks) (h.requests i a live))
      | inr other ↦ h.requests j c (sym (at-other s.allocations i j (Some b) other) ∙ at)
    ];
    taken = λ j r p place asked held. h.taken j r p place asked (from-turned j r p place asked held);
    held = λ p k n t at range. let o = h.held p k n t at range in (o.0, o.1, o.2, o.3, turned-held o.0 o.1 p o.2 o.3 o.4, o.5, o.6);
    one = λ j l r v p place asked other x y. h.one j l r v p place asked other (from-turned j r p place asked x) (from-turned l v p place other y);
  }

-- a place that is taken in a pool is given back
module _ (s t : PoolsState) (h : ArePools s) (p : ℕ) (old now : Kept) (there : pool_at s p ≡ Some old) (place : PoolPlace) (same : IsAlikePool (pool_without old.pool (start_of place)) now.pool) (fine : Fine now)
    (here : pool_at t p ≡ Some now) (others : (q : ℕ) → (q ≡ p → ⊥) → pool_at t q ≡ pool_at s q)
    (long : length t.allocations ≡ length s.allocations)
    (requests : (i : ℕ) (a : Allocation) → allocation_at t i ≡ Some a → IsRequest a.asked.size a.asked.align)
    (holder : ℕ) (which : Bool) (asked : Asked) (mine : IsHeld s holder which p place asked)
    (from : (j : ℕ) (r : Bool) (q : ℕ) (pl : PoolPlace) (b : Asked) → IsHeld t j r q pl b → IsHeld s j r q pl b × ((j ≡ holder) × (r ≡ which) → ⊥))
    (keep : (j : ℕ) (r : Bool) (q : ℕ) (pl : PoolPlace) (b : Asked) → IsHeld s j r q pl b → ((j ≡ holder) × (r ≡ which) → ⊥) → IsHeld t j r q pl b) where
  left-is : (q : ℕ) (k : Kept) → q ≡ p → pool_at t q ≡ Some k → now ≡ k
  left-is q k is at = some-is now k (sym here ∙ ap (λ (n : ℕ). pool_at t n) (sym is) ∙ at)

  place-is : (x y : PoolPlace) → x.block ≡ y.block → x.start ≡ y.start → x ≡ y
  place-is x y e f = ap (λ (n : ℕ). record { block = n; start = x.start }) e ∙ ap (λ (n : ℕ). record { block = y.block; start = n }) f

  -- what is held at another start isn't what was given back
  not-mine : (j : ℕ) (r : Bool) (q : ℕ) (pl : PoolPlace) (b : Asked) → IsHeld s j r q pl b → (q ≡ p → pl ≡ place → ⊥) → (j ≡ holder) × (r ≡ which) → ⊥
  not-mine j r q pl b held other is =
      let e : held_place r held.allocation ≡ held_place which mine.allocation =
      ap (λ (v : Bool). held_place v held.allocation) is.1
      ∙ ap (λ (a : Allocation). held_place which a) (some-is held.allocation mine.allocation (sym held.live ∙ ap (λ (n : ℕ). allocation_at s n) is.0 ∙ mine.live)) in
      let f = sym held.there ∙ e ∙ mine.there in
      other (ap (λ (o : Option (ℕ × PoolPlace)). (unwrap_or o (q, pl)).0) f) (ap (λ (o : Option (ℕ × PoolPlace)). (unwrap_or o (q, pl)).1) f)

  pub less-places : ArePools t
  less-places = record {
    pools = λ q k at. elim (cases_eq q p) [ inl is ↦ subst Fine (left-is q k is at) fine | inr other ↦ h.pools q k (sym (others q other) ∙ at) ];
    blocks = λ q k at. elim (cases_eq q p) [
      | inl is ↦ (let l = h.blocks p old there in omega (arith, l, same.next, ap (λ (k : Kept). k.pool.next) (left-is q k is at), long))
      | inr other ↦ (let l = h.blocks q k (sym (others q other) ∙ at) in omega (arith, l, long))
    ];
    requests = requests;
    taken = λ j r q pl b held. (let f = from j r q pl b held in let o = h.taken j r q pl b f.0 in elim (cases_eq q p) [
      | inl is ↦ (let k-is = some-is o.0 old (sym o.1 ∙ ap (λ (n : ℕ). pool_at s n) is ∙ there) in (
        now,
        ap (λ (n : ℕ). pool_at t n) is ∙ here,
        alike-range (pool_without old.pool (start_of place)) now.pool same pl.block (range_at pl.start b)
            (left-kept old.pool (h.pools p old there).pool (start_of place) pl.block (range_at pl.start b) (subst (λ (k : Kept). HasRange k.pool pl.block (range_at pl.start b)) k-is o.2)
            (λ e g. f.1 (h.one j holder r which p place b asked (subst (λ (x : PoolPlace). IsHeld s j r p x b) (place-is pl place e g) (subst (λ (m : ℕ). IsHeld s j r m pl b) is f.0)) mine))),
      ))
      | inr other ↦ (o.0, others q other ∙ o.1, o.2)
    ]);
    held = λ q k n u at range. elim (cases_eq q p) [
      | inl is ↦ (let f = left-from old.pool (h.pools p old there).pool (start_of place) n u (range-alike (pool_without old.pool (start_of place)) now.pool same n u (subst (λ (k : Kept). HasRange k.pool n u) (sym (left-is q k is at)) range)) in
          let o = h.held p old n u there f.0 in (
            o.0,
            o.1,
            o.2,
            o.3,
            subst (λ (m : ℕ). IsHeld t o.0 o.1 m o.2 o.3) (sym is)
                (keep o.0 o.1 p o.2 o.3 o.4 (not-mine o.0 o.1 p o.2 o.3 o.4 (λ e g. f.1 (sym o.5 ∙ ap (λ (x : PoolPlace). x.block) g) (sym o.6 ∙ ap (λ (x : PoolPlace). x.start) g)))),
            o.5,
            o.6,
          ))
      | inr other ↦ (let o = h.held q k n u (sym (others q other) ∙ at) range in
          (o.0, o.1, o.2, o.3, keep o.0 o.1 q o.2 o.3 o.4 (not-mine o.0 o.1 q o.2 o.3 o.4 (λ e g. other e)), o.5, o.6))
    ];
    one = λ j l r v q pl b c x y. h.one j l r v q pl b c (from j r q pl b x).0 (from l v q pl c y).0;
  }

-- one that held nothing of a pool has ended
module _ (s : PoolsState) (h : ArePools s) (i : ℕ) (a : Allocation) (live : allocation_at s i ≡ Some a) where
  abbrev ended : PoolsState
  ended = changed s i None

  ended-here : allocation_at ended i ≡ None
  ended-here = at-set s.allocations i None (at-below s.allocations i a live)

  -- what is held isn't by the one that has ended
  ended-other : (j : ℕ) (r : Bool) (p : ℕ) (place : PoolPlace) (asked : Asked) → IsHeld ended j r p place asked → j ≡ i → ⊥
  ended-other j r p place asked held is = let e = sym ended-here ∙ ap (λ (n : ℕ). allocation_at ended n) (sym is) ∙ held.live in cc

  from-ended : (j : ℕ) (r : Bool) (p : ℕ) (place : PoolPlace) (asked : Asked) → IsHeld ended j r p place asked → IsHeld s j r p place asked
  from-ended j r p place asked held = from-other s i None j r p place asked (ended-other j r p place asked held) held

  ended-requests : (j : ℕ) (b : Allocation) → allocation_at ended j ≡ Some b → IsRequest b.asked.size b.asked.align
  ended-requests j b at = elim (cases_eq j i) [
    | inl is ↦ absurd (let e = sym ended-here ∙ ap (λ (n : ℕ). allocation_at ended n) (sym is) ∙ at in cc)
    | inr other ↦ h.requests j b (sym (at-other s.allocations i j None other) ∙ at)
  ]

  module _ (own : (r : Bool) → held_place r a ≡ None) where
    pub own-ended : ArePools ended
    own-ended = record {
      pools = h.pools;
      blocks = λ p k at. let l = h.blocks p k at in omega (arith, l, changed-length s i None);
      requests = ended-requests;
      taken = λ j r p place asked held. h.taken j r p place asked (from-ended j r p place asked held);
      held = λ p k n t at range. let o = h.held p k n t at range in (o.0, o.1, o.2, o.3, other-held s i None o.0 o.1 p o.2 o.3 (apart o.0 o.1 p o.2 o.3 o.4) o.4, o.5, o.6);
      one = λ j l r v p place asked other x y. h.one j l r v p place asked other (from-ended j r p place asked x) (from-ended l v p place other y);
    }
      where
        apart : (j : ℕ) (r : Bool) (p : ℕ) (place : PoolPlace) (asked : Asked) → IsHeld s j r p place asked → j ≡ i → ⊥
        apart j r p place asked held is =
            let same = some-is a held.allocation (sym live ∙ ap (λ (n : ℕ). allocation_at s n) (sym is) ∙ held.live) in
            let none = own r in let there = ap (λ (x : Allocation). held_place r x) same ∙ held.there in cc

  -- one that held one place of a pool, which was given back
  module _ (p : ℕ) (place : PoolPlace) (first : held_place false a ≡ Some (p, place)) (second : held_place true a ≡ None) (old now : Kept) (there : pool_at s p ≡ Some old) (same : IsAlikePool (pool_without old.pool (start_of place)) now.pool) (fine : Fine now) where
    abbrev left : PoolsState
    left = record { pools = set s.pools p (Some now); allocations = set s.allocations i None }

    left-here : pool_at left p ≡ Some now
    left-here = at-set s.pools p (Some now) (at-below s.pools p old there)

    left-other : (q : ℕ) → (q ≡ p → ⊥) → pool_at left q ≡ pool_at s q
    left-other q other = at-other s.pools p q (Some now) other

    from-left : (j : ℕ) (r : Bool) (q : ℕ) (pl : PoolPlace) (b : Asked) → IsHeld left j r q pl b → IsHeld s j r q pl b × ((j ≡ i) × (r ≡ false) → ⊥)
    from-left j r q pl b held =
        let in_ended = same-held left ended refl j r q pl b held in (from-ended j r q pl b in_ended, λ is. ended-other j r q pl b in_ended is.0)

    -- it held no other place
    keep-left : (j : ℕ) (r : Bool) (q : ℕ) (pl : PoolPlace) (b : Asked) → IsHeld s j r q pl b → ((j ≡ i) × (r ≡ false) → ⊥) → IsHeld left j r q pl b
    keep-left j r q pl b held other = same-held ended left refl j r q pl b (other-held s i None j r q pl b (λ is. go r held other is) held)
      where
        go : (r : Bool) → IsHeld s j r q pl b → ((j ≡ i) × (r ≡ false) → ⊥) → j ≡ i → ⊥
        go false held other is = other (is, refl)
        go true held other is = let e = sym second ∙ ap (λ (x : Allocation). held_place true x) (some-is a held.allocation (sym live ∙ ap (λ (n : ℕ). allocation_at s n) (sym is) ∙ held.live)) ∙ held.there in cc

    pub shared-ended : ArePools left
    shared-ended =
        less-places s left h p old now there place same fine left-here left-other (changed-length s i None) ended-requests i false a.asked (record { allocation = a; live = live; there = first; asks = refl }) from-left keep-left

-- ---- a pool has ended

module _ (s : PoolsState) (h : ArePools s) (p : ℕ) (below : p < length s.pools) (unused : IsUnused s p) where
  abbrev dropped : PoolsState
  dropped = record s { pools = set s.pools p None }

  dropped-other : (q : ℕ) → (q ≡ p → ⊥) → pool_at dropped q ≡ pool_at s q
  dropped-other q other = at-other s.pools p q None other

  not-dropped : (q : ℕ) (k : Kept) → pool_at dropped q ≡ Some k → q ≡ p → ⊥
  not-dropped q k at is = let e = sym (at-set s.pools p None below) ∙ ap (λ (n : ℕ). pool_at dropped n) (sym is) ∙ at in cc

  pub pool-dropped : ArePools dropped
  pool-dropped = record {
    pools = λ q k at. h.pools q k (sym (dropped-other q (not-dropped q k at)) ∙ at);
    blocks = λ q k at. h.blocks q k (sym (dropped-other q (not-dropped q k at)) ∙ at);
    requests = h.requests;
    taken = λ i r q place asked held.
        let was = same-held dropped s refl i r q place asked held in let o = h.taken i r q place asked was in
        (o.0, dropped-other q (λ is. unused i r place asked (subst (λ (m : ℕ). IsHeld s i r m place asked) is was)) ∙ o.1, o.2);
    held = λ q k n t at range.
        let o = h.held q k n t (sym (dropped-other q (not-dropped q k at)) ∙ at) range in
        (o.0, o.1, o.2, o.3, same-held s dropped refl o.0 o.1 q o.2 o.3 o.4, o.5, o.6);
    one = λ i j r v q place asked other x y. h.one i j r v q place asked other (same-held dropped s refl i r q place asked x) (same-held dropped s refl j v q place other y);
  }
