-- Pools and allocations stay as they always are when an allocation with two places keeps one of them.
use Rattle.std.proofs.Common.{◌≡◌, ℕ, zero, suc, ◌<◌, List, [], ◌∷◌, length, set, Bool, true, false, not, Option, Some, None, refl, sym, ap, subst, ◌∙◌, arith, inl, inr, ◌⊎◌}
use Rattle.std.specs.Prelude.{slice_index_or}
use Rattle.std.proofs.lemmas.Bool.{cases_eq}
use Rattle.std.proofs.lemmas.List.{length-set}
use Rattle.vk_model.specs.Memory.Suballocation.{IsRequest}
use Rattle.vk_model.specs.Memory.Pools.{pool_without}
use Rattle.vma_pools.specs.declared.pool.PoolPlace.{PoolPlace}
use Rattle.vma_pools.specs.declared.allocations.Asked.{Asked}
use Rattle.vma_pools.specs.declared.allocations.Allocation.{Allocation}
use Rattle.vma_pools.specs.declared.allocations.Home.TheVariants as home
use Rattle.vma_pools.specs.Alike.{IsAlikePool}
use Rattle.vma_pools.specs.Pools.{Kept}
use Rattle.vma_pools.specs.Ranges.{HasRange}
use Rattle.vma_pools.specs.State.{PoolsState, pool_at, allocation_at, held_place, start_of, range_at, IsHeld, ArePools}
use Rattle.vma_pools.specs.Inner.Settling.{HasPlaces}
use Rattle.vma_pools.proofs.NumberLemmas.{at-below, at-set, at-other, found-at}
use Rattle.vma_pools.proofs.StateLemmas.{Fine, some-is}
use Rattle.vma_pools.proofs.EndedLemmas.{other-held, from-other, less-places}

-- ---- the pool of a place that is taken for an allocation

module _ (s : PoolsState) (h : ArePools s) (i : ℕ) (r : Bool) (p : ℕ) (place : PoolPlace) (asked : Asked) (held : IsHeld s i r p place asked) where
  abbrev pub held-pool : (k : Kept) × (pool_at s p ≡ Some k) × HasRange k.pool place.block (range_at place.start asked)
  held-pool = h.taken i r p place asked held

  pub held-below : p < length s.pools
  held-below = at-below s.pools p held-pool.0 held-pool.1

  module _ (o : Option Kept) (is : o ≡ slice_index_or s.pools p o) where
    pub held-there : o ≡ None → ⊥
    held-there none = let e = subst (λ (q : Option Kept). q ≡ slice_index_or s.pools p q) none is ∙ held-pool.1 in absurd cc

    pub held-found : (k : Kept) → o ≡ Some k → pool_at s p ≡ Some k
    held-found k some = found-at s.pools p o k held-below is some

    pub held-range : (k : Kept) → o ≡ Some k → HasRange k.pool place.block (range_at place.start asked)
    held-range k some = subst (λ (l : Kept). HasRange l.pool place.block (range_at place.start asked)) (some-is held-pool.0 k (sym held-pool.1 ∙ held-found k some)) held-pool.2

-- ---- one that keeps the first of its places

module _ (s : PoolsState) (h : ArePools s) (i : ℕ) (a b : Allocation) (live : allocation_at s i ≡ Some a) (p : ℕ) (back stays : PoolPlace)
    (first : held_place false a ≡ Some (p, stays)) (second : held_place true a ≡ Some (p, back)) (keeps : held_place false b ≡ Some (p, stays)) (none : held_place true b ≡ None) (asks : b.asked ≡ a.asked)
    (old now : Kept) (there : pool_at s p ≡ Some old) (same : IsAlikePool (pool_without old.pool (start_of back)) now.pool) (fine : Fine now) where
  abbrev kept : PoolsState
  kept = record { pools = set s.pools p (Some now); allocations = set s.allocations i (Some b) }

  kept-here : allocation_at kept i ≡ Some b
  kept-here = at-set s.allocations i (Some b) (at-below s.allocations i a live)

  from-kept : (j : ℕ) (r : Bool) (q : ℕ) (pl : PoolPlace) (c : Asked) → IsHeld kept j r q pl c → IsHeld s j r q pl c × ((j ≡ i) × (r ≡ true) → ⊥)
  from-kept j r q pl c x = elim (cases_eq j i) [
    | inl is ↦ here r is x
    | inr other ↦ (from-other s i (Some b) j r q pl c other (record { allocation = x.allocation; live = x.live; there = x.there; asks = x.asks }), λ e. other e.0)
  ]
    where
      here : (r : Bool) → j ≡ i → IsHeld kept j r q pl c → IsHeld s j r q pl c × ((j ≡ i) × (r ≡ true) → ⊥)
      here false is x =
          let e = some-is b x.allocation (sym kept-here ∙ ap (λ (n : ℕ). allocation_at kept n) (sym is) ∙ x.live) in (
            record { allocation = a; live = ap (λ (n : ℕ). allocation_at s n) is ∙ live; there = first ∙ sym keeps ∙ ap (λ (c : Allocation). held_place false c) e ∙ x.there; asks = sym asks ∙ ap (λ (c : Allocation). c.asked) e ∙ x.asks },
            λ f. let g = f.1 in absurd cc,
          )
      here true is x =
          let e = some-is b x.allocation (sym kept-here ∙ ap (λ (n : ℕ). allocation_at kept n) (sym is) ∙ x.live) in
          let f = sym none ∙ ap (λ (c : Allocation). held_place true c) e ∙ x.there in absurd (let g = f in cc)

  keep-kept : (j : ℕ) (r : Bool) (q : ℕ) (pl : PoolPlace) (c : Asked) → IsHeld s j r q pl c → ((j ≡ i) × (r ≡ true) → ⊥) → IsHeld kept j r q pl c
  keep-kept j r q pl c x not-this = elim (cases_eq j i) [
    | inl is ↦ here r is x not-this
    | inr other ↦ (let o = other-held s i (Some b) j r q pl c other x in record { allocation = o.allocation; live = o.live; there = o.there; asks = o.asks })
  ]
    where
      here : (r : Bool) → j ≡ i → IsHeld s j r q pl c → ((j ≡ i) × (r ≡ true) → ⊥) → IsHeld kept j r q pl c
      here false is x not-this =
          let e = some-is a x.allocation (sym live ∙ ap (λ (n : ℕ). allocation_at s n) (sym is) ∙ x.live) in
          record { allocation = b; live = ap (λ (n : ℕ). allocation_at kept n) is ∙ kept-here; there = keeps ∙ sym first ∙ ap (λ (c : Allocation). held_place false c) e ∙ x.there; asks = asks ∙ ap (λ (c : Allocation). c.asked) e ∙ x.asks }
      here true is x not-this = absurd (not-this (is, refl))

  pub place-kept : ArePools kept
  place-kept =
      less-places s kept h p old now there back same fine (at-set s.pools p (Some now) (at-below s.pools p old there)) (λ q other. at-other s.pools p q (Some now) other) (length-set s.allocations i (Some b))
      (λ j c at. elim (cases_eq j i) [
        | inl is ↦ subst (λ (x : Allocation). IsRequest x.asked.size x.asked.align) (some-is b c (sym kept-here ∙ ap (λ (n : ℕ). allocation_at kept n) (sym is) ∙ at)) (subst (λ (x : Asked). IsRequest x.size x.align) (sym asks) (h.requests i a live))
        | inr other ↦ h.requests j c (sym (at-other s.allocations i j (Some b) other) ∙ at)
      ])
      i true a.asked (record { allocation = a; live = live; there = second; asks = refl }) from-kept keep-kept

-- ---- one whose two places are exchanged

abbrev Which : ℕ → ℕ → Bool → Bool → Type 0
Which i j r w = ((j ≡ i) × (w ≡ not r)) ⊎ ((j ≡ i → ⊥) × (w ≡ r))

not-twice : (r : Bool) → not (not r) ≡ r
not-twice true = refl
not-twice false = refl

which-same : (i j l : ℕ) (r v w z : Bool) → Which i j r w → Which i l v z → j ≡ l → w ≡ z → r ≡ v
which-same i j l r v w z (inl a) (inl b) e f = sym (not-twice r) ∙ ap not (sym a.1 ∙ f ∙ b.1) ∙ not-twice v
which-same i j l r v w z (inl a) (inr b) e f = absurd (b.0 (sym e ∙ a.0))
which-same i j l r v w z (inr a) (inl b) e f = absurd (a.0 (e ∙ b.0))
which-same i j l r v w z (inr a) (inr b) e f = sym a.1 ∙ f ∙ b.1

module _ (s : PoolsState) (h : ArePools s) (i : ℕ) (a c : Allocation) (live : allocation_at s i ≡ Some a) (turns : (r : Bool) → held_place r c ≡ held_place (not r) a) (asks : c.asked ≡ a.asked) where
  abbrev exchanged : PoolsState
  exchanged = record s { allocations = set s.allocations i (Some c) }

  pub exchanged-here : allocation_at exchanged i ≡ Some c
  exchanged-here = at-set s.allocations i (Some c) (at-below s.allocations i a live)

  to-exchanged : (j : ℕ) (r : Bool) (q : ℕ) (pl : PoolPlace) (d : Asked) → IsHeld s j r q pl d → (w : Bool) × IsHeld exchanged j w q pl d
  to-exchanged j r q pl d x = elim (cases_eq j i) [
    | inl is ↦ (let e = some-is a x.allocation (sym live ∙ ap (λ (n : ℕ). allocation_at s n) (sym is) ∙ x.live) in
        (not r, record { allocation = c; live = ap (λ (n : ℕ). allocation_at exchanged n) is ∙ exchanged-here; there = turns (not r) ∙ ap (λ (v : Bool). held_place v a) (not-twice r) ∙ ap (λ (b : Allocation). held_place r b) e ∙ x.there; asks = asks ∙ ap (λ (b : Allocation). b.asked) e ∙ x.asks }))
    | inr other ↦ (r, other-held s i (Some c) j r q pl d other x)
  ]

  from-exchanged : (j : ℕ) (r : Bool) (q : ℕ) (pl : PoolPlace) (d : Asked) → IsHeld exchanged j r q pl d → (w : Bool) × IsHeld s j w q pl d × Which i j r w
  from-exchanged j r q pl d x = elim (cases_eq j i) [
    | inl is ↦ (let e = some-is c x.allocation (sym exchanged-here ∙ ap (λ (n : ℕ). allocation_at exchanged n) (sym is) ∙ x.live) in
        (not r, record { allocation = a; live = ap (λ (n : ℕ). allocation_at s n) is ∙ live; there = sym (turns r) ∙ ap (λ (b : Allocation). held_place r b) e ∙ x.there; asks = sym asks ∙ ap (λ (b : Allocation). b.asked) e ∙ x.asks }, inl (is, refl)))
    | inr other ↦ (r, from-other s i (Some c) j r q pl d other x, inr (other, refl))
  ]

  pub exchanged-pools : ArePools exchanged
  exchanged-pools = record {
    pools = h.pools;
    blocks = λ p k at. let l = h.blocks p k at in omega (arith, l, length-set s.allocations i (Some c));
    requests = λ j b at. elim (cases_eq j i) [
      | inl is ↦ subst (λ (x : Allocation). IsRequest x.asked.size x.asked.align) (some-is c b (sym exchanged-here ∙ ap (λ (n : ℕ). allocation_at exchanged n) (sym is) ∙ at)) (subst (λ (x : Asked). IsRequest x.size x.align) (sym asks) (h.requests i a live))
      | inr other ↦ h.requests j b (sym (at-other s.allocations i j (Some c) other) ∙ at)
    ];
    taken = λ j r p pl d x. let f = from-exchanged j r p pl d x in h.taken j f.0 p pl d f.1;
    held = λ p k n t at range. let o = h.held p k n t at range in let w = to-exchanged o.0 o.1 p o.2 o.3 o.4 in (o.0, w.0, o.2, o.3, w.1, o.5, o.6);
    one = λ j l r v p pl d e x y.
        let f = from-exchanged j r p pl d x in let g = from-exchanged l v p pl e y in let o = h.one j l f.0 g.0 p pl d e f.1 g.1 in
        (o.0, which-same i j l r v f.0 g.0 f.2 g.2 o.0 o.1);
  }

-- ---- one that keeps either of its places

set-twice : {A : Type 0} (xs : List A) (i : ℕ) (x y : A) → set (set xs i x) i y ≡ set xs i y
set-twice [] zero x y = refl
set-twice [] (suc i) x y = refl
set-twice (z ∷ xs) zero x y = refl
set-twice (z ∷ xs) (suc i) x y = ap (λ l. z ∷ l) (set-twice xs i x y)

abbrev pub left-with : Allocation → ℕ → PoolPlace → Allocation
left-with a p stays = record a { home = home.Shared p stays; target = None }

pub back-held : (s : PoolsState) (i : ℕ) (a : Allocation) → allocation_at s i ≡ Some a → (p : ℕ) (back stays : PoolPlace) → HasPlaces a p back stays → (r : Bool) × IsHeld s i r p back a.asked
back-held s i a live p back stays (inl has) = (true, record { allocation = a; live = live; there = has.1; asks = refl })
back-held s i a live p back stays (inr has) = (false, record { allocation = a; live = live; there = has.0; asks = refl })

module _ (s : PoolsState) (h : ArePools s) (i : ℕ) (a : Allocation) (live : allocation_at s i ≡ Some a) (p : ℕ) (back stays : PoolPlace)
    (old now : Kept) (there : pool_at s p ≡ Some old) (same : IsAlikePool (pool_without old.pool (start_of back)) now.pool) (fine : Fine now) where
  pub settled-pools : HasPlaces a p back stays → ArePools (record { pools = set s.pools p (Some now); allocations = set s.allocations i (Some (left-with a p stays)) })
  settled-pools (inl has) = place-kept s h i a (left-with a p stays) live p back stays has.0 has.1 refl refl refl old now there same fine
  settled-pools (inr has) =
      let turned : Allocation = record a { home = home.Shared p stays; target = Some back } in
      let turns : (r : Bool) → held_place r turned ≡ held_place (not r) a = both has.0 has.1 in
      subst (λ (l : List (Option Allocation)). ArePools (record { pools = set s.pools p (Some now); allocations = l })) (set-twice s.allocations i (Some turned) (Some (left-with a p stays)))
      (place-kept (record s { allocations = set s.allocations i (Some turned) }) (exchanged-pools s h i a turned live turns refl) i turned (left-with a p stays) (exchanged-here s h i a turned live turns refl) p back stays refl refl refl refl refl old now there same fine)
    where
      both : held_place false a ≡ Some (p, back) → held_place true a ≡ Some (p, stays) → (r : Bool) → held_place r (record a { home = home.Shared p stays; target = Some back }) ≡ held_place (not r) a
      both e f true = sym e
      both e f false = sym f
