-- What is planned and what backs pools when a move ends.
use Rattle.std.proofs.Common.{◌≡◌, ℕ, zero, suc, ◌+◌, ◌<◌, List, ◌∷◌, ◌++◌, length, take, drop, set, get_or, Bool, true, false, Option, Some, None, refl, sym, ap, subst, ◌∙◌, arith, inl, inr}
use Rattle.std.specs.Prelude.{Any, IsSomeAnd}
use Rattle.std.proofs.lemmas.Bool.{cases_eq}
use Rattle.std.proofs.lemmas.Grind.{common_steps}
use Rattle.std.proofs.lemmas.List.{length-map, get_or_default}
use Rattle.std.proofs.lemmas.List.Elements.{All-tail}
use Rattle.vk_model.specs.Memory.MoveTargets.{Moved}
use Rattle.vma_pools.specs.declared.pool.PoolPlace.{PoolPlace}
use Rattle.vma_pools.specs.declared.allocations.Asked.{Asked}
use Rattle.vma_pools.specs.declared.allocations.Allocation.{Allocation}
use Rattle.vma_pools.specs.declared.allocations.Home.{Home}
use Rattle.vma_pools.specs.declared.allocations.Home.TheVariants as home
use Rattle.vma_pools.specs.Pools.{Kept, KeepsBlocks, block_numbers}
use Rattle.vma_pools.specs.State.{PoolsState, pool_at, allocation_at, held_place, shared_place, IsHeld, IfLive}
use Rattle.vma_pools.specs.Moves.{IsSettled, IsCancelled, IsRebound, IsMoving}
use Rattle.vma_pools.proofs.NumberLemmas.{at-below, at-set, at-other}
use Rattle.vma_pools.proofs.StateLemmas.{some-is}
use Rattle.vma_defrag.specs.Plans.{AreMatched, ArePlanned, IsMove}
use Rattle.vma_defrag.specs.Ends.{AreOfPool, Settles}

-- what moves may be cancelled and rebound
pub is_moving : (s : PoolsState) (pool : ℕ) (m : Moved) → IsMove s pool m → IfLive s m.id (λ a. IsMoving a.home a.target)
is_moving s pool m its =
    subst (λ (o : Option Allocation). IsSomeAnd o (λ a. IsMoving a.home a.target)) (sym its.live)
    (subst (λ (l : Home). IsMoving l its.allocation.target) (sym its.lies) (subst (λ (t : Option PoolPlace). IsMoving (home.Shared pool its.from) t) (sym its.reserved) tt))

-- of the two places of what moves one is given back
unfoldable pub settled_is : (flag : Bool) (s t : PoolsState) (pool : ℕ) (m : Moved) (gone : Option ℕ) (its : IsMove s pool m) → IfLive s m.id (Settles flag s m t gone) → (back : PoolPlace) × (stays : PoolPlace) × IsSettled s t m.id its.allocation pool back stays gone
settled_is true s t pool m gone its ends =
    let a = its.allocation in
    let c : IsCancelled s t m.id a a.home a.target gone = subst (λ (o : Option Allocation). IsSomeAnd o (Settles true s m t gone)) its.live ends in
    (its.target, its.from, subst (λ (u : Option PoolPlace). IsCancelled s t m.id a (home.Shared pool its.from) u gone) its.reserved (subst (λ (l : Home). IsCancelled s t m.id a l a.target gone) its.lies c))
settled_is false s t pool m gone its ends =
    let a = its.allocation in
    let c : IsRebound s t m.id a a.home a.target gone = subst (λ (o : Option Allocation). IsSomeAnd o (Settles false s m t gone)) its.live ends in
    (its.from, its.target, subst (λ (u : Option PoolPlace). IsRebound s t m.id a (home.Shared pool its.from) u gone) its.reserved (subst (λ (l : Home). IsRebound s t m.id a l a.target gone) its.lies c))

-- ---- blocks and memory objects

taken_out : {X Y : Type 0} (xs : List X) (ys : List Y) (i : ℕ) → length xs ≡ length ys → i < length xs → length (take i xs ++ drop (i + 1) xs) ≡ length (take i ys ++ drop (i + 1) ys)
taken_out xs ys i same lt = grind (arith, common_steps)

pub kept_matched : (gone : Option ℕ) (number : ℕ) (was now : Kept) → length was.memories ≡ length was.pool.blocks → KeepsBlocks gone number was now → length now.memories ≡ length now.pool.blocks
kept_matched None number was now m k =
    ap (λ (l : List ℕ). length l) k.0 ∙ m ∙ sym (length-map was.pool.blocks (λ b. b.number)) ∙ sym (ap (λ (l : List ℕ). length l) k.1) ∙ length-map now.pool.blocks (λ b. b.number)
kept_matched (Some n) number was now m k =
    ap (λ (l : List ℕ). length l) k.memories
    ∙ taken_out was.memories (block_numbers was.pool) k.index (m ∙ sym (length-map was.pool.blocks (λ b. b.number))) k.there
    ∙ sym (ap (λ (l : List ℕ). length l) k.numbers) ∙ length-map now.pool.blocks (λ b. b.number)

-- one pool was changed
pub changed_matched : (s t : PoolsState) (p : ℕ) (was now : Kept) → AreMatched s → pool_at s p ≡ Some was → t.pools ≡ set s.pools p (Some now) → (length was.memories ≡ length was.pool.blocks → length now.memories ≡ length now.pool.blocks) → AreMatched t
changed_matched s t p was now h there pools same q k at =
    let at' : pool_at (record s { pools = set s.pools p (Some now) }) q ≡ Some k = subst (λ (l : List (Option Kept)). pool_at (record s { pools = l }) q ≡ Some k) pools at in
    elim (cases_eq q p) [
      | inl e ↦
          let is = some-is now k (sym (at-set s.pools p (Some now) (at-below s.pools p was there)) ∙ ap (λ (j : ℕ). pool_at (record s { pools = set s.pools p (Some now) }) j) (sym e) ∙ at') in
          subst (λ (l : Kept). length l.memories ≡ length l.pool.blocks) is (same (h p was there))
      | inr other ↦ h q k (sym (at-other s.pools p q (Some now) other) ∙ at')
    ]

module _ (s t : PoolsState) (pool : ℕ) (m : Moved) (a : Allocation) (live : allocation_at s m.id ≡ Some a) (back stays : PoolPlace) (gone : Option ℕ) (settled : IsSettled s t m.id a pool back stays gone) where
  abbrev after : Allocation
  after = record a { home = home.Shared pool stays; target = None }

  pub here_after : allocation_at t m.id ≡ Some after
  here_after = ap (λ (x : PoolsState). allocation_at x m.id) settled.state ∙ at-set s.allocations m.id (Some after) (at-below s.allocations m.id a live)

  pub other_after : (i : ℕ) → (i ≡ m.id → ⊥) → allocation_at t i ≡ allocation_at s i
  other_after i other = ap (λ (x : PoolsState). allocation_at x i) settled.state ∙ at-other s.allocations m.id i (Some after) other

  pub settled_matched : AreMatched s → AreMatched t
  settled_matched h = changed_matched s t pool settled.was settled.now h settled.there (ap (λ (x : PoolsState). x.pools) settled.state) (λ long. kept_matched gone back.block settled.was settled.now long settled.blocks)

  other_move : (q : ℕ) (n : Moved) → (n.id ≡ m.id → ⊥) → IsMove s q n → IsMove t q n
  other_move q n other its = record { allocation = its.allocation; live = other_after n.id other ∙ its.live; from = its.from; lies = its.lies; target = its.target; reserved = its.reserved; to = its.to; bytes = its.bytes; aligned = its.aligned }

  held_before : (q i : ℕ) (place : PoolPlace) (asked : Asked) → IsHeld t i true q place asked → (i ≡ m.id → ⊥) × IsHeld s i true q place asked
  held_before q i place asked held = elim (cases_eq i m.id) [
    | inl e ↦
        let is = some-is after held.allocation (sym here_after ∙ ap (λ (j : ℕ). allocation_at t j) (sym e) ∙ held.live) in
        absurd (none_there (ap (λ (b : Allocation). held_place true b) is ∙ held.there))
    | inr other ↦ (other, record { allocation = held.allocation; live = sym (other_after i other) ∙ held.live; there = held.there; asks = held.asks })
  ]
    where
      none_there : held_place true after ≡ Some (q, place) → ⊥
      none_there e = absurd cc

  -- the other moves stay planned
  pub settled_planned : (ms : List Moved) → ArePlanned s pool (m ∷ ms) → ArePlanned t pool ms
  settled_planned ms plan = record {
    each = λ k d lt. other_move pool (get_or ms k d) (λ e. plan.once.0 (get_or ms k d) (k, lt, refl_at ms k d lt) (sym e)) (All-tail (IsMove s pool) m ms plan.each k d lt);
    once = plan.once.1;
    only = λ i place asked held.
        let b = held_before pool i place asked held in
        later ms i (λ e. b.0 (sym e)) (plan.only i place asked b.1);
  }
    where
      refl_at : (xs : List Moved) (k : ℕ) (d : Moved) → k < length xs → get_or xs k (get_or xs k d) ≡ get_or xs k d
      refl_at xs k d lt = get_or_default xs k (get_or xs k d) d lt

      later : (ms : List Moved) (i : ℕ) → (m.id ≡ i → ⊥) → Any (λ n. n.id ≡ i) (m ∷ ms) → Any (λ n. n.id ≡ i) ms
      later ms i not_it any = go any.0 any.1 any.2 any.3 any.4
        where
          go : (k : ℕ) (d : Moved) → k < length (m ∷ ms) → get_or (m ∷ ms) k d ≡ d → d.id ≡ i → Any (λ n. n.id ≡ i) ms
          go zero d lt at is = absurd (not_it (ap (λ (n : Moved). n.id) at ∙ is))
          go (suc k) d lt at is = (k, d, omega (arith, lt), at, is)

  -- the allocations of the pool are there as before
  pub settled_listed : (numbers : List ℕ) → AreOfPool s pool numbers → AreOfPool t pool numbers
  settled_listed numbers of = record {
    each = λ i there. elim (cases_eq i m.id) [
      | inl e ↦ subst (λ (o : Option Allocation). IsSomeAnd o (λ b. (place : PoolPlace) × (shared_place b.home ≡ Some (pool, place)))) (sym (ap (λ (j : ℕ). allocation_at t j) e ∙ here_after)) (stays, refl)
      | inr other ↦ subst (λ (o : Option Allocation). IsSomeAnd o (λ b. (place : PoolPlace) × (shared_place b.home ≡ Some (pool, place)))) (sym (other_after i other)) (of.each i there)
    ];
    once = of.once;
  }
