-- Each pool and allocation that stays keeps its memory object when one is freed.
use Rattle.std.proofs.Common.{◌≡◌, ℕ, Bool, true, false, zero, suc, ◌+◌, ◌<◌, List, [], ◌∷◌, ◌++◌, length, get_or, set, take, drop, Option, Some, None, refl, sym, ap, subst, ◌∙◌, arith, ◌==◌, inl, inr}
use Rattle.std.specs.Prelude.{slice_index_or, if◌then◌else◌}
use Rattle.std.proofs.lemmas.Bool.{cases_eq, both_ways, eqb-true, eq-eqb}
use Rattle.vk_model.specs.declared.resource.PoolInfo.{PoolInfo}
use Rattle.vk_memory.specs.declared.memories.Object.{Object}
use Rattle.vk_memory.specs.MemoryState.{MemoryState, bytes_of, object_at, region_of, type_of, type_in, with_object}
use Rattle.vma_pools.specs.declared.allocations.Allocation.{Allocation}
use Rattle.vma_pools.specs.declared.allocations.Home.{Home}
use Rattle.vma_pools.specs.declared.allocations.Home.TheVariants as home
use Rattle.vma_pools.specs.Pools.{Kept, Loses}
use Rattle.vma_pools.specs.State.{PoolsState, pool_at, allocation_at, Owner, Alone, BlockOf, Has, Backs, IsEnded, released}
use Rattle.vma_pools.proofs.NumberLemmas.{at-below, at-set, at-other}
use Rattle.vma_pools.proofs.StateLemmas.{some-is}

-- ---- a list without one of its items

-- where the item at an index was before the one at i was left out
abbrev skip : ℕ → ℕ → ℕ
skip zero j = suc j
skip (suc i) zero = zero
skip (suc i) (suc j) = suc (skip i j)

skip-not : (i j : ℕ) → skip i j ≡ i → ⊥
skip-not zero j e = absurd (omega (arith, e))
skip-not (suc i) zero e = absurd (omega (arith, e))
skip-not (suc i) (suc j) e = skip-not i j (omega (arith, e))

skip-same : (i j k : ℕ) → skip i j ≡ skip i k → j ≡ k
skip-same zero j k e = omega (arith, e)
skip-same (suc i) zero zero e = refl
skip-same (suc i) zero (suc k) e = absurd (omega (arith, e))
skip-same (suc i) (suc j) zero e = absurd (omega (arith, e))
skip-same (suc i) (suc j) (suc k) e = ap suc (skip-same i j k (omega (arith, e)))

was-at : (xs : List ℕ) (i j : ℕ) → i < length xs → j < length (take i xs ++ drop (suc i) xs) → (skip i j < length xs) × (get_or (take i xs ++ drop (suc i) xs) j 0 ≡ get_or xs (skip i j) 0)
was-at [] i j lt there = absurd (omega (arith, lt))
was-at (x ∷ xs) zero j lt there = (omega (arith, there), refl)
was-at (x ∷ xs) (suc i) zero lt there = (omega arith, refl)
was-at (x ∷ xs) (suc i) (suc j) lt there = let r = was-at xs i j (omega (arith, lt)) (omega (arith, there)) in (omega (arith, r.0), r.1)

-- ---- what stays has the same object

kept-object : (m : MemoryState) (gone n : ℕ) → (n ≡ gone → ⊥) → object_at (with_object m gone None) n ≡ object_at m n
kept-object m gone n other = at-other m.objects gone n None other

-- each owner was one of an object that has stayed as it was
module _ (s t : PoolsState) (m after : MemoryState) (backs : Backs s m) (was : Owner → Owner) (each : (x z : Owner) → was x ≡ was z → x ≡ z)
    (alone : (i : ℕ) (a : Allocation) → allocation_at t i ≡ Some a → (allocation_at s i ≡ Some a) × (was (Alone i) ≡ Alone i))
    (block : (p : ℕ) (k : Kept) → pool_at t p ≡ Some k → (l : Kept) × (pool_at s p ≡ Some l) × (k.pool.info ≡ l.pool.info))
    (from : (x : Owner) (n : ℕ) → Has t x n → Has s (was x) n × (object_at after n ≡ object_at m n))
    (lies : (p j : ℕ) → (l : ℕ) × (was (BlockOf p j) ≡ BlockOf p l)) where
  pub kept-backs : Backs t after
  kept-backs = record {
    own = λ i a n at own. ap (λ (o : Option Object). length (bytes_of o)) (from (Alone i) n (a, at, own)).1 ∙ backs.own i a n (alone i a at).0 own;
    blocks = λ p k j at lt.
        let n = get_or k.memories j 0 in
        let f = from (BlockOf p j) n (k, at, lt, refl) in
        let b = block p k at in let w = lies p j in
        let has : Has s (BlockOf p w.0) n = subst (λ (y : Owner). Has s y n) w.1 f.0 in
        let o = backs.blocks p has.0 w.0 has.1 has.2 in
        let i = ap (λ (k : Kept). k.pool.info) (some-is has.0 b.0 (sym has.1 ∙ b.1)) ∙ sym b.2 in
        record {
          bytes = ap (λ (o : Option Object). length (bytes_of o)) f.1 ∙ ap (λ (r : ℕ). length (region_of m r)) (sym has.3) ∙ o.bytes ∙ ap (λ (x : PoolInfo). x.block_size) i;
          kind = ap type_in f.1 ∙ ap (λ (r : ℕ). type_of m r) (sym has.3) ∙ o.kind ∙ ap (λ (x : PoolInfo). x.memory_type) i;
        };
    apart = λ x z n a b. each x z (backs.apart (was x) (was z) n (from x n a).0 (from z n b).0);
  }

-- ---- a range was given back

-- a place of a pool was given back, and each allocation that stays is as it was
module _ (s : PoolsState) (m : MemoryState) (backs : Backs s m) (p : ℕ) (old now : Kept) (there : pool_at s p ≡ Some old) (info : now.pool.info ≡ old.pool.info)
    (allocations : List (Option Allocation)) (was : (j : ℕ) (b : Allocation) → slice_index_or allocations j None ≡ Some b → allocation_at s j ≡ Some b) where
  abbrev left : PoolsState
  left = record { pools = set s.pools p (Some now); allocations = allocations }

  left-here : (q : ℕ) (k : Kept) → q ≡ p → pool_at left q ≡ Some k → now ≡ k
  left-here q k is at = some-is now k (sym (at-set s.pools p (Some now) (at-below s.pools p old there)) ∙ ap (λ (n : ℕ). pool_at left n) (sym is) ∙ at)

  left-other : (q : ℕ) → (q ≡ p → ⊥) → pool_at left q ≡ pool_at s q
  left-other q other = at-other s.pools p q (Some now) other

  left-block : (q : ℕ) (k : Kept) → pool_at left q ≡ Some k → (l : Kept) × (pool_at s q ≡ Some l) × (k.pool.info ≡ l.pool.info)
  left-block q k at = elim (cases_eq q p) [
    | inl is ↦ (old, ap (λ (n : ℕ). pool_at s n) is ∙ there, ap (λ (k : Kept). k.pool.info) (sym (left-here q k is at)) ∙ info)
    | inr other ↦ (k, sym (left-other q other) ∙ at, refl)
  ]

  module _ (same : now.memories ≡ old.memories) where
    same-from : (x : Owner) (k : ℕ) → Has left x k → Has s x k × (object_at m k ≡ object_at m k)
    same-from (Alone j) k has = ((has.0, was j has.0 has.1, has.2), refl)
    same-from (BlockOf q j) k has = elim (cases_eq q p) [
      | inl is ↦ (let ms = ap (λ (k : Kept). k.memories) (sym (left-here q has.0 is has.1)) ∙ same in
          ((old, ap (λ (n : ℕ). pool_at s n) is ∙ there, subst (λ (l : List ℕ). j < length l) ms has.2, subst (λ (l : List ℕ). get_or l j 0 ≡ k) ms has.3), refl))
      | inr other ↦ ((has.0, sym (left-other q other) ∙ has.1, has.2, has.3), refl)
    ]

    pub same-left-backs : Backs left m
    same-left-backs = kept-backs s left m m backs (λ x. x) (λ x z e. e) (λ j b at. (was j b at, refl)) left-block same-from (λ p j. (j, refl))

  module _ (n : ℕ) (loses : Loses old.memories now.memories n) where
    abbrev index-was : ℕ → ℕ → ℕ
    index-was q j = if q == p then skip loses.index j else j

    was-owner : Owner → Owner
    was-owner (Alone j) = Alone j
    was-owner (BlockOf q j) = BlockOf q (index-was q j)

    block-is : (q j r k : ℕ) → BlockOf q j ≡ BlockOf r k → (q ≡ r) × (j ≡ k)
    block-is q j r k e = (ap pool-of e, ap index-of e)
      where
        pool-of : Owner → ℕ
        pool-of (Alone l) = 0
        pool-of (BlockOf l x) = l

        index-of : Owner → ℕ
        index-of (Alone l) = 0
        index-of (BlockOf l x) = x

    index-same : (q j k : ℕ) → index-was q j ≡ index-was q k → j ≡ k
    index-same q j k e = go (q == p) e
      where
        go : (v : Bool) → (if v then skip loses.index j else j) ≡ (if v then skip loses.index k else k) → j ≡ k
        go true e = skip-same loses.index j k e
        go false e = e

    owner-same : (x z : Owner) → was-owner x ≡ was-owner z → x ≡ z
    unfolding was-owner
    owner-same (Alone j) (Alone k) e = e
    owner-same (Alone j) (BlockOf q k) e = absurd cc
    owner-same (BlockOf q j) (Alone k) e = absurd cc
    owner-same (BlockOf q j) (BlockOf r k) e =
        let f = block-is q (index-was q j) r (index-was r k) e in
        ap (λ (x : ℕ). BlockOf x j) f.0 ∙ ap (λ (x : ℕ). BlockOf r x) (index-same r j k (ap (λ (x : ℕ). index-was x j) (sym f.0) ∙ f.1))

    lost : Has s (BlockOf p loses.index) n
    lost = (old, there, loses.there, loses.is)

    gone-from : (x : Owner) (k : ℕ) → Has left x k → Has s (was-owner x) k × (object_at (with_object m n None) k ≡ object_at m k)
    unfolding was-owner
    gone-from (Alone j) k has =
        let before : Has s (Alone j) k = (has.0, was j has.0 has.1, has.2) in
        (before, kept-object m n k (λ e. let f = backs.apart (Alone j) (BlockOf p loses.index) k before (old, there, loses.there, loses.is ∙ sym e) in absurd (let g = f in cc)))
    gone-from (BlockOf q j) k has = go (q == p) refl
      where
        go : (v : Bool) → (q == p) ≡ v → Has s (BlockOf q (if v then skip loses.index j else j)) k × (object_at (with_object m n None) k ≡ object_at m k)
        go true e =
            let is = eqb-true q p e in
            let now-is = left-here q has.0 is has.1 in
            let index : loses.index + 1 ≡ suc loses.index = omega arith in
            let ms : has.0.memories ≡ take loses.index old.memories ++ drop (suc loses.index) old.memories =
            ap (λ (k : Kept). k.memories) (sym now-is) ∙ loses.left ∙ ap (λ (x : ℕ). take loses.index old.memories ++ drop x old.memories) index in
            let w = was-at old.memories loses.index j loses.there (subst (λ (l : List ℕ). j < length l) ms has.2) in
            let at : get_or old.memories (skip loses.index j) 0 ≡ k = sym w.1 ∙ ap (λ (l : List ℕ). get_or l j 0) (sym ms) ∙ has.3 in
            let before : Has s (BlockOf p (skip loses.index j)) k = (old, there, w.0, at) in (
              subst (λ (x : ℕ). Has s (BlockOf x (skip loses.index j)) k) (sym is) before,
              kept-object m n k (λ f. skip-not loses.index j (block-is p (skip loses.index j) p loses.index (backs.apart (BlockOf p (skip loses.index j)) (BlockOf p loses.index) k before (old, there, loses.there, loses.is ∙ sym f))).1),
            )
        go false e =
            let other : q ≡ p → ⊥ = λ is. both_ways (q == p) e (eq-eqb q p is) in
            let before : Has s (BlockOf q j) k = (has.0, sym (left-other q other) ∙ has.1, has.2, has.3) in
            (before, kept-object m n k (λ f. other (block-is q j p loses.index (backs.apart (BlockOf q j) (BlockOf p loses.index) k before (old, there, loses.there, loses.is ∙ sym f))).0))

    pub gone-left-backs : Backs left (with_object m n None)
    unfolding was-owner
    gone-left-backs = kept-backs s left m (with_object m n None) backs was-owner owner-same (λ j b at. (was j b at, refl)) left-block gone-from (λ p j. (index-was p j, refl))

-- ---- an allocation has ended

module _ (s : PoolsState) (m : MemoryState) (backs : Backs s m) (i : ℕ) (a : Allocation) (live : allocation_at s i ≡ Some a) where
  ended-not : (xs : List (Option Allocation)) → xs ≡ set s.allocations i None → (j : ℕ) (b : Allocation) → slice_index_or xs j None ≡ Some b → (j ≡ i → ⊥)
  ended-not xs is j b at same =
      let e = sym (at-set s.allocations i None (at-below s.allocations i a live)) ∙ ap (λ (l : List (Option Allocation)). slice_index_or l i None) (sym is) ∙ ap (λ (n : ℕ). slice_index_or xs n None) (sym same) ∙ at in cc

  ended-was : (j : ℕ) (b : Allocation) → slice_index_or (set s.allocations i None) j None ≡ Some b → allocation_at s j ≡ Some b
  ended-was j b at = sym (at-other s.allocations i j None (ended-not (set s.allocations i None) refl j b at)) ∙ at

  alone-is : (j k : ℕ) → Alone j ≡ Alone k → j ≡ k
  alone-is j k e = cc

  -- one with a memory object of its own
  module _ (n : ℕ) (lies : a.home ≡ home.Own n) where
    abbrev alone-ended : PoolsState
    alone-ended = record s { allocations = set s.allocations i None }

    alone-from : (x : Owner) (k : ℕ) → Has alone-ended x k → Has s x k × (object_at (with_object m n None) k ≡ object_at m k)
    alone-from (Alone j) k has =
        let was : Has s (Alone j) k = (has.0, ended-was j has.0 has.1, has.2) in
        (was, kept-object m n k (λ e. ended-not (set s.allocations i None) refl j has.0 has.1 (alone-is j i (backs.apart (Alone j) (Alone i) k was (a, live, lies ∙ ap home.Own (sym e))))))
    alone-from (BlockOf p j) k has =
        (has, kept-object m n k (λ e. let f = backs.apart (BlockOf p j) (Alone i) k has (a, live, lies ∙ ap home.Own (sym e)) in absurd (let g = f in cc)))

    pub alone-ended-backs : Backs alone-ended (with_object m n None)
    alone-ended-backs = kept-backs s alone-ended m (with_object m n None) backs (λ x. x) (λ x z e. e) (λ j b at. (ended-was j b at, refl)) (λ p k at. (k, at, refl)) alone-from (λ p j. (j, refl))

  -- what is left backs what is left
  pub ended-backs : (new : PoolsState) (gone : Option ℕ) (l : Home) → a.home ≡ l → IsEnded s new i l gone → Backs new (released m gone)
  ended-backs new which (home.Own n) lies e =
      subst (λ (o : Option ℕ). Backs new (released m o)) (sym e.0) (subst (λ (t : PoolsState). Backs t (with_object m n None)) (sym e.1) (alone-ended-backs n lies))
  ended-backs new None (home.Shared p place) lies e = subst (λ (t : PoolsState). Backs t m) (sym e.state) (same-left-backs s m backs p e.was e.now e.there e.pool_is.info (set s.allocations i None) ended-was e.objects)
  ended-backs new (Some n) (home.Shared p place) lies e = subst (λ (t : PoolsState). Backs t (with_object m n None)) (sym e.state) (gone-left-backs s m backs p e.was e.now e.there e.pool_is.info (set s.allocations i None) ended-was n e.objects)
