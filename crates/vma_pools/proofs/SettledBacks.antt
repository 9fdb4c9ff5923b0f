-- Each pool and allocation keeps its memory object when an allocation changes where it lies in a pool, or nothing of where it lies.
use Rattle.std.proofs.Common.{◌≡◌, ℕ, List, set, false, Option, Some, None, refl, sym, ap, subst, ◌∙◌, inl, inr}
use Rattle.std.specs.Prelude.{IfSome, slice_index_or}
use Rattle.std.proofs.lemmas.Bool.{cases_eq}
use Rattle.vk_memory.specs.MemoryState.{MemoryState, IsLive}
use Rattle.vma_pools.specs.declared.pool.PoolPlace.{PoolPlace}
use Rattle.vma_pools.specs.declared.allocations.Allocation.{Allocation}
use Rattle.vma_pools.specs.declared.allocations.Asked.{Asked}
use Rattle.vma_pools.specs.declared.allocations.Home.TheVariants as home
use Rattle.vma_pools.specs.Pools.{Kept, TakesTarget}
use Rattle.vma_pools.specs.State.{PoolsState, pool_at, allocation_at, Owner, Alone, BlockOf, Has, ArePools, Backs, with_allocation, LosesBlock, released, request_in, start_of}
use Rattle.vma_pools.specs.Moves.{IsSettled}
use Rattle.vma_pools.proofs.NumberLemmas.{at-below, at-set, at-other}
use Rattle.vma_pools.proofs.StateLemmas.{some-is, given-info}
use Rattle.vma_pools.proofs.CallLemmas.{block-live}
use Rattle.vma_pools.proofs.ReleaseLemmas.{same-left-backs, gone-left-backs}

-- an allocation of a state that lies where one does, and asked the same
abbrev IsLike : PoolsState → ℕ → Allocation → Type 0
IsLike s i a = (b : Allocation) × (allocation_at s i ≡ Some b) × (b.home ≡ a.home) × (b.asked ≡ a.asked)

-- each allocation with a memory object of its own was so before
module _ (s t : PoolsState) (m : MemoryState) (backs : Backs s m) (pools : t.pools ≡ s.pools) (alone : (i : ℕ) (a : Allocation) (n : ℕ) → allocation_at t i ≡ Some a → a.home ≡ home.Own n → IsLike s i a) where
  pool-was : (p : ℕ) (k : Kept) → pool_at t p ≡ Some k → pool_at s p ≡ Some k
  pool-was p k at = ap (λ (l : List (Option Kept)). slice_index_or l p None) (sym pools) ∙ at

  has-was : (x : Owner) (n : ℕ) → Has t x n → Has s x n
  has-was (Alone i) n has = let was = alone i has.0 n has.1 has.2 in (was.0, was.1, was.2 ∙ has.2)
  has-was (BlockOf p j) n has = (has.0, pool-was p has.0 has.1, has.2, has.3)

  pub fewer-backs : Backs t m
  fewer-backs = record {
    own = λ i a n at own. let was = alone i a n at own in backs.own i was.0 n was.1 (was.2 ∙ own) ∙ ap (λ (x : Asked). x.size) was.3;
    blocks = λ p k j at lt. backs.blocks p k j (pool-was p k at) lt;
    apart = λ x y n a b. backs.apart x y n (has-was x n a) (has-was y n b);
  }

-- an allocation became another one
module _ (s : PoolsState) (m : MemoryState) (backs : Backs s m) (i : ℕ) (a b : Allocation) (live : allocation_at s i ≡ Some a) where
  abbrev changed : PoolsState
  changed = with_allocation s i b

  is-changed : (j : ℕ) (c : Allocation) → j ≡ i → allocation_at changed j ≡ Some c → b ≡ c
  is-changed j c is at = some-is b c (sym (at-set s.allocations i (Some b) (at-below s.allocations i a live)) ∙ ap (λ (n : ℕ). allocation_at changed n) (sym is) ∙ at)

  as-it-was : (j : ℕ) (c : Allocation) → (j ≡ i → ⊥) → allocation_at changed j ≡ Some c → IsLike s j c
  as-it-was j c other at = (c, sym (at-other s.allocations i j (Some b) other) ∙ at, refl, refl)

  -- one of a pool
  module _ (p : ℕ) (place : PoolPlace) (lies : b.home ≡ home.Shared p place) where
    pub pooled-backs : Backs changed m
    pooled-backs = fewer-backs s changed m backs refl (λ j c n at own. elim (cases_eq j i) [
      | inl is ↦ absurd (let e = sym lies ∙ ap (λ (x : Allocation). x.home) (is-changed j c is at) ∙ own in cc)
      | inr other ↦ as-it-was j c other at
    ])

  -- one that lies where it lay
  module _ (lies : b.home ≡ a.home) (asks : b.asked ≡ a.asked) where
    pub unmoved-backs : Backs changed m
    unmoved-backs = fewer-backs s changed m backs refl (λ j c n at own. elim (cases_eq j i) [
      | inl is ↦ (let e = is-changed j c is at in
          (a, ap (λ (n : ℕ). allocation_at s n) is ∙ live, sym lies ∙ ap (λ (x : Allocation). x.home) e, sym asks ∙ ap (λ (x : Allocation). x.asked) e))
      | inr other ↦ as-it-was j c other at
    ])

-- a place was reserved for one
module _ (s : PoolsState) (m : MemoryState) (backs : Backs s m) (i : ℕ) (a : Allocation) (live : allocation_at s i ≡ Some a) (p : ℕ) (from : PoolPlace) (lies : a.home ≡ home.Shared p from)
    (was now : Kept) (there : pool_at s p ≡ Some was) (target : PoolPlace) (takes : TakesTarget was now (start_of from) (request_in a.asked) (start_of target)) where
  pub target-backs : Backs (record { pools = set s.pools p (Some now); allocations = set s.allocations i (Some (record a { target = Some target })) }) m
  target-backs =
      let b : Allocation = record a { target = Some target } in
      let t : PoolsState = record s { allocations = set s.allocations i (Some b) } in
      same-left-backs t m (pooled-backs s m backs i a b live p from lies) p was now there (takes.pool.info ∙ given-info was.pool (request_in a.asked) false (start_of target)) t.allocations (λ j c at. at) takes.memories

-- one kept one of two places
module _ (s new : PoolsState) (m : MemoryState) (backs : Backs s m) (i : ℕ) (a : Allocation) (live : allocation_at s i ≡ Some a) (p : ℕ) (back stays : PoolPlace) where
  pub settled-backs : (gone : Option ℕ) → IsSettled s new i a p back stays gone → Backs new (released m gone)
  settled-backs gone e =
      let b : Allocation = record a { home = home.Shared p stays; target = None } in
      let t : PoolsState = record s { allocations = set s.allocations i (Some b) } in
      subst (λ (x : PoolsState). Backs x (released m gone)) (sym e.state) (go t (pooled-backs s m backs i a b live p stays refl) e.there gone e.objects)
    where
      go : (t : PoolsState) → Backs t m → pool_at t p ≡ Some e.was → (gone : Option ℕ) → LosesBlock gone e.was e.now → Backs (record t { pools = set t.pools p (Some e.now) }) (released m gone)
      go t over there None objects = same-left-backs t m over p e.was e.now there e.pool_is.info t.allocations (λ j c at. at) objects
      go t over there (Some n) objects = gone-left-backs t m over p e.was e.now there e.pool_is.info t.allocations (λ j c at. at) n objects

  -- the block that has gone was a memory object that is live
  pub settled-live : (h : ArePools s) (gone : Option ℕ) → IsSettled s new i a p back stays gone → IfSome gone (λ n. IsLive m n)
  settled-live h None e = tt
  settled-live h (Some n) e = block-live s h m backs p e.was e.there e.now.memories n e.objects
