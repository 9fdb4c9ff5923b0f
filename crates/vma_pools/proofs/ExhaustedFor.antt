-- A place below which the pool of an allocation has no room for it: where a search may begin, and what it says. Other crates cite it.
use Rattle.std.proofs.Common.{◌≡◌, ℕ, ◌≤◌, List, set, Option, Some, None, sym, ap, subst, ◌∙◌, arith}
use Rattle.std.specs.Prelude.{All, IsSomeAnd, MatchOption}
use Rattle.std.proofs.lemmas.List.{set-get_or}
use Rattle.vk_model.specs.declared.resource.PoolKind.TheVariants as algorithm
use Rattle.vk_model.specs.Memory.Suballocation.{Request}
use Rattle.vk_model.specs.Memory.MoveTargets.{BlockStart}
use Rattle.vk_model.specs.Memory.Pools.{block_bytes}
use Rattle.vma_pools.specs.declared.pool.PoolPlace.{PoolPlace}
use Rattle.vma_pools.specs.declared.allocations.Allocation.{Allocation}
use Rattle.vma_pools.specs.declared.allocations.Home.{Home}
use Rattle.vma_pools.specs.declared.allocations.Home.TheVariants as home
use Rattle.vma_pools.specs.Inner.Kinds.{IsKeptPool}
use Rattle.vma_pools.specs.Pools.{Kept, HasNoTarget, HasTarget, TakesTarget}
use Rattle.vma_pools.specs.Ranges.{HasRange}
use Rattle.vma_pools.specs.State.{PoolsState, pool_at, allocation_at, range_at, request_in, start_of, ArePools, HasNoLower, IfLive, IsMovable, IsReserved}
use Rattle.vma_pools.specs.Exhausted.{IsExhausted, IsExhaustedFor, IsExhaustedBefore}
use Rattle.vma_pools.proofs.CallLemmas.{its-pool, live-holds}
use Rattle.vma_pools.proofs.Exhausted.{IsUpTo, exhausted-no_target, exhausted-own, exhausted-start, exhausted-taken, exhausted-target}
use Rattle.vma_pools.proofs.MovingLemmas.{range-inside}
use Rattle.vma_pools.proofs.NumberLemmas.{at-below, at-set}
use Rattle.vma_pools.proofs.StateLemmas.{some-is}

-- any search may begin at the start of the first block
pub exhausted_for-start : (s : PoolsState) (i : ℕ) → IsExhaustedFor s i (record { block = 0; start = 0 })
exhausted_for-start s i a p from k live lies there = exhausted-start k.pool (request_in a.asked)

-- an allocation that may move is in a pool that can be defragmented
pub movable-kind : (s : PoolsState) (l : Home) (t : Option PoolPlace) (p : ℕ) (from : PoolPlace) (k : Kept) → IsMovable s l t → l ≡ home.Shared p from → pool_at s p ≡ Some k → k.pool.info.kind ≡ algorithm.Tlsf
movable-kind s (home.Own n) t p from k may lies there = absurd may
movable-kind s (home.Shared q place) (Some x) p from k may lies there = absurd may
movable-kind s (home.Shared q place) None p from k may lies there =
    let same : q ≡ p = cc in
    subst (λ (o : Option Kept). IsSomeAnd o (λ k. k.pool.info.kind ≡ algorithm.Tlsf)) (ap (pool_at s) same ∙ there) may

module _ (s : PoolsState) (i : ℕ) (a : Allocation) (live : allocation_at s i ≡ Some a) (p : ℕ) (from : PoolPlace) (lies : a.home ≡ home.Shared p from) (k : Kept) (there : pool_at s p ≡ Some k) where
  -- what is known of its pool is known for it
  pub exhausted_for : (low : PoolPlace) → IsExhausted k.pool (start_of low) (request_in a.asked) → IsExhaustedFor s i low
  exhausted_for low all b q place l live_b lies_b there_q =
      let same : a ≡ b = some-is a b (sym live ∙ live_b) in
      let shared : home.Shared p from ≡ home.Shared q place = sym lies ∙ ap (λ (c : Allocation). c.home) same ∙ lies_b in
      let pool : p ≡ q = cc in
      let kept : k ≡ l = some-is k l (sym there ∙ ap (pool_at s) pool ∙ there_q) in
      subst (λ (c : Kept). IsExhausted c.pool (start_of low) (request_in b.asked)) kept
      (subst (λ (c : Allocation). IsExhausted k.pool (start_of low) (request_in c.asked)) same all)

module _ (s : PoolsState) (h : ArePools s) (i : ℕ) (a : Allocation) (live : allocation_at s i ≡ Some a) (p : ℕ) (from : PoolPlace) (lies : a.home ≡ home.Shared p from) (k : Kept) (there : pool_at s p ≡ Some k) where
  its-range : HasRange k.pool from.block (range_at from.start a.asked)
  its-range =
      let its = its-pool s h i a live p from lies in
      subst (λ (l : Kept). HasRange l.pool from.block (range_at from.start a.asked)) (some-is its.0 k (sym its.1 ∙ there)) its.2

  kept : IsKeptPool k.pool
  kept = h.pools p k there

  starts-inside : All (λ b. from.start ≤ block_bytes b.block) k.pool.blocks
  starts-inside j d lt = omega (arith, (kept.kinds j d lt).bytes, range-inside k kept from.block (range_at from.start a.asked) its-range)

  -- what lies at or below such a place has no target
  pub exhausted-no_lower : (low : PoolPlace) → IsExhaustedFor s i low → IsUpTo (start_of from) (start_of low) → HasNoLower s i
  exhausted-no_lower low exhausted up =
      record {
        allocation = a;
        live = live;
        pool = p;
        from = from;
        lies = lies;
        kept = k;
        there = there;
        none = exhausted-no_target k.pool (start_of low) (start_of from) (request_in a.asked) (h.requests i a live).some starts-inside up (exhausted a p from k live lies there);
      }

  -- a target is such a place
  pub target-exhausted : (target : PoolPlace) → HasTarget k.pool (start_of from) (request_in a.asked) (start_of target) → IsExhaustedFor s i target
  target-exhausted target has = exhausted_for s i a live p from lies k there target (exhausted-target k.pool kept.pool.rising (start_of from) (request_in a.asked) (start_of target) starts-inside has)

  -- where there is none, what lies there does so at such a place
  pub own-exhausted : HasNoTarget k.pool (start_of from) (request_in a.asked) → IsExhaustedBefore s i
  own-exhausted none b q place live_b lies_b =
      let same : a ≡ b = some-is a b (sym live ∙ live_b) in
      let shared : home.Shared p from ≡ home.Shared q place = sym lies ∙ ap (λ (c : Allocation). c.home) same ∙ lies_b in
      let here : from ≡ place = cc in
      subst (λ (t : PoolPlace). IsExhaustedFor s i t) here
      (exhausted_for s i a live p from lies k there from (exhausted-own k.pool kept.pool.rising (start_of from) (request_in a.asked) (h.requests i a live).some its-range none))

  pub either-exhausted : (o : Option PoolPlace) → MatchOption o (HasNoTarget k.pool (start_of from) (request_in a.asked)) (λ t. HasTarget k.pool (start_of from) (request_in a.asked) (start_of t)) → MatchOption o (IsExhaustedBefore s i) (IsExhaustedFor s i)
  either-exhausted None none = own-exhausted none
  either-exhausted (Some t) has = target-exhausted t has

  -- and it stays one when it is reserved
  pub reserved-exhausted : (now : Kept) (target : PoolPlace) → IsMovable s a.home a.target → TakesTarget k now (start_of from) (request_in a.asked) (start_of target)
      → IsExhaustedFor s i target × IsExhaustedFor (record { pools = set s.pools p (Some now); allocations = set s.allocations i (Some (record a { target = Some target })) }) i target
  reserved-exhausted now target may takes =
      let b : Allocation = record a { target = Some target } in
      let new : PoolsState = record { pools = set s.pools p (Some now); allocations = set s.allocations i (Some b) } in
      let before = exhausted-target k.pool kept.pool.rising (start_of from) (request_in a.asked) (start_of target) starts-inside takes.target in
      let after = exhausted-taken k now (start_of target) (start_of from) (start_of target) (request_in a.asked) (request_in a.asked) kept (movable-kind s a.home a.target p from k may lies there) takes before in (
        exhausted_for s i a live p from lies k there target before,
        exhausted_for new i b (at-set s.allocations i (Some b) (at-below s.allocations i a live)) p from lies now (at-set s.pools p (Some now) (at-below s.pools p k there)) target after,
      )

-- when a target is reserved the pool has no more room for any other request
module _ (old new : PoolsState) (h : ArePools old) (i : ℕ) (target : PoolPlace) (r : IsReserved old new i target) where
  pub reserved-pool : pool_at new r.pool ≡ Some r.now
  reserved-pool = ap (λ (t : PoolsState). pool_at t r.pool) r.state ∙ at-set old.pools r.pool (Some r.now) (at-below old.pools r.pool r.was r.there)

  pub reserved-allocation : allocation_at new i ≡ Some (record r.allocation { target = Some target })
  reserved-allocation = ap (λ (t : PoolsState). allocation_at t i) r.state ∙ at-set old.allocations i (Some (record r.allocation { target = Some target })) (at-below old.allocations i r.allocation r.live)

  pub exhausted-reserved : IfLive old i (λ a. IsMovable old a.home a.target) → (low : BlockStart) (q : Request) → IsExhausted r.was.pool low q → IsExhausted r.now.pool low q
  exhausted-reserved may low q all =
      exhausted-taken r.was r.now low (start_of r.from) (start_of target) q (request_in r.allocation.asked) (h.pools r.pool r.was r.there)
      (movable-kind old r.allocation.home r.allocation.target r.pool r.from r.was (live-holds old i (λ a. IsMovable old a.home a.target) may r.allocation r.live) r.lies r.there) r.takes all

-- where a pool is put back as it was nothing has changed
pub pool-back : (s : PoolsState) (p : ℕ) (k now : Kept) → pool_at s p ≡ Some k → now ≡ k → record s { pools = set s.pools p (Some now) } ≡ s
pool-back s p k now there same =
    ap (λ (o : Option Kept). record s { pools = set s.pools p o }) (ap Some same ∙ sym there) ∙ ap (λ (l : List (Option Kept)). record s { pools = l }) (set-get_or s.pools p None)
