-- Below no cursor has its pool room for what the cursor asks, whatever a pass reserves.
use Rattle.std.proofs.Common.{◌≡◌, ℕ, List, [], Some, sym, ap, subst, ◌∙◌, inl, inr, ◌⊎◌}
use Rattle.std.specs.Prelude.{Contains}
use Rattle.vk_model.specs.Memory.MoveTargets.{Resident}
use Rattle.vk_model.proofs.Lists.Members.{none_in}
use Rattle.vma_pools.specs.declared.pool.PoolPlace.{PoolPlace}
use Rattle.vma_pools.specs.declared.allocations.Asked.{Asked}
use Rattle.vma_pools.specs.declared.allocations.Allocation.{Allocation}
use Rattle.vma_pools.specs.Exhausted.{IsExhausted, IsExhaustedBefore, IsExhaustedFor}
use Rattle.vma_pools.specs.Pools.{Kept}
use Rattle.vma_pools.specs.State.{ArePools, PoolsState, IfLive, IsMovable, IsReserved, pool_at, request_in, start_of}
use Rattle.vma_pools.proofs.CallLemmas.{live-holds}
use Rattle.vma_pools.proofs.Exhausted.{exhausted-longer, exhausted-start}
use Rattle.vma_pools.proofs.ExhaustedFor.{exhausted-reserved, exhausted_for, reserved-allocation, reserved-pool}
use Rattle.vma_pools.proofs.StateLemmas.{some-is}
use Rattle.vma_defrag.specs.declared.cursors.Cursor.{Cursor}
use Rattle.vma_defrag.specs.Inner.Cursors.{BeginsAt, IsPlaceOf}
use Rattle.vma_defrag.proofs.Left.{IsLeft, pair-is}
use Rattle.vma_defrag.proofs.Step.{now-there, was-there}

-- what a cursor says of a pool
abbrev IsCursor : Kept → Cursor → Type 0
IsCursor k c = IsExhausted k.pool (start_of c.low) (request_in c.asked)

-- what cursors say of a pool by its number
abbrev pub AreCursors : PoolsState → ℕ → List Cursor → Type 0
AreCursors s pool cursors = (k : Kept) → pool_at s pool ≡ Some k → (c : Cursor) → Contains cursors c → IsCursor k c

pub no-cursors : (s : PoolsState) (pool : ℕ) (cursors : List Cursor) → cursors ≡ [] → AreCursors s pool cursors
no-cursors s pool cursors none k there c at = absurd (none_in c (subst (λ (l : List Cursor). Contains l c) none at))

-- the same under other names
pub same-cursors : (pool : ℕ) (s t : PoolsState) (cursors others : List Cursor) → t ≡ s → others ≡ cursors → AreCursors s pool cursors → AreCursors t pool others
same-cursors pool s t cursors others e f are = subst (λ (u : PoolsState). AreCursors u pool others) (sym e) (subst (λ (l : List Cursor). AreCursors s pool l) (sym f) are)

-- one cursor more, at most
abbrev pub KeepsOne : List Cursor → List Cursor → Cursor → Type 0
KeepsOne old new one = (c : Cursor) → Contains new c → Contains old c ⊎ (c ≡ one)

-- an allocation that is left, and where it lies
module _ (s : PoolsState) (pool : ℕ) (k : Kept) (there : pool_at s pool ≡ Some k) (r : Resident) (left : IsLeft s pool r) (own : Cursor) (place : IfLive s r.id (IsPlaceOf own)) (cursors : List Cursor) (are : AreCursors s pool cursors) where
  abbrev a : Allocation
  a = left.listed.allocation

  its : IsPlaceOf own a
  its = live-holds s r.id (IsPlaceOf own) place a left.listed.live

  in-pool : its.pool ≡ pool
  in-pool = (pair-is its.pool pool own.low left.listed.place (sym its.lies ∙ left.listed.lies)).0

  -- a search for it may begin at a cursor
  pub begins : (low : PoolPlace) → BeginsAt cursors own.asked low → IsExhaustedFor s r.id low
  begins low at = exhausted_for s r.id a left.listed.live pool left.listed.place left.listed.lies k there low (subst (λ (q : Asked). IsExhausted k.pool (start_of low) (request_in q)) its.asked (here at))
    where
      here : BeginsAt cursors own.asked low → IsExhausted k.pool (start_of low) (request_in own.asked)
      here (inl start) = subst (λ (t : PoolPlace). IsExhausted k.pool (start_of t) (request_in own.asked)) (sym start) (exhausted-start k.pool (request_in own.asked))
      here (inr any) =
          let c = any.1 in let large = any.4.0 in
          subst (λ (t : PoolPlace). IsExhausted k.pool (start_of t) (request_in own.asked)) (sym any.4.1)
          (exhausted-longer k.pool (start_of c.low) (request_in c.asked) (request_in own.asked) large (are k there c (any.0, any.2, any.3)))

  -- where it has no target, where it lies is a cursor
  pub own-kept : IsExhaustedBefore s r.id → (new : List Cursor) → KeepsOne cursors new own → AreCursors s pool new
  own-kept before new keeps l at c in_new = elim (keeps c in_new) [
    | inl old ↦ are l at c old
    | inr is ↦ subst (λ (d : Cursor). IsCursor l d) (sym is)
        (subst (λ (q : Asked). IsExhausted l.pool (start_of own.low) (request_in q)) (sym its.asked)
        (before a its.pool own.low left.listed.live its.lies a its.pool own.low l left.listed.live its.lies (ap (λ (n : ℕ). pool_at s n) in-pool ∙ at)))
  ]

  -- where its target is reserved, that is one, and all others stay so
  module _ (always : ArePools s) (may : IfLive s r.id (λ b. IsMovable s b.home b.target)) (t : PoolsState) (target : PoolPlace) (is : IsReserved s t r.id target) (exhausted : IsExhaustedFor t r.id target) where
    asks : is.allocation.asked ≡ own.asked
    asks = ap (λ (b : Allocation). b.asked) (some-is is.allocation a (sym is.live ∙ left.listed.live)) ∙ sym its.asked

    here : IsCursor is.now (record own { low = target })
    here =
        subst (λ (q : Asked). IsExhausted is.now.pool (start_of target) (request_in q)) asks
        (exhausted (record is.allocation { target = Some target }) is.pool is.from is.now (reserved-allocation s t always r.id target is) is.lies (reserved-pool s t always r.id target is))

    pub target-kept : (new : List Cursor) → KeepsOne cursors new (record own { low = target }) → AreCursors t pool new
    target-kept new keeps l at c in_new =
        subst (λ (m : Kept). IsCursor m c) (some-is is.now l (sym (now-there s pool r left t target is) ∙ at))
        (elim (keeps c in_new) [
          | inl old ↦ exhausted-reserved s t always r.id target is may (start_of c.low) (request_in c.asked) (are is.was (was-there s pool r left t target is) c old)
          | inr one ↦ subst (λ (d : Cursor). IsCursor is.now d) (sym one) here
        ])
