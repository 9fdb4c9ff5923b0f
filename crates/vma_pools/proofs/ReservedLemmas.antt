-- What the calls find that ask for a move target and change nothing.
use Rattle.std.proofs.Common.{◌≡◌, ℕ, Option, Some, None, true, refl, sym, ap, subst, ◌∙◌}
use Rattle.std.specs.Prelude.{MatchOption}
use Rattle.vk_model.specs.declared.resource.Spot.{Spot}
use Rattle.vma_pools.specs.declared.pool.PoolPlace.{PoolPlace}
use Rattle.vma_pools.specs.declared.allocations.Allocation.{Allocation}
use Rattle.vma_pools.specs.declared.allocations.Home.{Home}
use Rattle.vma_pools.specs.declared.allocations.Home.TheVariants as home
use Rattle.vma_pools.specs.Pools.{Kept, HasNoTarget, HasTarget, IsMemoryOf}
use Rattle.vma_pools.specs.Ranges.{HasRange}
use Rattle.vma_pools.specs.State.{PoolsState, pool_at, allocation_at, reserved_place, range_at, request_in, start_of, ArePools, HasLower, HasNoLower, IfLive, IsHeld, IsTargetSpot}
use Rattle.vma_pools.proofs.CallLemmas.{kept-and, live-and}
use Rattle.vma_pools.proofs.StateLemmas.{some-is}

module _ (s : PoolsState) (i : ℕ) (a : Allocation) (live : allocation_at s i ≡ Some a) (p : ℕ) (place : PoolPlace) (lies : a.home ≡ home.Shared p place) (k : Kept) (there : pool_at s p ≡ Some k) where
  pub lower-of : (o : Option PoolPlace) → MatchOption o (HasNoTarget k.pool (start_of place) (request_in a.asked)) (λ t. HasTarget k.pool (start_of place) (request_in a.asked) (start_of t)) → MatchOption o (HasNoLower s i) (HasLower s i)
  lower-of None none = record { allocation = a; live = live; pool = p; from = place; lies = lies; kept = k; there = there; none = none }
  lower-of (Some t) has = record { allocation = a; live = live; pool = p; from = place; lies = lies; kept = k; there = there; has = has }

  module _ (target : PoolPlace) (moves : a.target ≡ Some target) where
    target-held : IsHeld s i true p target a.asked
    target-held =
        record {
          allocation = a;
          live = live;
          there = ap (λ (h : Home). reserved_place h a.target) lies ∙ ap (λ (t : Option PoolPlace). reserved_place (home.Shared p place) t) moves;
          asks = refl;
        }

    pub target-range : ArePools s → HasRange k.pool target.block (range_at target.start a.asked)
    target-range h =
        let its = h.taken i true p target a.asked target-held in
        subst (λ (l : Kept). HasRange l.pool target.block (range_at target.start a.asked)) (some-is its.0 k (sym its.1 ∙ there)) its.2

    pub target-spot : (m : ℕ) → IsMemoryOf k target.block m → IfLive s i (λ b. IsTargetSpot s b.home b.target b.asked (record { memory = m; offset = target.start; size = a.asked.size }))
    target-spot m is =
        let spot : Spot = record { memory = m; offset = target.start; size = a.asked.size } in
        live-and s i a (λ b. IsTargetSpot s b.home b.target b.asked spot) live
        (subst (λ (h : Home). IsTargetSpot s h a.target a.asked spot) (sym lies)
        (subst (λ (t : Option PoolPlace). IsTargetSpot s (home.Shared p place) t a.asked spot) (sym moves)
        (kept-and s p k (λ k. IsMemoryOf k target.block spot.memory × (spot.offset ≡ target.start) × (spot.size ≡ a.asked.size)) there (is, refl, refl))))
