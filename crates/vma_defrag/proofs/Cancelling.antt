-- A move whose target was reserved last is cancelled: all is alike to what it was.
use Rattle.std.proofs.Common.{◌≡◌, ℕ, List, length, set, Some, None, refl, sym, ap, subst, ◌∙◌, inl, inr}
use Rattle.std.specs.Prelude.{Option, slice_index_or}
use Rattle.std.proofs.lemmas.Bool.{cases_eq}
use Rattle.std.proofs.lemmas.List.{length-set, set-get_or, set-set}
use Rattle.vk_model.specs.declared.resource.PoolKind.TheVariants as algorithm
use Rattle.vk_model.specs.Memory.MoveTargets.{Moved}
use Rattle.vma_pools.specs.declared.pool.PoolPlace.{PoolPlace}
use Rattle.vma_pools.specs.declared.allocations.Allocation.{Allocation}
use Rattle.vma_pools.specs.declared.allocations.Home.{Home}
use Rattle.vma_pools.specs.declared.allocations.Home.TheVariants as home
use Rattle.vma_pools.specs.Alike.{IsAlikePool}
use Rattle.vma_pools.specs.Pools.{Kept, KeepsBlocks}
use Rattle.vma_pools.specs.Moves.{IsCancelled, IsMoving, IsSettled}
use Rattle.vma_pools.specs.State.{PoolsState, IfKept, IfLive, IsMovable, allocation_at, pool_at, request_in, start_of}
use Rattle.vma_pools.proofs.NumberLemmas.{at-below, at-other, at-set}
use Rattle.vma_pools.proofs.PoolAlike.{pool-refl, pool-trans}
use Rattle.vma_pools.proofs.StateLemmas.{some-is}
use Rattle.vma_pools.proofs.EndedLemmas.{kept-is}
use Rattle.vma_pools.proofs.CallLemmas.{live-and, live-holds}
use Rattle.vma_pools.proofs.MovingLemmas.{movable-none}
use Rattle.vma_defrag.specs.Passes.{AreAlikeKept, AreAlikePools}
use Rattle.vma_defrag.proofs.Chain.{IsLast}
use Rattle.vma_defrag.proofs.GivenBack.{alike-again, none-gone}

-- ---- likeness

kept-refl : (o : Option Kept) → AreAlikeKept o o
kept-refl None = tt
kept-refl (Some k) = (pool-refl k.pool, refl)

kept-trans : (o p q : Option Kept) → AreAlikeKept o p → AreAlikeKept p q → AreAlikeKept o q
kept-trans None None None h i = tt
kept-trans (Some k) (Some l) (Some m) h i = (pool-trans k.pool l.pool m.pool h.0 i.0, i.1 ∙ h.1)
kept-trans None None (Some m) h i = absurd i
kept-trans None (Some l) q h i = absurd h
kept-trans (Some k) None q h i = absurd h
kept-trans (Some k) (Some l) None h i = absurd i

pub alike-refl : (s : PoolsState) → AreAlikePools s s
alike-refl s = record { allocations = refl; count = refl; pools = λ p. kept-refl (pool_at s p) }

pub alike-trans : (s t u : PoolsState) → AreAlikePools s t → AreAlikePools t u → AreAlikePools s u
alike-trans s t u h i = record { allocations = i.allocations ∙ h.allocations; count = i.count ∙ h.count; pools = λ p. kept-trans (pool_at s p) (pool_at t p) (pool_at u p) (h.pools p) (i.pools p) }

-- ---- one move

module _ (s t c : PoolsState) (m : Moved) (last : IsLast s t m) (alike : AreAlikePools t c) where
  abbrev a : Allocation
  a = last.is.allocation

  abbrev held : Allocation
  held = record a { target = Some last.target }

  free : a.target ≡ None
  free = movable-none s a.home a.target (live-holds s m.id (λ b. IsMovable s b.home b.target) last.movable a last.is.live)

  live : allocation_at c m.id ≡ Some held
  live =
      ap (λ (l : List (Option Allocation)). slice_index_or l m.id None) (alike.allocations ∙ ap (λ (x : PoolsState). x.allocations) last.is.state)
      ∙ at-set s.allocations m.id (Some held) (at-below s.allocations m.id a last.is.live)

  pub is-moving : IfLive c m.id (λ b. IsMoving b.home b.target)
  is-moving = live-and c m.id held (λ b. IsMoving b.home b.target) live (subst (λ (l : Home). IsMoving l (Some last.target)) (sym last.is.lies) tt)

  now-there : pool_at t last.is.pool ≡ Some last.is.now
  now-there = ap (λ (x : PoolsState). pool_at x last.is.pool) last.is.state ∙ at-set s.pools last.is.pool (Some last.is.now) (at-below s.pools last.is.pool last.is.was last.is.there)

  kind : last.is.was.pool.info.kind ≡ algorithm.Tlsf
  kind =
      let general : IfKept s last.is.pool (λ k. k.pool.info.kind ≡ algorithm.Tlsf) =
      subst (λ (o : Option PoolPlace). IsMovable s (home.Shared last.is.pool last.is.from) o) free
      (subst (λ (l : Home). IsMovable s l a.target) last.is.lies (live-holds s m.id (λ b. IsMovable s b.home b.target) last.movable a last.is.live)) in
      let k = kept-is s last.is.pool (λ k. k.pool.info.kind ≡ algorithm.Tlsf) general in
      subst (λ (l : Kept). l.pool.info.kind ≡ algorithm.Tlsf) (some-is k.0 last.is.was (sym k.1 ∙ last.is.there)) k.2

  module _ (d : PoolsState) (gone : Option ℕ) (cancelled : IfLive c m.id (λ b. IsCancelled c d m.id b b.home b.target gone)) where
    settled : IsSettled c d m.id held last.is.pool last.target last.is.from gone
    settled = subst (λ (l : Home). IsCancelled c d m.id held l (Some last.target) gone) last.is.lies (live-holds c m.id (λ b. IsCancelled c d m.id b b.home b.target gone) cancelled held live)

    both : IsAlikePool last.is.now.pool settled.was.pool × (settled.was.memories ≡ last.is.now.memories)
    both =
        subst (λ (o : Option Kept). AreAlikeKept (Some last.is.now) o) settled.there
        (subst (λ (o : Option Kept). AreAlikeKept o (pool_at c last.is.pool)) now-there (alike.pools last.is.pool))

    pub stays : gone ≡ None
    stays =
        none-gone last.is.was last.is.now (last.always.pools last.is.pool last.is.was last.is.there) kind (start_of last.is.from) (request_in a.asked) (last.always.requests m.id a last.is.live).some (start_of last.target) last.is.takes
        settled.was settled.now both.0 settled.pool_is gone settled.blocks

    pool-alike : IsAlikePool last.is.was.pool settled.now.pool
    pool-alike =
        alike-again last.is.was last.is.now (last.always.pools last.is.pool last.is.was last.is.there) kind (start_of last.is.from) (request_in a.asked) (last.always.requests m.id a last.is.live).some (start_of last.target) last.is.takes
        settled.was settled.now both.0 settled.pool_is

    memories-same : settled.now.memories ≡ last.is.was.memories
    memories-same = (subst (λ (o : Option ℕ). KeepsBlocks o last.target.block settled.was settled.now) stays settled.blocks).0 ∙ both.1 ∙ last.is.takes.memories

    left-same : record held { home = home.Shared last.is.pool last.is.from; target = None } ≡ a
    left-same =
        ap (λ (l : Home). record held { home = l; target = None }) (sym last.is.lies) ∙ ap (λ (o : Option PoolPlace). record a { target = o }) (sym free)

    allocations-same : d.allocations ≡ s.allocations
    allocations-same =
        ap (λ (x : PoolsState). x.allocations) settled.state
        ∙ ap (λ (l : List (Option Allocation)). set l m.id (Some (record held { home = home.Shared last.is.pool last.is.from; target = None }))) (alike.allocations ∙ ap (λ (x : PoolsState). x.allocations) last.is.state)
        ∙ set-set s.allocations m.id (Some held) (Some (record held { home = home.Shared last.is.pool last.is.from; target = None }))
        ∙ ap (λ (b : Allocation). set s.allocations m.id (Some b)) left-same
        ∙ ap (λ (o : Option Allocation). set s.allocations m.id o) (sym last.is.live)
        ∙ set-get_or s.allocations m.id None

    at-pool : (p : ℕ) → AreAlikeKept (pool_at s p) (pool_at d p)
    at-pool p = elim (cases_eq p last.is.pool) [
      | inl same ↦ subst (λ (n : ℕ). AreAlikeKept (pool_at s n) (pool_at d n)) (sym same)
          (subst (λ (o : Option Kept). AreAlikeKept o (pool_at d last.is.pool)) (sym last.is.there)
          (subst (λ (o : Option Kept). AreAlikeKept (Some last.is.was) o) (sym (ap (λ (x : PoolsState). pool_at x last.is.pool) settled.state
          ∙ at-set c.pools last.is.pool (Some settled.now) (at-below c.pools last.is.pool settled.was settled.there))) (pool-alike, memories-same)))
      | inr other ↦
          subst (λ (o : Option Kept). AreAlikeKept o (pool_at d p)) (ap (λ (x : PoolsState). pool_at x p) last.is.state ∙ at-other s.pools last.is.pool p (Some last.is.now) other)
          (subst (λ (o : Option Kept). AreAlikeKept (pool_at t p) o) (sym (ap (λ (x : PoolsState). pool_at x p) settled.state ∙ at-other c.pools last.is.pool p (Some settled.now) other)) (alike.pools p))
    ]

    pub back-alike : AreAlikePools s d
    back-alike = record {
      allocations = allocations-same;
      count =
          ap (λ (x : PoolsState). length x.pools) settled.state ∙ length-set c.pools last.is.pool (Some settled.now)
          ∙ alike.count ∙ ap (λ (x : PoolsState). length x.pools) last.is.state ∙ length-set s.pools last.is.pool (Some last.is.now);
      pools = at-pool;
    }
