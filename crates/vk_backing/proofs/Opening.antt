-- A pass begins.
use Rattle.std.proofs.Common.{◌≡◌, ℕ, [], Option, Some, None, refl, sym, ap, subst, ◌∙◌, inl, inr}
use Rattle.std.specs.Prelude.{Any, Contains, IsSome, sum_by}
use Rattle.std.proofs.lemmas.List.Elements.{All-contains}
use Rattle.vk_memory.specs.MemoryState.{MemoryState}
use Rattle.vk_model.specs.declared.resource.PoolKind.TheVariants as algorithm
use Rattle.vk_model.specs.Memory.MoveTargets.{Moved, pass_moves}
use Rattle.vk_model.specs.Memory.Pools.{numbered_blocks}
use Rattle.vk_model.proofs.Lists.Grids.{below_has}
use Rattle.vma_pools.specs.declared.pool.PoolPlace.{PoolPlace}
use Rattle.vma_pools.specs.declared.allocations.Allocation.{Allocation}
use Rattle.vma_pools.specs.declared.allocations.Home.{Home}
use Rattle.vma_pools.specs.declared.allocations.Home.TheVariants as home
use Rattle.vma_pools.specs.State.{PoolsState, allocation_at, ArePools, Backs, IfKept}
use Rattle.vma_pools.proofs.CallLemmas.{kept-and}
use Rattle.vma_pools.proofs.StateLemmas.{some-is}
use Rattle.vma_defrag.specs.State.{DefragState, moves_in, part_at, part_count}
use Rattle.vma_defrag.specs.Passes.{AreAlikePools, HasBegun}
use Rattle.vma_defrag.specs.Plans.{AreMatched, ArePlanned, IsMove}
use Rattle.vma_defrag.specs.Bytes.{AreCopied}
use Rattle.vma_defrag.proofs.Matched.{alike_matched}
use Rattle.vma_defrag.proofs.PartNumbers.{part_below}
use Rattle.vk_backing.specs.Backed.{Backed, allocation_of, IsBacked, IsWhole}
use Rattle.vk_backing.specs.Passing.{Passing, CopiesAgree, defrag_in, open_defrag, left_by, moves_by, moves_on, AreMovers, ArePassing}
use Rattle.vk_backing.specs.PassSteps.{KeepsBacked, Opens}
use Rattle.vk_backing.proofs.Naming.{name, name_has}
use Rattle.vk_backing.proofs.OpenPass.{planned_in, turned_passing}
use Rattle.vk_backing.proofs.Passing.{open_is, open_none}
use Rattle.vk_backing.proofs.PoolsStay.{HomeStays, PoolsStay, alike_stay, reserves_stay}
use Rattle.vk_backing.proofs.Spots.{home_pool}
use Rattle.vk_backing.proofs.StaysBacked.{defrag_is, infos_stay, lies_still, live_now, live_was, none_planned, stays_backed, stays_whole}

abbrev NoMoves : ℕ → PoolPlace → Type 0
NoMoves i y = ⊥

abbrev NoEnds : ℕ → Type 0
NoEnds i = ⊥

module _ (old : Passing) (b : Backed) (m : MemoryState) (hp : ArePassing old b) (h : IsBacked b m) (whole : IsWhole b) (closed : old.opened ≡ None) (id : ℕ) (d : DefragState) (was : defrag_in old id ≡ Some d) where
  pub none_current : d.current ≡ None
  none_current = hp.closed id d was (λ o. let e = sym closed ∙ o in cc)

  pub general : IfKept b.pools d.pool (λ k. k.pool.info.kind ≡ algorithm.Tlsf)
  general = let its = hp.pools id d was in kept-and b.pools d.pool its.kept (λ k. k.pool.info.kind ≡ algorithm.Tlsf) its.there its.general

  pub unplanned : (n : ℕ) → ArePlanned b.pools n []
  unplanned n = subst (λ (o : Option DefragState). ArePlanned b.pools n (moves_on n o)) (open_none old closed) (hp.planned n)

  -- ---- after an error

  module _ (t : PoolsState) (alike : AreAlikePools b.pools t) (always : ArePools t) (backs : Backs t m) where
    alike_are : PoolsStay NoMoves NoEnds NoEnds b.pools t
    alike_are = alike_stay NoMoves NoEnds NoEnds b.pools t h.matched alike

    pub refused_backed : IsBacked (record b { pools = t }) m
    refused_backed = stays_backed NoMoves NoEnds NoEnds b m h t alike_are b.allocations (λ i a has. (has, λ none. none)) m always backs (alike_matched b.pools t alike h.matched) h.sized h.live (λ i a has none. none)

    pub refused_whole : IsWhole (record b { pools = t })
    refused_whole = stays_whole NoMoves NoEnds NoEnds b m h t alike_are b.allocations (λ i a has. (has, λ none. none)) (λ a x live none. none) (λ i a has none. has) whole

  -- ---- places are reserved

  module _ (e : DefragState) (t : PoolsState) (begun : HasBegun d e b.pools t) (plan : ArePlanned t e.pool (moves_in e.current)) (always : ArePools t) (backs : Backs t m) (matched : AreMatched t) where
    abbrev Res : ℕ → Type 0
    Res i = Any (λ mv. mv.id ≡ i) (moves_in e.current)

    stay : PoolsStay NoMoves Res NoEnds b.pools t
    stay = reserves_stay NoMoves Res NoEnds (moves_in e.current) b.pools t h.matched begun.reserved (λ mv at. (at.0, mv, at.1, at.2, refl))

    same : (i a : ℕ) → allocation_of b i ≡ Some a → (allocation_of b i ≡ Some a) × (NoEnds a → ⊥)
    same i a has = (has, λ none. none)

    abbrev pub reserving : Backed
    reserving = record b { pools = t }

    pub reserved_backed : IsBacked reserving m
    reserved_backed = stays_backed NoMoves Res NoEnds b m h t stay b.allocations same m always backs matched h.sized h.live (λ i a has none. none)

    pub reserved_whole : IsWhole reserving
    reserved_whole = stays_whole NoMoves Res NoEnds b m h t stay b.allocations same (λ a x live none. none) (λ i a has none. has) whole

    -- homes are the same
    same_home : (g l : Home) → HomeStays (λ y. ⊥) g l → l ≡ g
    same_home g l (inl e) = e
    same_home g l (inr s) = absurd s.5

    -- what moves is a resource in a pool
    pub movers_named : (mv : Moved) → Contains (moves_in e.current) mv → (i : ℕ) × (allocation_of b i ≡ Some mv.id)
    movers_named mv there =
        let its = All-contains (IsMove t e.pool) (moves_in e.current) mv plan.each there in
        let l = live_was NoMoves Res NoEnds b.pools t stay mv.id its.allocation its.live in
        (name b m h whole mv.id, name_has b m h whole mv.id l.0 e.pool l.1 (its.from, sym (same_home l.0.home its.allocation.home l.2.lies) ∙ its.lies))

    pub reserved_keeps : KeepsBacked b reserving
    reserved_keeps = record {
      owned = refl;
      numbers = refl;
      allocations = refl;
      keeps = λ i p s l. lies_still NoMoves Res NoEnds b m h t stay b.allocations same m reserved_backed i p s l refl (λ y none. none);
      infos = infos_stay NoMoves Res NoEnds b m h t stay b.allocations;
    }

    none_elsewhere : (n : ℕ) → (e.pool ≡ n → ⊥) → ArePlanned t n []
    none_elsewhere n other = none_planned NoMoves Res NoEnds b.pools t stay n away (unplanned n)
      where
        away : (i p : ℕ) (x : PoolPlace) (a : Allocation) → Res i → allocation_at b.pools i ≡ Some a → a.home ≡ home.Shared p x → p ≡ n → ⊥
        away i p x a any live lies is =
            let its = All-contains (IsMove t e.pool) (moves_in e.current) any.1 plan.each (any.0, any.2, any.3) in
            let l = live_now NoMoves Res NoEnds b.pools t stay i a live (λ none. none) in
            let one = some-is its.allocation l.0 (sym its.live ∙ ap (λ (j : ℕ). allocation_at t j) any.4 ∙ l.1) in
            let f = sym its.lies ∙ ap (λ (y : Allocation). y.home) one ∙ same_home a.home l.0.home l.2.lies ∙ lies in
            other (home_pool e.pool p its.from x f ∙ is)

    -- ---- the pass is open

    module _ (new : Passing) (opened : new.opened ≡ Some id) (here : defrag_in new id ≡ Some e) (others : (i : ℕ) → (i ≡ id → ⊥) → defrag_in new i ≡ defrag_in old i) where
      is_open : open_defrag new ≡ Some e
      is_open = open_is new id opened ∙ here

      some : IsSome e.current
      some = subst (λ (x : DefragState). IsSome x.current) (sym begun.state) refl

      pub opened_passing : AreMovers reserving new.moving (moves_in e.current) → ArePassing new reserving
      opened_passing movers =
          turned_passing old new b reserving hp id d e was here others (ap (λ (x : DefragState). x.pool) begun.state) (λ i o. absurd (let f = sym closed ∙ o in cc))
          (defrag_is NoMoves Res NoEnds b m h t stay b.allocations) (λ away. absurd (away opened)) (λ i o. (some-is i id (sym o ∙ opened), some))
          (planned_in new t e is_open plan none_elsewhere) (subst (λ (o : Option DefragState). AreMovers reserving new.moving (moves_by o)) (sym is_open) movers)

      pub opened_is : Opens old new b reserving id
      opened_is = record { was = d; now = e; there = was; here = here; others = others; opened = opened; begun = begun; keeps = reserved_keeps }

-- ---- no part has been copied

pub opens_agree : (old new : Passing) (before after : Backed) (id : ℕ) → Opens old new before after id → (m : MemoryState) → CopiesAgree new after m
opens_agree old new before after id o m =
    let moves = pass_moves o.was.max_bytes o.was.max_moves (numbered_blocks o.begun.kept.pool.blocks) o.begun.listed in
    subst (λ (x : Option DefragState). AreCopied after.pools m (moves_by x) (left_by x)) (sym (open_is new id o.opened ∙ o.here ∙ ap (λ (x : DefragState). Some x) o.begun.state))
    (λ i at from to lt within between. inl (below_has (sum_by part_count moves) (part_at moves i at) (part_below moves i at lt within)))
