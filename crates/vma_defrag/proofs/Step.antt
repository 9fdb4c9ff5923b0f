-- What is known of an allocation that is left, and what changes when its target is reserved.
use Rattle.std.proofs.Common.{◌≡◌, ℕ, ◌%◌, List, [], ◌∷◌, ◌++◌, set, true, false, Option, Some, None, refl, sym, ap, subst, ◌∙◌, inl, inr}
use Rattle.std.specs.Prelude.{Any, Contains}
use Rattle.std.proofs.lemmas.Bool.{cases_eq}
use Rattle.std.proofs.lemmas.List.Elements.{All-contains, All-push, All-weaker, Contains-append_left, Contains-append_right}
use Rattle.vk_model.specs.declared.resource.PoolKind.TheVariants as algorithm
use Rattle.vk_model.specs.Memory.Suballocation.{Request}
use Rattle.vk_model.specs.Memory.MoveTargets.{BlockStart, Moved, Resident, move_target}
use Rattle.vk_model.specs.Memory.Pools.{numbered_blocks}
use Rattle.vk_model.proofs.Lists.Members.{contains-head}
use Rattle.vma_pools.specs.declared.pool.PoolPlace.{PoolPlace}
use Rattle.vma_pools.specs.declared.allocations.Asked.{Asked}
use Rattle.vma_pools.specs.declared.allocations.Allocation.{Allocation}
use Rattle.vma_pools.specs.declared.allocations.Home.{Home}
use Rattle.vma_pools.specs.declared.allocations.Home.TheVariants as home
use Rattle.vma_pools.specs.Pools.{Kept, HasNoTarget, HasTarget, TakesTarget}
use Rattle.vma_pools.specs.State.{ArePools, PoolsState, HasLower, HasNoLower, IfKept, IfLive, IsHeld, IsMovable, IsReserved, allocation_at, pool_at, request_in, start_of}
use Rattle.vma_pools.proofs.NumberLemmas.{at-below, at-set}
use Rattle.vma_pools.proofs.StateLemmas.{some-is}
use Rattle.vma_pools.proofs.CallLemmas.{live-and, live-holds}
use Rattle.vma_defrag.specs.declared.cursors.Cursor.{Cursor}
use Rattle.vma_defrag.specs.Inner.Cursors.{IsPlaceOf}
use Rattle.vma_defrag.specs.Plans.{ArePlanned, IsMove}
use Rattle.vma_defrag.proofs.Aligned.{gives_aligned}
use Rattle.vma_defrag.proofs.Chain.{once-more, others-stay}
use Rattle.vma_defrag.proofs.Left.{IsLeft, pair-is}

-- ---- an allocation that is left

module _ (s : PoolsState) (pool : ℕ) (r : Resident) (left : IsLeft s pool r) where
  abbrev a : Allocation
  a = left.listed.allocation

  pub its-size : (own : Cursor) → IfLive s r.id (IsPlaceOf own) → own.asked.size ≡ r.request.size
  its-size own place = ap (λ (q : Asked). q.size) (live-holds s r.id (IsPlaceOf own) place a left.listed.live).asked ∙ ap (λ (q : Request). q.size) left.listed.request

  pub may-move : IfKept s pool (λ k. k.pool.info.kind ≡ algorithm.Tlsf) → IfLive s r.id (λ b. IsMovable s b.home b.target)
  may-move kind =
      live-and s r.id a (λ b. IsMovable s b.home b.target) left.listed.live
      (subst (λ (h : Home). IsMovable s h a.target) (sym left.listed.lies) (subst (λ (t : Option PoolPlace). IsMovable s (home.Shared pool left.listed.place) t) (sym left.free) kind))

  -- an allocation of its number is this one, and lies there
  module _ (b : Allocation) (live : allocation_at s r.id ≡ Some b) (p : ℕ) (from : PoolPlace) (lies : b.home ≡ home.Shared p from) where
    same : b ≡ a
    same = some-is b a (sym live ∙ left.listed.live)

    places : (p ≡ pool) × (from ≡ left.listed.place)
    places = pair-is p pool from left.listed.place (sym lies ∙ ap (λ (c : Allocation). c.home) same ∙ left.listed.lies)

    from-is : start_of from ≡ r.from
    from-is = ap start_of places.1 ∙ left.listed.from

    asks : request_in b.asked ≡ r.request
    asks = ap (λ (c : Allocation). request_in c.asked) same ∙ left.listed.request

    kept-here : (k l : Kept) → pool_at s pool ≡ Some k → pool_at s p ≡ Some l → l ≡ k
    kept-here k l there at = some-is l k (sym at ∙ ap (λ (n : ℕ). pool_at s n) places.0 ∙ there)

  module _ (k : Kept) (there : pool_at s pool ≡ Some k) where
    pub none-lower : HasNoLower s r.id → move_target (numbered_blocks k.pool.blocks) r ≡ None
    none-lower h =
        subst (λ (l : Kept). HasNoTarget l.pool r.from r.request) (kept-here h.allocation h.live h.pool h.from h.lies k h.kept there h.there)
        (subst (λ (q : Request). HasNoTarget h.kept.pool r.from q) (asks h.allocation h.live h.pool h.from h.lies)
        (subst (λ (f : BlockStart). HasNoTarget h.kept.pool f (request_in h.allocation.asked)) (from-is h.allocation h.live h.pool h.from h.lies) h.none)) r.id

    pub some-lower : (t : PoolPlace) → HasLower s r.id t → move_target (numbered_blocks k.pool.blocks) r ≡ Some (start_of t)
    some-lower t h =
        subst (λ (l : Kept). HasTarget l.pool r.from r.request (start_of t)) (kept-here h.allocation h.live h.pool h.from h.lies k h.kept there h.there)
        (subst (λ (q : Request). HasTarget h.kept.pool r.from q (start_of t)) (asks h.allocation h.live h.pool h.from h.lies)
        (subst (λ (f : BlockStart). HasTarget h.kept.pool f (request_in h.allocation.asked) (start_of t)) (from-is h.allocation h.live h.pool h.from h.lies) h.has)) r.id

  -- ---- its target is reserved

  module _ (t : PoolsState) (target : PoolPlace) (h : IsReserved s t r.id target) where
    abbrev held : Allocation
    held = record a { target = Some target }

    pub was-there : pool_at s pool ≡ Some h.was
    was-there = ap (λ (n : ℕ). pool_at s n) (sym (places h.allocation h.live h.pool h.from h.lies).0) ∙ h.there

    pub takes : TakesTarget h.was h.now r.from r.request (start_of target)
    takes =
        subst (λ (q : Request). TakesTarget h.was h.now r.from q (start_of target)) (asks h.allocation h.live h.pool h.from h.lies)
        (subst (λ (f : BlockStart). TakesTarget h.was h.now f (request_in h.allocation.asked) (start_of target)) (from-is h.allocation h.live h.pool h.from h.lies) h.takes)

    after : t ≡ record { pools = set s.pools pool (Some h.now); allocations = set s.allocations r.id (Some held) }
    after =
        h.state
        ∙ ap (λ (n : ℕ). record { pools = set s.pools n (Some h.now); allocations = set s.allocations r.id (Some (record h.allocation { target = Some target })) }) (places h.allocation h.live h.pool h.from h.lies).0
        ∙ ap (λ (b : Allocation). record { pools = set s.pools pool (Some h.now); allocations = set s.allocations r.id (Some (record b { target = Some target })) }) (same h.allocation h.live h.pool h.from h.lies)

    pub now-there : pool_at t pool ≡ Some h.now
    now-there = ap (λ (x : PoolsState). pool_at x pool) after ∙ at-set s.pools pool (Some h.now) (at-below s.pools pool h.was was-there)

    now-live : allocation_at t r.id ≡ Some held
    now-live = ap (λ (x : PoolsState). allocation_at x r.id) after ∙ at-set s.allocations r.id (Some held) (at-below s.allocations r.id a left.listed.live)

    abbrev pub the-move : Moved
    the-move = record { id = r.id; to = start_of target; bytes = r.request.size }

    target-aligned : ArePools s → (start_of target).start % r.request.align ≡ 0
    target-aligned always = gives_aligned h.was.pool (always.pools pool h.was was-there).pool r.request false (start_of target) takes.given

    is-move : ArePools s → IsMove t pool the-move
    is-move always = record {
      allocation = held;
      live = now-live;
      from = left.listed.place;
      lies = left.listed.lies;
      target = target;
      reserved = refl;
      to = refl;
      bytes = ap (λ (q : Request). q.size) left.listed.request;
      aligned = subst (λ (q : Request). (start_of target).start % q.align ≡ 0) (sym left.listed.request) (target-aligned always);
    }

    -- what moves already is another one
    differs : (n : Moved) → IsMove s pool n → n.id ≡ r.id → ⊥
    differs n m same =
        let b : m.allocation ≡ a = some-is m.allocation a (sym m.live ∙ ap (λ (i : ℕ). allocation_at s i) same ∙ left.listed.live) in
        let none : Some m.target ≡ None = sym m.reserved ∙ ap (λ (c : Allocation). c.target) b ∙ left.free in cc

    stays-move : (n : Moved) → IsMove s pool n → IsMove t pool n
    stays-move n m = record {
      allocation = m.allocation;
      live = others-stay s t r.id target h n.id (differs n m) ∙ m.live;
      from = m.from;
      lies = m.lies;
      target = m.target;
      reserved = m.reserved;
      to = m.to;
      bytes = m.bytes;
      aligned = m.aligned;
    }

    pub planned-more : ArePools s → (ms : List Moved) → ArePlanned s pool ms → ArePlanned t pool (ms ++ the-move ∷ [])
    planned-more always ms p = record {
      each = All-push (IsMove t pool) ms the-move (All-weaker (IsMove s pool) (IsMove t pool) stays-move ms p.each) (is-move always);
      once = once-more ms the-move p.once (λ n at. differs n (All-contains (IsMove s pool) ms n p.each at));
      only = λ i place asked held. elim (cases_eq i r.id) [
        | inl is ↦ as-any i (ms ++ the-move ∷ []) the-move (Contains-append_right ms (the-move ∷ []) the-move (contains-head the-move [])) (sym is)
        | inr other ↦ (
            let old : IsHeld s i true pool place asked = record { allocation = held.allocation; live = sym (others-stay s t r.id target h i other) ∙ held.live; there = held.there; asks = held.asks } in
            let any = p.only i place asked old in
            as-any i (ms ++ the-move ∷ []) any.1 (Contains-append_left ms (the-move ∷ []) any.1 (any.0, any.2, any.3)) any.4)
      ];
    }
      where
        as-any : (i : ℕ) (ns : List Moved) (n : Moved) → Contains ns n → n.id ≡ i → Any (λ m. m.id ≡ i) ns
        as-any i ns n at is = (at.0, n, at.1, at.2, is)
