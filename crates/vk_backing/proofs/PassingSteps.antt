-- What holds of defragmentations stays where what backs ids changes.
use Rattle.std.proofs.Common.{◌≡◌, ℕ, ◌%◌, ◌<◌, List, [], ◌∷◌, ◌++◌, set, length, get_or, Bool, true, Option, Some, None, refl, sym, ap, subst, ◌∙◌, arith, inl, inr}
use Rattle.std.specs.Prelude.{Contains}
use Rattle.std.proofs.lemmas.Bool.{cases_eq}
use Rattle.std.proofs.lemmas.List.{get_or_default}
use Rattle.vk_memory.specs.MemoryState.{MemoryState}
use Rattle.vk_model.specs.declared.resource.PoolInfo.{PoolInfo}
use Rattle.vk_model.specs.declared.resource.Spot.{Spot}
use Rattle.vk_model.specs.Memory.MoveTargets.{Moved}
use Rattle.vma_pools.specs.declared.pool.PoolPlace.{PoolPlace}
use Rattle.vma_pools.specs.declared.allocations.Asked.{Asked}
use Rattle.vma_pools.specs.declared.allocations.Allocation.{Allocation}
use Rattle.vma_pools.specs.declared.allocations.Home.{Home}
use Rattle.vma_pools.specs.declared.allocations.Home.TheVariants as home
use Rattle.vma_pools.specs.Pools.{Kept}
use Rattle.vma_pools.specs.State.{PoolsState, pool_at, allocation_at, held_place, new_allocation, request_in, start_of, with_allocation, IfLive, IsEnded, IsGivenBack, IsHeld}
use Rattle.vma_pools.proofs.NumberLemmas.{at-below, at-more, at-old, at-other, at-set}
use Rattle.vma_pools.proofs.StateLemmas.{given-info, some-is, takes-gives}
use Rattle.vma_pools.proofs.CallLemmas.{live-holds}
use Rattle.vma_pools.proofs.EndedLemmas.{live-is}
use Rattle.vma_defrag.specs.State.{DefragState}
use Rattle.vma_defrag.specs.Plans.{IsMove}
use Rattle.vk_backing.specs.declared.backing.Own.{Own}
use Rattle.vk_backing.specs.Backed.{Backed, number_in, own_in, pool_of, allocation_of, mapping_of, IsBacked}
use Rattle.vk_backing.specs.Passing.{Passing, defrag_in, open_defrag, open_moves, moves_in_pool, ArePassing, IsDefragOf}
use Rattle.vk_backing.specs.Steps.{Counts, DropsPool, EndsIn, EndsOwn, MakesPool, Maps, OwnsAlone, OwnsDedicated, OwnsOr, Releases, SharesOr, asked_on}
use Rattle.vk_backing.proofs.Owned.{dedicated_is}
use Rattle.vk_backing.proofs.Passing.{among_moves, move_is, move_named}
use Rattle.vk_backing.proofs.Turned.{Stays, stays}

-- ---- other pools and allocations

-- an allocation that moves lies where it did, asks what it did, and has the place reserved that it had
move_stays : (s t : PoolsState) (n : ℕ) (m : Moved) → Stays (allocation_at s m.id) (allocation_at t m.id) → IsMove s n m → IsMove t n m
move_stays s t n m stay its =
    let y = stay its.allocation its.live in
    record {
      allocation = y.0;
      live = y.1;
      from = its.from;
      lies = y.2 ∙ its.lies;
      target = its.target;
      reserved = y.4 ∙ its.reserved;
      to = its.to;
      bytes = ap (λ (r : Asked). r.size) y.3 ∙ its.bytes;
      aligned = subst (λ (r : Asked). m.to.start % r.align ≡ 0) (sym y.3) its.aligned;
    }

module _ (p : Passing) (old new : Backed) (h : ArePassing p old)
    (pools : (i : ℕ) (d : DefragState) → defrag_in p i ≡ Some d → IsDefragOf old d → IsDefragOf new d)
    (stay : (m : Moved) → Contains (open_moves p) m → Stays (allocation_at old.pools m.id) (allocation_at new.pools m.id))
    (held : (i n : ℕ) (place : PoolPlace) (asked : Asked) → IsHeld new.pools i true n place asked → IsHeld old.pools i true n place asked)
    (movers : (k : ℕ) → k < length (open_moves p) → allocation_of new (get_or p.moving k 0) ≡ allocation_of old (get_or p.moving k 0)) where
  pub still_passing : ArePassing p new
  still_passing = record {
    pools = λ i d is. pools i d is (h.pools i d is);
    closed = h.closed;
    opened = h.opened;
    planned = λ n. (let plan = h.planned n in record {
      each = λ k d lt. (let m = get_or (moves_in_pool p n) k d in
          move_stays old.pools new.pools n m (stay m (among_moves (open_defrag p) n m (k, lt, get_or_default (moves_in_pool p n) k m d lt))) (plan.each k d lt));
      once = plan.once;
      only = λ i place asked held'. plan.only i place asked (held i n place asked held');
    });
    movers = record { long = h.movers.long; each = λ k lt. movers k lt ∙ h.movers.each k lt };
  }

-- the pool of a defragmentation was made with the same, and has its id
defrag_stays : (old new : Backed) (d : DefragState) → ((k : Kept) → pool_at old.pools d.pool ≡ Some k → (l : Kept) × (pool_at new.pools d.pool ≡ Some l) × (l.pool.info ≡ k.pool.info))
    → ((i : ℕ) → pool_of old i ≡ Some d.pool → pool_of new i ≡ Some d.pool) → IsDefragOf old d → IsDefragOf new d
defrag_stays old new d kept named its =
    let l = kept its.kept its.there in
    record { kept = l.0; there = l.1; general = ap (λ (i : PoolInfo). i.kind) l.2 ∙ its.general; id = its.id; named = named its.id its.named }

-- the pools are the same
same_pools : (s t : PoolsState) → t.pools ≡ s.pools → (n : ℕ) (k : Kept) → pool_at s n ≡ Some k → (l : Kept) × (pool_at t n ≡ Some l) × (l.pool.info ≡ k.pool.info)
same_pools s t e n k at = (k, ap (λ (l : List (Option Kept)). pool_at (record s { pools = l }) n) e ∙ at, refl)

-- one is another, made with the same
other_pool : (s t : PoolsState) (p : ℕ) (was now : Kept) → pool_at s p ≡ Some was → t.pools ≡ set s.pools p (Some now) → now.pool.info ≡ was.pool.info → (n : ℕ) (k : Kept) → pool_at s n ≡ Some k → (l : Kept) × (pool_at t n ≡ Some l) × (l.pool.info ≡ k.pool.info)
other_pool s t p was now there e info n k at = elim (cases_eq n p) [
  | inl is ↦ (
      let same = some-is was k (sym there ∙ ap (λ (j : ℕ). pool_at s j) (sym is) ∙ at) in
      (now, ap (λ (l : List (Option Kept)). pool_at (record s { pools = l }) n) e ∙ ap (λ (j : ℕ). pool_at (record s { pools = set s.pools p (Some now) }) j) is ∙ at-set s.pools p (Some now) (at-below s.pools p was there), info ∙ ap (λ (k : Kept). k.pool.info) same))
  | inr other ↦ (k, ap (λ (l : List (Option Kept)). pool_at (record s { pools = l }) n) e ∙ at-other s.pools p n (Some now) other ∙ at, refl)
]

-- the same allocations hold the same places
same_held : (s t : PoolsState) → t.allocations ≡ s.allocations → (i n : ℕ) (place : PoolPlace) (asked : Asked) → IsHeld t i true n place asked → IsHeld s i true n place asked
same_held s t e i n place asked held = record { allocation = held.allocation; live = ap (λ (l : List (Option Allocation)). allocation_at (record s { allocations = l }) i) (sym e) ∙ held.live; there = held.there; asks = held.asks }

-- one more allocation holds no reserved place
more_held : (s t : PoolsState) (a : Allocation) → held_place true a ≡ None → t.allocations ≡ s.allocations ++ Some a ∷ [] → (i n : ℕ) (place : PoolPlace) (asked : Asked) → IsHeld t i true n place asked → IsHeld s i true n place asked
more_held s t a none e i n place asked held =
    elim (at-more s.allocations (Some a) i held.allocation (ap (λ (l : List (Option Allocation)). allocation_at (record s { allocations = l }) i) (sym e) ∙ held.live)) [
      | inl old ↦ record { allocation = held.allocation; live = old; there = held.there; asks = held.asks }
      | inr new ↦ absurd (let same = some-is a held.allocation new.1 in let f = sym none ∙ ap (λ (x : Allocation). held_place true x) same ∙ held.there in cc)
    ]

pub more_stays : (s t : PoolsState) (a : Option Allocation) → t.allocations ≡ s.allocations ++ a ∷ [] → (i : ℕ) → Stays (allocation_at s i) (allocation_at t i)
more_stays s t a e i = stays (allocation_at s i) (allocation_at t i) (λ x is. ap (λ (l : List (Option Allocation)). allocation_at (record s { allocations = l }) i) e ∙ at-old s.allocations a i x is)

-- an allocation is mapped more or less often
pub counted_pools : (old new : Backed) (a : ℕ) (change : ℕ → ℕ) → Counts (Some a) change old new → new.pools.pools ≡ old.pools.pools
counted_pools old new a change counts = let x = live-is old.pools a (λ x. new ≡ record old { pools = with_allocation old.pools a (record x { maps = change x.maps }) }) counts in ap (λ (b : Backed). b.pools.pools) x.2

pub mapped_stays : (old new : Backed) (a : ℕ) (change : ℕ → ℕ) → Counts (Some a) change old new → (i : ℕ) → Stays (allocation_at old.pools i) (allocation_at new.pools i)
mapped_stays old new a change counts i y live =
    let x = live-is old.pools a (λ x. new ≡ record old { pools = with_allocation old.pools a (record x { maps = change x.maps }) }) counts in
    let mapped : Allocation = record x.0 { maps = change x.0.maps } in
    let at : allocation_at new.pools i ≡ allocation_at (with_allocation old.pools a mapped) i = ap (λ (b : Backed). allocation_at b.pools i) x.2 in
    elim (cases_eq i a) [
      | inl e ↦ (let same = some-is x.0 y (sym x.1 ∙ ap (λ (j : ℕ). allocation_at old.pools j) (sym e) ∙ live) in
          (mapped, at ∙ ap (λ (j : ℕ). allocation_at (with_allocation old.pools a mapped) j) e ∙ at-set old.pools.allocations a (Some mapped) (at-below old.pools.allocations a x.0 x.1), ap (λ (z : Allocation). z.home) same, ap (λ (z : Allocation). z.asked) same, ap (λ (z : Allocation). z.target) same))
      | inr other ↦ (y, at ∙ at-other old.pools.allocations a i (Some mapped) other ∙ live, refl, refl, refl)
    ]

-- the allocation of a memory object has ended, which isn't that of a move
pub own_ended : (p : Passing) (old new : Backed) → ArePassing p old → (m : MemoryState) → IsBacked old m → (id : ℕ) (o : Own) → own_in old.owned id ≡ Some o → (a : ℕ) → o.allocation ≡ Some a → (gone : Option ℕ) → EndsOwn o.object (Some a) old.pools new.pools gone
    → (new.pools ≡ record old.pools { allocations = set old.pools.allocations a None }) × ((mv : Moved) → Contains (open_moves p) mv → mv.id ≡ a → ⊥)
own_ended p old new h m back id o is a e gone ended =
    let d = back.dedicated id a (dedicated_is old.owned id (Some o) is ∙ e) in
    let state : (gone ≡ Some d.number) × (new.pools ≡ record old.pools { allocations = set old.pools.allocations a None }) = subst (λ (l : Home). IsEnded old.pools new.pools a l gone) d.lies (live-holds old.pools a (λ x. IsEnded old.pools new.pools a x.home gone) ended.1 d.allocation d.live) in (
      state.1,
      λ mv there is.
          let its = (move_is p old h mv there).1 in
          let same = some-is its.allocation d.allocation (sym its.live ∙ ap (λ (j : ℕ). allocation_at old.pools j) is ∙ d.live) in
          let f = sym its.lies ∙ ap (λ (y : Allocation). y.home) same ∙ d.lies in cc,
    )

-- the allocation of a resource in a pool has ended, which doesn't move
pub shared_ended : (p : Passing) (old new : Backed) → ArePassing p old → (m : MemoryState) → IsBacked old m → (id : ℕ) → (Contains p.moving id → ⊥) → (a : ℕ) → allocation_of old id ≡ Some a → (gone : Option ℕ) → IfLive old.pools a (λ x. IsEnded old.pools new.pools a x.home gone)
    → (q : ℕ) × (place : PoolPlace) × IsGivenBack old.pools new.pools a q place gone × ((mv : Moved) → Contains (open_moves p) mv → mv.id ≡ a → ⊥)
shared_ended p old new h m back id away a has gone ended =
    let s = back.shared id a has in (
      s.pool,
      s.place,
      subst (λ (l : Home). IsEnded old.pools new.pools a l gone) s.lies (live-holds old.pools a (λ x. IsEnded old.pools new.pools a x.home gone) ended s.allocation s.live),
      λ mv there is. let n = move_named p old h mv there in away (subst (λ (i : ℕ). Contains p.moving i) (back.one n.0 id a (n.2 ∙ ap (λ (j : ℕ). Some j) is) has) n.1),
    )

module _ (p : Passing) (old new : Backed) (h : ArePassing p old) where
  -- ---- memory objects and pools

  module _ (pools : new.pools ≡ old.pools) (numbers : new.numbers ≡ old.numbers) (allocations : new.allocations ≡ old.allocations) where
    same_passing : ArePassing p new
    same_passing =
        still_passing p old new h
        (λ i d is its. defrag_stays old new d (same_pools old.pools new.pools (ap (λ (s : PoolsState). s.pools) pools) d.pool) (λ i has. ap (λ (l : List (ℕ × ℕ)). number_in l i) numbers ∙ has) its)
        (λ m there. stays (allocation_at old.pools m.id) (allocation_at new.pools m.id) (λ x is. ap (λ (s : PoolsState). allocation_at s m.id) pools ∙ is))
        (same_held old.pools new.pools (ap (λ (s : PoolsState). s.allocations) pools))
        (λ k lt. ap (λ (l : List (ℕ × ℕ)). number_in l (get_or p.moving k 0)) allocations)

  pub owns_passing : (o : Option ℕ) (before after : MemoryState) (id t size : ℕ) → OwnsOr o old new before after id t size → OwnsAlone o old new id → ArePassing p new
  owns_passing (Some n) before after id t size owns alone = same_passing alone.1 owns.0.numbers owns.0.allocations
  owns_passing None before after id t size owns alone = subst (λ (b : Backed). ArePassing p b) (sym owns.0) h

  pub dedicates_passing : (o : Option ℕ) (before after : MemoryState) (id t size : ℕ) (asked : Asked) → OwnsOr o old new before after id t size → OwnsDedicated o old new before after id t asked → ArePassing p new
  dedicates_passing (Some n) before after id t size asked owns made =
      let state = made.2.state in
      still_passing p old new h
      (λ i d is its. defrag_stays old new d (same_pools old.pools new.pools (ap (λ (s : PoolsState). s.pools) state) d.pool) (λ i has. ap (λ (l : List (ℕ × ℕ)). number_in l i) owns.0.numbers ∙ has) its)
      (λ m there. more_stays old.pools new.pools _ (ap (λ (s : PoolsState). s.allocations) state) m.id)
      (more_held old.pools new.pools (new_allocation (home.Own (length before.objects)) asked) refl (ap (λ (s : PoolsState). s.allocations) state))
      (λ k lt. ap (λ (l : List (ℕ × ℕ)). number_in l (get_or p.moving k 0)) owns.0.allocations)
  dedicates_passing None before after id t size asked owns made = subst (λ (b : Backed). ArePassing p b) (sym owns.0) h

  pub makes_passing : (id : ℕ) (info : PoolInfo) → pool_of old id ≡ None → MakesPool old new id info → ArePassing p new
  makes_passing id info absent made =
      still_passing p old new h
      (λ i d is its. defrag_stays old new d (λ k at. (k, ap (λ (s : PoolsState). pool_at s d.pool) made.pools ∙ at-old old.pools.pools _ d.pool k at, refl))
      (λ i has. made.others i (λ e. let f = sym has ∙ ap (λ (j : ℕ). pool_of old j) e ∙ absent in cc) ∙ has) its)
      (λ m there. stays (allocation_at old.pools m.id) (allocation_at new.pools m.id) (λ x is. ap (λ (s : PoolsState). allocation_at s m.id) made.pools ∙ is))
      (same_held old.pools new.pools (ap (λ (s : PoolsState). s.allocations) made.pools))
      (λ k lt. ap (λ (l : List (ℕ × ℕ)). number_in l (get_or p.moving k 0)) made.allocations)

  -- the pool isn't that of a defragmentation
  pub drops_passing : (id : ℕ) → ((i : ℕ) (d : DefragState) → defrag_in p i ≡ Some d → pool_of old id ≡ Some d.pool → ⊥) → DropsPool old new id → ArePassing p new
  drops_passing id away gone =
      still_passing p old new h
      (λ i d is its. let apart : d.pool ≡ gone.number → ⊥ = λ (e : d.pool ≡ gone.number). away i d is (gone.named ∙ ap (λ (n : ℕ). Some n) (sym e)) in
      defrag_stays old new d (λ k at. (k, ap (λ (s : PoolsState). pool_at s d.pool) gone.pools ∙ at-other old.pools.pools gone.number d.pool None apart ∙ at, refl))
      (λ j has. gone.others j (λ e. away i d is (ap (λ (l : ℕ). pool_of old l) (sym e) ∙ has)) ∙ has) its)
      (λ m there. stays (allocation_at old.pools m.id) (allocation_at new.pools m.id) (λ x is. ap (λ (s : PoolsState). allocation_at s m.id) gone.pools ∙ is))
      (same_held old.pools new.pools (ap (λ (s : PoolsState). s.allocations) gone.pools))
      (λ k lt. ap (λ (l : List (ℕ × ℕ)). number_in l (get_or p.moving k 0)) gone.allocations)

  -- ---- resources

  pub shares_passing : (o : Option Spot) (before after : MemoryState) (id pool : ℕ) (asked : Asked) (upper : Bool) → allocation_of old id ≡ None → SharesOr o old new before after id pool asked upper → ArePassing p new
  shares_passing None before after id pool asked upper absent same = subst (λ (b : Backed). ArePassing p b) (sym same.0) h
  shares_passing (Some spot) before after id pool asked upper absent sh =
      let is = sh.shared in
      let info = (takes-gives is.was is.now before after (request_in (asked_on sh.kept.pool.info.memory_type asked)) upper (start_of is.place) is.takes).1.info ∙ given-info is.was.pool (request_in (asked_on sh.kept.pool.info.memory_type asked)) upper (start_of is.place) in
      still_passing p old new h
      (λ i d has its. defrag_stays old new d (other_pool old.pools new.pools sh.number is.was is.now is.there (ap (λ (s : PoolsState). s.pools) is.state) info d.pool) (λ i has. ap (λ (l : List (ℕ × ℕ)). number_in l i) sh.numbers ∙ has) its)
      (λ m there. more_stays old.pools new.pools _ (ap (λ (s : PoolsState). s.allocations) is.state) m.id)
      (more_held old.pools new.pools (new_allocation (home.Shared sh.number is.place) (asked_on sh.kept.pool.info.memory_type asked)) refl (ap (λ (s : PoolsState). s.allocations) is.state))
      (λ k lt. sh.others (get_or p.moving k 0) (λ e. let f = sym (h.movers.each k lt) ∙ ap (λ (j : ℕ). allocation_of old j) e ∙ absent in cc))

  -- how often an allocation is mapped
  pub maps_passing : (id : ℕ) (change : ℕ → ℕ) → Maps old new id change → ArePassing p new
  maps_passing id change maps = go (mapping_of old id) maps.counts
    where
      go : (o : Option ℕ) → Counts o change old new → ArePassing p new
      go None same = subst (λ (b : Backed). ArePassing p b) (sym same) h
      go (Some a) counts =
          let x = live-is old.pools a (λ x. new ≡ record old { pools = with_allocation old.pools a (record x { maps = change x.maps }) }) counts in
          let mapped : Allocation = record x.0 { maps = change x.0.maps } in
          let state : new.pools.allocations ≡ set old.pools.allocations a (Some mapped) = ap (λ (b : Backed). b.pools.allocations) x.2 in
          let at : (i : ℕ) → allocation_at new.pools i ≡ allocation_at (with_allocation old.pools a mapped) i = λ i. ap (λ (l : List (Option Allocation)). allocation_at (record old.pools { allocations = l }) i) state in
          let here : allocation_at new.pools a ≡ Some mapped = at a ∙ at-set old.pools.allocations a (Some mapped) (at-below old.pools.allocations a x.0 x.1) in
          let elsewhere : (i : ℕ) → (i ≡ a → ⊥) → allocation_at new.pools i ≡ allocation_at old.pools i = λ i other. at i ∙ at-other old.pools.allocations a i (Some mapped) other in
          still_passing p old new h
          (λ i d is its. defrag_stays old new d (same_pools old.pools new.pools (counted_pools old new a change counts) d.pool) (λ i has. ap (λ (l : List (ℕ × ℕ)). number_in l i) maps.numbers ∙ has) its)
          (λ m there. mapped_stays old new a change counts m.id)
          (λ i n place asked held. elim (cases_eq i a) [
            | inl e ↦ (let same = some-is mapped held.allocation (sym here ∙ ap (λ (j : ℕ). allocation_at new.pools j) (sym e) ∙ held.live) in
                record { allocation = x.0; live = ap (λ (j : ℕ). allocation_at old.pools j) e ∙ x.1; there = ap (λ (z : Allocation). held_place true z) same ∙ held.there; asks = ap (λ (z : Allocation). z.asked) same ∙ held.asks })
            | inr other ↦ record { allocation = held.allocation; live = sym (elsewhere i other) ∙ held.live; there = held.there; asks = held.asks }
          ])
          (λ k lt. ap (λ (l : List (ℕ × ℕ)). number_in l (get_or p.moving k 0)) maps.allocations)

  -- what doesn't move ends
  module _ (m : MemoryState) (back : IsBacked old m) (id : ℕ) (away : Contains p.moving id → ⊥) (after : MemoryState) (gone : Option ℕ) (ends : Releases old new m after id gone) where
    not_it : (k : ℕ) → k < length (open_moves p) → get_or p.moving k 0 ≡ id → ⊥
    not_it k lt e = away (k, omega (arith, lt, h.movers.long), get_or_default p.moving k id 0 (omega (arith, lt, h.movers.long)) ∙ e)

    named : (d : DefragState) (i : ℕ) → pool_of old i ≡ Some d.pool → pool_of new i ≡ Some d.pool
    named d i has = ap (λ (l : List (ℕ × ℕ)). number_in l i) ends.numbers ∙ has

    -- an allocation ends that doesn't move
    one_ends : (a : ℕ) (x : Allocation) → allocation_at old.pools a ≡ Some x → new.pools.allocations ≡ set old.pools.allocations a None → ((mv : Moved) → Contains (open_moves p) mv → mv.id ≡ a → ⊥)
        → ((n : ℕ) (k : Kept) → pool_at old.pools n ≡ Some k → (l : Kept) × (pool_at new.pools n ≡ Some l) × (l.pool.info ≡ k.pool.info)) → ArePassing p new
    one_ends a x live state apart kept =
        let at : (i : ℕ) → allocation_at new.pools i ≡ allocation_at (record old.pools { allocations = set old.pools.allocations a None }) i = λ i. ap (λ (l : List (Option Allocation)). allocation_at (record old.pools { allocations = l }) i) state in
        still_passing p old new h
        (λ i d is its. defrag_stays old new d (kept d.pool) (named d) its)
        (λ mv there. stays (allocation_at old.pools mv.id) (allocation_at new.pools mv.id) (λ y is. at mv.id ∙ at-other old.pools.allocations a mv.id None (apart mv there) ∙ is))
        (λ i n place asked held. elim (cases_eq i a) [
          | inl e ↦ absurd (let f = sym (at-set old.pools.allocations a None (at-below old.pools.allocations a x live)) ∙ sym (at a) ∙ ap (λ (j : ℕ). allocation_at new.pools j) (sym e) ∙ held.live in cc)
          | inr other ↦ record { allocation = held.allocation; live = sym (at-other old.pools.allocations a i None other) ∙ sym (at i) ∙ held.live; there = held.there; asks = held.asks }
        ])
        (λ k lt. ends.allocations (get_or p.moving k 0) (not_it k lt))

    -- nothing ends of pools
    none_ends : new.pools ≡ old.pools → ArePassing p new
    none_ends pools =
        still_passing p old new h
        (λ i d is its. defrag_stays old new d (same_pools old.pools new.pools (ap (λ (s : PoolsState). s.pools) pools) d.pool) (named d) its)
        (λ mv there. stays (allocation_at old.pools mv.id) (allocation_at new.pools mv.id) (λ x is. ap (λ (s : PoolsState). allocation_at s mv.id) pools ∙ is))
        (same_held old.pools new.pools (ap (λ (s : PoolsState). s.allocations) pools))
        (λ k lt. ends.allocations (get_or p.moving k 0) (not_it k lt))

    own_ends : (o : Own) → own_in old.owned id ≡ Some o → (a : Option ℕ) → o.allocation ≡ a → EndsOwn o.object a old.pools new.pools gone → ArePassing p new
    own_ends o is None e ended = none_ends ended.1
    own_ends o is (Some a) e ended =
        let x = own_ended p old new h m back id o is a e gone ended in let d = back.dedicated id a (dedicated_is old.owned id (Some o) is ∙ e) in
        one_ends a d.allocation d.live (ap (λ (s : PoolsState). s.allocations) x.0) x.1 (same_pools old.pools new.pools (ap (λ (s : PoolsState). s.pools) x.0))

    shared_ends : (a : ℕ) → allocation_of old id ≡ Some a → IfLive old.pools a (λ x. IsEnded old.pools new.pools a x.home gone) → ArePassing p new
    shared_ends a has ended =
        let x = shared_ended p old new h m back id away a has gone ended in let g = x.2 in let s = back.shared id a has in
        one_ends a s.allocation s.live (ap (λ (y : PoolsState). y.allocations) g.state) x.3 (other_pool old.pools new.pools x.0 g.was g.now g.there (ap (λ (y : PoolsState). y.pools) g.state) g.pool_is.info)

    pub releases_passing : ArePassing p new
    releases_passing = go (own_in old.owned id) (allocation_of old id) refl refl ends.ends
      where
        go : (o : Option Own) (a : Option ℕ) → own_in old.owned id ≡ o → allocation_of old id ≡ a → EndsIn o a old.pools new.pools gone → ArePassing p new
        go (Some o) a is has ended = own_ends o is o.allocation refl ended
        go None (Some a) is has ended = shared_ends a has ended
        go None None is has ended = none_ends ended.1
