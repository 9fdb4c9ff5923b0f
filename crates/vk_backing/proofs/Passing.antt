-- The open pass, and what stays of defragmentations where they change.
use Rattle.std.proofs.Common.{◌≡◌, ◌==◌, ℕ, ◌<◌, List, [], length, get_or, Bool, true, false, Option, Some, None, refl, sym, ap, subst, ◌∙◌, arith, inl, inr}
use Rattle.std.specs.Prelude.{Contains, if◌then◌else◌}
use Rattle.std.specs.Option.{option_and_then}
use Rattle.std.proofs.lemmas.Bool.{cases_eq, eq-eqb, ne_eqb}
use Rattle.std.proofs.lemmas.List.{get_or_default}
use Rattle.std.proofs.lemmas.List.Elements.{All-contains}
use Rattle.vk_model.specs.declared.resource.Spot.{Spot}
use Rattle.vk_model.specs.Memory.MoveTargets.{Moved}
use Rattle.vma_pools.specs.declared.allocations.Allocation.{Allocation}
use Rattle.vma_pools.specs.declared.allocations.Home.{Home}
use Rattle.vma_pools.specs.declared.allocations.Home.TheVariants as home
use Rattle.vma_pools.specs.declared.pool.PoolPlace.{PoolPlace}
use Rattle.vma_pools.specs.Pools.{IsMemoryOf}
use Rattle.vma_pools.specs.State.{allocation_at, reserved_place, IsSpotOf, IsTargetSpot}
use Rattle.vma_pools.proofs.CallLemmas.{kept-and, live-holds}
use Rattle.vma_pools.proofs.EndedLemmas.{kept-is}
use Rattle.vma_pools.proofs.StateLemmas.{some-is}
use Rattle.vk_memory.specs.MemoryState.{MemoryState}
use Rattle.vma_defrag.specs.State.{DefragState, moves_in}
use Rattle.vma_defrag.specs.Plans.{ArePlanned, IsMove}
use Rattle.vma_defrag.specs.Bytes.{no_move, MovesBetween}
use Rattle.vk_backing.specs.Backed.{Backed, allocation_of, IsBacked, IsStill, LiesIn}
use Rattle.vk_backing.specs.Passing.{Passing, defrag_in, open_defrag, open_moves, moves_by, moves_on, IsDefragOf, AreMovers, ArePassing}

-- ---- the open pass

pub open_is : (p : Passing) (i : ℕ) → p.opened ≡ Some i → open_defrag p ≡ defrag_in p i
open_is p i e = ap (λ (o : Option ℕ). option_and_then (defrag_in p) o) e

pub open_none : (p : Passing) → p.opened ≡ None → open_defrag p ≡ None
open_none p e = ap (λ (o : Option ℕ). option_and_then (defrag_in p) o) e

-- the open one is one of those that have begun
pub open_one : (p : Passing) (d : DefragState) → open_defrag p ≡ Some d → (i : ℕ) × (p.opened ≡ Some i) × (defrag_in p i ≡ Some d)
open_one p d e = go p.opened refl
  where
    go : (o : Option ℕ) → p.opened ≡ o → (i : ℕ) × (p.opened ≡ Some i) × (defrag_in p i ≡ Some d)
    go None is = absurd (let f = sym (open_none p is) ∙ e in cc)
    go (Some i) is = (i, is, sym (open_is p i is) ∙ e)

-- the same one is open
pub open_same : (old new : Passing) → new.opened ≡ old.opened → ((i : ℕ) → old.opened ≡ Some i → defrag_in new i ≡ defrag_in old i) → open_defrag new ≡ open_defrag old
open_same old new opened same = go old.opened refl
  where
    go : (o : Option ℕ) → old.opened ≡ o → open_defrag new ≡ open_defrag old
    go None is = open_none new (opened ∙ is) ∙ sym (open_none old is)
    go (Some i) is = open_is new i (opened ∙ is) ∙ same i is ∙ sym (open_is old i is)

-- the moves in its pool are those of the pass, and there are none elsewhere
pub moves_here : (d : DefragState) (n : ℕ) → d.pool ≡ n → moves_on n (Some d) ≡ moves_in d.current
moves_here d n e = ap (λ (v : Bool). if v then moves_in d.current else []) (eq-eqb d.pool n e)

pub moves_elsewhere : (d : DefragState) (n : ℕ) → (d.pool ≡ n → ⊥) → moves_on n (Some d) ≡ []
moves_elsewhere d n other = ap (λ (v : Bool). if v then moves_in d.current else []) (ne_eqb d.pool n other)

-- a move in a pool is one of the pass
pub among_moves : (o : Option DefragState) (n : ℕ) (m : Moved) → Contains (moves_on n o) m → Contains (moves_by o) m
among_moves None n m there = there
among_moves (Some d) n m there = go (d.pool == n) there
  where
    go : (v : Bool) → Contains (if v then moves_in d.current else []) m → Contains (moves_in d.current) m
    go true there = there
    go false there = absurd (omega (arith, there.1))

-- the pass of the open one is planned in its pool
pub open_planned : (p : Passing) (b : Backed) → ArePassing p b → (d : DefragState) → open_defrag p ≡ Some d → ArePlanned b.pools d.pool (moves_in d.current)
open_planned p b h d is =
    subst (λ (ms : List Moved). ArePlanned b.pools d.pool ms) (moves_here d d.pool refl)
    (subst (λ (o : Option DefragState). ArePlanned b.pools d.pool (moves_on d.pool o)) is (h.planned d.pool))

-- each of its moves is one in its pool
pub move_is : (p : Passing) (b : Backed) → ArePassing p b → (m : Moved) → Contains (open_moves p) m → (n : ℕ) × IsMove b.pools n m
move_is p b h m there = go (open_defrag p) refl there
  where
    go : (o : Option DefragState) → open_defrag p ≡ o → Contains (moves_by o) m → (n : ℕ) × IsMove b.pools n m
    go None e there = absurd (omega (arith, there.1))
    go (Some d) e there = (d.pool, All-contains (IsMove b.pools d.pool) (moves_in d.current) m (open_planned p b h d e).each there)

-- ---- other defragmentations, or others of them

module _ (old new : Passing) (b : Backed) (h : ArePassing old b) (opened : new.opened ≡ old.opened) (moving : new.moving ≡ old.moving) where
  module _ (same : (i : ℕ) → old.opened ≡ Some i → defrag_in new i ≡ defrag_in old i) where
    is_same : open_defrag new ≡ open_defrag old
    is_same = open_same old new opened same

    pub still_open : ((i : ℕ) (d : DefragState) → defrag_in new i ≡ Some d → IsDefragOf b d × ((new.opened ≡ Some i → ⊥) → d.current ≡ None)) → ArePassing new b
    still_open each = record {
      pools = λ i d is. (each i d is).0;
      closed = λ i d is shut. (each i d is).1 shut;
      opened = λ i is. (let was = opened_was i is in let o = h.opened i was in (o.0, same i was ∙ o.1, o.2));
      planned = λ n. subst (λ (o : Option DefragState). ArePlanned b.pools n (moves_on n o)) (sym is_same) (h.planned n);
      movers = subst (λ (o : Option DefragState). AreMovers b new.moving (moves_by o)) (sym is_same) (subst (λ (ids : List ℕ). AreMovers b ids (open_moves old)) (sym moving) h.movers);
    }
      where
        opened_was : (i : ℕ) → new.opened ≡ Some i → old.opened ≡ Some i
        opened_was i is = sym opened ∙ is

  -- one has begun
  pub begun_passing : (id : ℕ) → defrag_in old id ≡ None → (d : DefragState) → IsDefragOf b d → d.current ≡ None → defrag_in new id ≡ Some d → ((i : ℕ) → (i ≡ id → ⊥) → defrag_in new i ≡ defrag_in old i) → ArePassing new b
  begun_passing id absent d its none here others = still_open (λ i is. others i (λ e. away i is e)) each
    where
      away : (i : ℕ) → old.opened ≡ Some i → i ≡ id → ⊥
      away i is e = let o = h.opened i is in let f = sym o.1 ∙ ap (λ (j : ℕ). defrag_in old j) e ∙ absent in cc

      each : (i : ℕ) (x : DefragState) → defrag_in new i ≡ Some x → IsDefragOf b x × ((new.opened ≡ Some i → ⊥) → x.current ≡ None)
      each i x is = elim (cases_eq i id) [
        | inl e ↦ (let same = some-is d x (sym here ∙ ap (λ (j : ℕ). defrag_in new j) (sym e) ∙ is) in
            (subst (λ (y : DefragState). IsDefragOf b y) same its, λ shut. subst (λ (y : DefragState). y.current ≡ None) same none))
        | inr other ↦ (let was = sym (others i other) ∙ is in (h.pools i x was, λ shut. h.closed i x was (λ o. shut (opened ∙ o))))
      ]

  -- one has ended
  pub less_passing : (id : ℕ) → (old.opened ≡ Some id → ⊥) → defrag_in new id ≡ None → ((i : ℕ) → (i ≡ id → ⊥) → defrag_in new i ≡ defrag_in old i) → ArePassing new b
  less_passing id shut gone others = still_open (λ i is. others i (λ e. shut (is ∙ ap (λ (j : ℕ). Some j) e))) each
    where
      each : (i : ℕ) (x : DefragState) → defrag_in new i ≡ Some x → IsDefragOf b x × ((new.opened ≡ Some i → ⊥) → x.current ≡ None)
      each i x is = elim (cases_eq i id) [
        | inl e ↦ absurd (let f = sym gone ∙ ap (λ (j : ℕ). defrag_in new j) (sym e) ∙ is in cc)
        | inr other ↦ (let was = sym (others i other) ∙ is in (h.pools i x was, λ shut. h.closed i x was (λ o. shut (opened ∙ o))))
      ]

-- ---- what doesn't move

-- a move by its allocation is that of a resource that moves
pub move_named : (p : Passing) (b : Backed) → ArePassing p b → (m : Moved) → Contains (open_moves p) m → (id : ℕ) × Contains p.moving id × (allocation_of b id ≡ Some m.id)
move_named p b h m there =
    let k = there.0 in
    let is : get_or (open_moves p) k no_move ≡ m = get_or_default (open_moves p) k no_move m there.1 ∙ there.2 in
    (get_or p.moving k 0, (k, omega (arith, there.1, h.movers.long), get_or_default p.moving k (get_or p.moving k 0) 0 (omega (arith, there.1, h.movers.long))), h.movers.each k there.1 ∙ ap (λ (x : Moved). Some x.id) is)

pub still_id : (p : Passing) (b : Backed) (m : MemoryState) → IsBacked b m → ArePassing p b → (id : ℕ) → (Contains p.moving id → ⊥) → IsStill b id
still_id p b m back h id away a x has live = go x.target refl
  where
    go : (t : Option PoolPlace) → x.target ≡ t → x.target ≡ None
    go None e = e
    go (Some u) e =
        let s = back.shared id a has in
        let same = some-is s.allocation x (sym s.live ∙ live) in
        let lies : x.home ≡ home.Shared s.pool s.place = ap (λ (y : Allocation). y.home) (sym same) ∙ s.lies in
        let any = (h.planned s.pool).only a u x.asked (record {
          allocation = x;
          live = live;
          there = ap (λ (l : Home). reserved_place l x.target) lies ∙ ap (λ (t : Option PoolPlace). reserved_place (home.Shared s.pool s.place) t) e;
          asks = refl;
        }) in
        let named = move_named p b h any.1 (among_moves (open_defrag p) s.pool any.1 (any.0, any.2, any.3)) in
        let one = back.one named.0 id a (named.2 ∙ ap (λ (n : ℕ). Some n) any.4) has in
        absurd (away (subst (λ (i : ℕ). Contains p.moving i) one named.1))

-- ---- where resources lie

-- a resource lies where its allocation does
pub spot_lies : (b : Backed) (id n : ℕ) → allocation_of b id ≡ Some n → (a : Allocation) → allocation_at b.pools n ≡ Some a → (p : ℕ) (place : PoolPlace) → a.home ≡ home.Shared p place → (spot : Spot) → IsSpotOf b.pools a.home a.asked spot → LiesIn b id p spot
spot_lies b id n has a live p place lies spot is =
    let k = kept-is b.pools p (λ k. IsMemoryOf k place.block spot.memory × (spot.offset ≡ place.start) × (spot.size ≡ a.asked.size)) (subst (λ (l : Home). IsSpotOf b.pools l a.asked spot) lies is) in
    record { number = n; has = has; allocation = a; live = live; place = place; lies = lies; kept = k.0; there = k.1; memory = k.2.0; offset = k.2.1; size = k.2.2 }

pub lies_spot : (b : Backed) (id p : ℕ) (spot : Spot) (l : LiesIn b id p spot) → IsSpotOf b.pools l.allocation.home l.allocation.asked spot
lies_spot b id p spot l =
    subst (λ (h : Home). IsSpotOf b.pools h l.allocation.asked spot) (sym l.lies)
    (kept-and b.pools p l.kept (λ k. IsMemoryOf k l.place.block spot.memory × (spot.offset ≡ l.place.start) × (spot.size ≡ l.allocation.asked.size)) l.there (l.memory, l.offset, l.size))

-- what moves lies where its move comes from
pub mover_lies : (p : Passing) (b : Backed) → ArePassing p b → (d : DefragState) → open_defrag p ≡ Some d → (k : ℕ) → k < length (moves_in d.current) → (from to : Spot) → MovesBetween b.pools (get_or (moves_in d.current) k no_move).id from to → LiesIn b (get_or p.moving k 0) d.pool from
mover_lies p b h d is k lt from to between =
    let m = get_or (moves_in d.current) k no_move in
    let its = (open_planned p b h d is).each k no_move lt in
    let spots = live-holds b.pools m.id (λ a. IsSpotOf b.pools a.home a.asked from × IsTargetSpot b.pools a.home a.target a.asked to) between its.allocation its.live in
    let movers = subst (λ (o : Option DefragState). AreMovers b p.moving (moves_by o)) is h.movers in
    spot_lies b (get_or p.moving k 0) m.id (movers.each k lt) its.allocation its.live d.pool its.from its.lies from spots.0
