-- The pool of a device when moves have ended and resources are destroyed, one after another.
use Rattle.std.proofs.Common.{◌≡◌, ℕ, List, [], ◌∷◌, ◌++◌, map, set, Bool, true, false, ◌==◌, ◌||◌, not, Option, Some, None, refl, sym, ap, subst, ◌∙◌, inl, inr, ◌⊎◌}
use Rattle.std.specs.Prelude.{Contains, if◌then◌else◌, ⊤}
use Rattle.std.specs.Option.{option_and_then}
use Rattle.std.specs.List.{filter, filter_map, cons_option, fold}
use Rattle.std.proofs.lemmas.Bool.{cases_eq, ne_eqb, eq-eqb}
use Rattle.std.proofs.lemmas.List.Elements.{All-head}
use Rattle.vk_memory.specs.MemoryState.{MemoryState}
use Rattle.vk_model.specs.Basics.{among}
use Rattle.vk_model.specs.Memory.MoveTargets.{BlockStart, Resident, Moved}
use Rattle.vk_model.specs.Memory.Pools.{Pool, pool_without}
use Rattle.vk_model.specs.Memory.Allocations.{PoolMemory, moved_to, move_ended, without_resident}
use Rattle.vk_model.proofs.Lists.Members.{none_in, contains-cons, contains-head, contains-tail}
use Rattle.vma_pools.specs.declared.pool.PoolPlace.{PoolPlace}
use Rattle.vma_pools.specs.declared.allocations.Allocation.{Allocation}
use Rattle.vma_pools.specs.declared.allocations.Home.{Home}
use Rattle.vma_pools.specs.declared.allocations.Home.TheVariants as home
use Rattle.vma_pools.specs.Alike.{IsAlikePool}
use Rattle.vma_pools.specs.Pools.{Kept}
use Rattle.vma_pools.specs.State.{PoolsState, pool_at, allocation_at, start_of, request_in, IfLive, IsEnded, IsGivenBack, LosesBlock}
use Rattle.vma_pools.specs.Moves.{IsSettled}
use Rattle.vma_pools.proofs.NumberLemmas.{at-below, at-set, at-other}
use Rattle.vma_pools.proofs.PoolAlike.{pool-trans, alike-pool_without}
use Rattle.vma_pools.proofs.StateLemmas.{some-is}
use Rattle.vma_pools.proofs.EndedLemmas.{live-is}
use Rattle.vma_defrag.specs.Plans.{ArePlanned, IsMove}
use Rattle.vma_defrag.specs.Ends.{listed, Settles, MovesEnd, AllEnd}
use Rattle.vma_defrag.proofs.Settles.{settled_is, settled_planned}
use Rattle.vk_backing.specs.Backed.{Backed, allocation_of, IsBacked, IsWhole}
use Rattle.vk_backing.specs.Allotted.{resident_at, resident_of}
use Rattle.vk_backing.proofs.Keyed.{picked_map, left_none, left_other}
use Rattle.vk_backing.proofs.Cleared.{Shrinks, shrinks_more, shrinks_one}
use Rattle.vk_backing.proofs.Naming.{name, renamed_move}

-- ---- allocations that lie in a pool, if they live

abbrev pub MayLieIn : ℕ → Option Allocation → Type 0
MayLieIn p None = ⊤
MayLieIn p (Some x) = (place : PoolPlace) × (x.home ≡ home.Shared p place)

-- an allocation is the same, or lies in the pool before and after
abbrev pub Turns : ℕ → Option Allocation → Option Allocation → Type 0
Turns p o u = (u ≡ o) ⊎ (MayLieIn p o × MayLieIn p u)

turns_trans : (p : ℕ) (a b c : Option Allocation) → Turns p a b → Turns p b c → Turns p a c
turns_trans p a b c (inl e) (inl f) = inl (f ∙ e)
turns_trans p a b c (inl e) (inr y) = inr (subst (MayLieIn p) e y.0, y.1)
turns_trans p a b c (inr x) (inl f) = inr (x.0, subst (MayLieIn p) (sym f) x.1)
turns_trans p a b c (inr x) (inr y) = inr (x.0, y.1)

pub turned_lies : (p : ℕ) (o u : Option Allocation) → Turns p o u → MayLieIn p o → MayLieIn p u
turned_lies p o u (inl e) lies = subst (MayLieIn p) (sym e) lies
turned_lies p o u (inr x) lies = x.1

none_there : (p t r : ℕ) (o : Option Allocation) → (t ≡ p → ⊥) → MayLieIn p o → resident_of t r o ≡ []
none_there p t r None away lies = refl
none_there p t r (Some x) away lies =
    ap (λ (l : Home). resident_at t r x.asked l) lies.1
    ∙ ap (λ (v : Bool). if v then record { id = r; from = start_of lies.0; request = request_in x.asked } ∷ [] else []) (ne_eqb p t (λ e. away (sym e)))

-- in other pools all lies as before
pub turned_elsewhere : (p t r : ℕ) (o u : Option Allocation) → (t ≡ p → ⊥) → Turns p o u → resident_of t r o ≡ resident_of t r u
turned_elsewhere p t r o u away (inl e) = ap (λ (x : Option Allocation). resident_of t r x) (sym e)
turned_elsewhere p t r o u away (inr x) = none_there p t r o away x.0 ∙ sym (none_there p t r u away x.1)

resident_lies : (p r : ℕ) (x : Allocation) (place : PoolPlace) → x.home ≡ home.Shared p place → resident_of p r (Some x) ≡ record { id = r; from = start_of place; request = request_in x.asked } ∷ []
resident_lies p r x place lies =
    ap (λ (l : Home). resident_at p r x.asked l) lies
    ∙ ap (λ (v : Bool). if v then record { id = r; from = start_of place; request = request_in x.asked } ∷ [] else []) (eq-eqb p p refl)

-- ---- the allocation of a resource, by what pools are then

abbrev pub found_by : Backed → PoolsState → ℕ → Option Allocation
found_by b s j = option_and_then (allocation_at s) (allocation_of b j)

-- a resource is among others as its allocation is among theirs
pub among_numbers : (b : Backed) (i a : ℕ) → allocation_of b i ≡ Some a → ((j : ℕ) → allocation_of b j ≡ Some a → j ≡ i) → (ids : List ℕ) → among i ids ≡ among a (filter_map (allocation_of b) ids)
among_numbers b i a has one [] = refl
among_numbers b i a has one (j ∷ js) = go (allocation_of b j) refl (among_numbers b i a has one js)
  where
    numbers : List ℕ
    numbers = filter_map (allocation_of b) js

    both : (v w : Bool) → v ≡ w → among i js ≡ among a numbers → (v || among i js) ≡ (w || among a numbers)
    both v w e rest = ap (λ (x : Bool). x || among i js) e ∙ ap (λ (x : Bool). w || x) rest

    go : (o : Option ℕ) → allocation_of b j ≡ o → among i js ≡ among a numbers → (i == j || among i js) ≡ among a (cons_option (allocation_of b j) numbers)
    go None e rest =
        both (i == j) false (ne_eqb i j (λ same. let f = sym has ∙ ap (λ (k : ℕ). allocation_of b k) same ∙ e in cc)) rest
        ∙ ap (λ (o : Option ℕ). among a (cons_option o numbers)) (sym e)
    go (Some v) e rest =
        both (i == j) (a == v) (elim (cases_eq v a) [
          | inl is ↦ eq-eqb i j (sym (one j (e ∙ ap (λ (k : ℕ). Some k) is))) ∙ sym (eq-eqb a v (sym is))
          | inr other ↦ ne_eqb i j (λ same. other (some-is v a (sym e ∙ ap (λ (k : ℕ). allocation_of b k) (sym same) ∙ has))) ∙ sym (ne_eqb a v (λ is. other (sym is)))
        ]) rest
        ∙ ap (λ (o : Option ℕ). among a (cons_option o numbers)) (sym e)

-- ---- the pool of a device is as the pool that is kept

pub record EndsAll (b : Backed) (s t : PoolsState) (p : ℕ) (k : Kept) (q r : PoolMemory) (gone : List ℕ) : Type 0 where
  pub now : Kept
  pub there : pool_at t p ≡ Some now
  pub alike : IsAlikePool r.pool now.pool
  pub shrinks : Shrinks k.memories gone now.memories
  pub others : (u : ℕ) → (u ≡ p → ⊥) → pool_at t u ≡ pool_at s u
  pub turns : (i : ℕ) → Turns p (allocation_at s i) (allocation_at t i)
  pub residents : (j : ℕ) → filter (λ a. a.id == j) r.residents ≡ resident_of p j (found_by b t j)
  pub id : r.id ≡ q.id
  pub info : r.pool.info ≡ q.pool.info
  pub moves : r.moves ≡ q.moves

ends_none : (b : Backed) (s t : PoolsState) (p : ℕ) (k : Kept) (q : PoolMemory) (gone : List ℕ) → t ≡ s → gone ≡ [] → pool_at s p ≡ Some k → IsAlikePool q.pool k.pool → ((j : ℕ) → filter (λ a. a.id == j) q.residents ≡ resident_of p j (found_by b s j)) → EndsAll b s t p k q q gone
ends_none b s t p k q gone same none at alike are =
    subst (λ (x : PoolsState). EndsAll b s x p k q q gone) (sym same)
    (subst (λ (l : List ℕ). EndsAll b s s p k q q l) (sym none)
    (record { now = k; there = at; alike = alike; shrinks = refl; others = λ u other. refl; turns = λ i. inl refl; residents = are; id = refl; info = refl; moves = refl }))

pub ends_more : (b : Backed) (s t u : PoolsState) (p : ℕ) (k : Kept) (q r w : PoolMemory) (xs ys : List ℕ) → (h : EndsAll b s t p k q r xs) → EndsAll b t u p h.now r w ys → EndsAll b s u p k q w (xs ++ ys)
ends_more b s t u p k q r w xs ys h more = record {
  now = more.now;
  there = more.there;
  alike = more.alike;
  shrinks = shrinks_more xs ys k.memories h.now.memories more.now.memories h.shrinks more.shrinks;
  others = λ v other. more.others v other ∙ h.others v other;
  turns = λ i. turns_trans p (allocation_at s i) (allocation_at t i) (allocation_at u i) (h.turns i) (more.turns i);
  residents = more.residents;
  id = more.id ∙ h.id;
  info = more.info ∙ h.info;
  moves = more.moves ∙ h.moves;
}

-- what has ended stays so, and the allocations of these resources have
pub record AreGone (b : Backed) (s t : PoolsState) (ids : List ℕ) : Type 0 where
  pub stay : (a : ℕ) → allocation_at s a ≡ None → allocation_at t a ≡ None
  pub each : (i a : ℕ) → Contains ids i → allocation_of b i ≡ Some a → allocation_at t a ≡ None

-- ---- one place is given back

module _ (b : Backed) (s t : PoolsState) (p : ℕ) (was now : Kept) (there : pool_at s p ≡ Some was) (i : ℕ) (x : Allocation) (live : allocation_at s i ≡ Some x) (o : Option Allocation)
    (state : t ≡ record { pools = set s.pools p (Some now); allocations = set s.allocations i o }) where
  here_after : allocation_at t i ≡ o
  here_after = ap (λ (y : PoolsState). allocation_at y i) state ∙ at-set s.allocations i o (at-below s.allocations i x live)

  other_after : (j : ℕ) → (j ≡ i → ⊥) → allocation_at t j ≡ allocation_at s j
  other_after j other = ap (λ (y : PoolsState). allocation_at y j) state ∙ at-other s.allocations i j o other

  module _ (r : ℕ) (has : allocation_of b r ≡ Some i) (one : (j : ℕ) → allocation_of b j ≡ Some i → j ≡ r) where
    found_before : found_by b s r ≡ Some x
    found_before = ap (λ (y : Option ℕ). option_and_then (allocation_at s) y) has ∙ live

    found_after : found_by b t r ≡ o
    found_after = ap (λ (y : Option ℕ). option_and_then (allocation_at t) y) has ∙ here_after

    found_other : (j : ℕ) → (j ≡ r → ⊥) → found_by b t j ≡ found_by b s j
    found_other j other = go (allocation_of b j) refl
      where
        go : (y : Option ℕ) → allocation_of b j ≡ y → option_and_then (allocation_at t) y ≡ option_and_then (allocation_at s) y
        go None e = refl
        go (Some n) e = other_after n (λ is. other (one j (e ∙ ap (λ (k : ℕ). Some k) is)))

  module _ (lies : MayLieIn p (Some x)) (lies_now : MayLieIn p o) (back : BlockStart) (pool_is : IsAlikePool (pool_without was.pool back) now.pool) (gone : Option ℕ) (objects : LosesBlock gone was now)
      (k : Kept) (at : pool_at s p ≡ Some k) (q w : PoolMemory) (alike : IsAlikePool q.pool k.pool) (pool : w.pool ≡ pool_without q.pool back) (id : w.id ≡ q.id) (moves : w.moves ≡ q.moves)
      (residents : (j : ℕ) → filter (λ a. a.id == j) w.residents ≡ resident_of p j (found_by b t j)) where
    was_is : was ≡ k
    was_is = some-is was k (sym there ∙ at)

    given_back : EndsAll b s t p k q w (listed gone)
    given_back = record {
      now = now;
      there = ap (λ (y : PoolsState). pool_at y p) state ∙ at-set s.pools p (Some now) (at-below s.pools p was there);
      alike = subst (λ (y : Pool). IsAlikePool y now.pool) (sym pool)
          (pool-trans (pool_without q.pool back) (pool_without k.pool back) now.pool (alike-pool_without q.pool k.pool alike back) (subst (λ (c : Kept). IsAlikePool (pool_without c.pool back) now.pool) was_is pool_is));
      shrinks = subst (λ (c : Kept). Shrinks c.memories (listed gone) now.memories) was_is (shrinks_one gone was now objects);
      others = λ u other. ap (λ (y : PoolsState). pool_at y u) state ∙ at-other s.pools p u (Some now) other;
      turns = λ j. elim (cases_eq j i) [
        | inl e ↦ subst (λ (n : ℕ). Turns p (allocation_at s n) (allocation_at t n)) (sym e) (inr (subst (MayLieIn p) (sym live) lies, subst (MayLieIn p) (sym here_after) lies_now))
        | inr other ↦ inl (other_after j other)
      ];
      residents = residents;
      id = id;
      info = ap (λ (y : Pool). y.info) pool;
      moves = moves;
    }

-- ---- a move ends

moved_id : (m : Moved) (a : Resident) → (moved_to m a).id ≡ a.id
moved_id m a = go (a.id == m.id)
  where
    go : (v : Bool) → (if v then record a { from = m.to } else a).id ≡ a.id
    go true = refl
    go false = refl

moved_here : (m : Moved) (a : Resident) → a.id ≡ m.id → moved_to m a ≡ record a { from = m.to }
moved_here m a is = ap (λ (v : Bool). if v then record a { from = m.to } else a) (eq-eqb a.id m.id is)

moved_none : (m : Moved) (p j : ℕ) → (j ≡ m.id → ⊥) → (o : Option Allocation) → map (moved_to m) (resident_of p j o) ≡ resident_of p j o
moved_none m p j other None = refl
moved_none m p j other (Some x) = at_home x.home
  where
    at_home : (l : Home) → map (moved_to m) (resident_at p j x.asked l) ≡ resident_at p j x.asked l
    at_home (home.Own n) = refl
    at_home (home.Shared q place) = go (q == p)
      where
        a : Resident
        a = record { id = j; from = start_of place; request = request_in x.asked }

        go : (v : Bool) → map (moved_to m) (if v then a ∷ [] else []) ≡ (if v then a ∷ [] else [])
        go true = ap (λ (v : Bool). (if v then record a { from = m.to } else a) ∷ []) (ne_eqb j m.id other)
        go false = refl

module _ (b : Backed) (m : MemoryState) (h : IsBacked b m) (whole : IsWhole b) (p : ℕ) where
  abbrev as_moved : Moved → Moved
  as_moved x = renamed_move b m h whole x

  module _ (s mid : PoolsState) (k : Kept) (q : PoolMemory) (at : pool_at s p ≡ Some k) (alike : IsAlikePool q.pool k.pool) (are : (j : ℕ) → filter (λ a. a.id == j) q.residents ≡ resident_of p j (found_by b s j)) (gone : Option ℕ) where
    module _ (n : Moved) (its : IsMove s p n) (has : allocation_of b (name b m h whole n.id) ≡ Some n.id) where
      abbrev r : ℕ
      r = name b m h whole n.id

      abbrev x : Allocation
      x = its.allocation

      one : (j : ℕ) → allocation_of b j ≡ Some n.id → j ≡ r
      one j mine = h.one j r n.id mine has

      its_resident : filter (λ a. a.id == r) q.residents ≡ record { id = r; from = start_of its.from; request = request_in x.asked } ∷ []
      its_resident =
          are r ∙ ap (λ (o : Option Allocation). resident_of p r o) (ap (λ (y : Option ℕ). option_and_then (allocation_at s) y) has ∙ its.live)
          ∙ resident_lies p r x its.from its.lies

      abbrev without_target : PoolMemory
      without_target = record q { pool = pool_without q.pool n.to }

      cancelled : IsSettled s mid n.id x p its.target its.from gone → EndsAll b s mid p k q without_target (listed gone)
      cancelled g =
          let after : Allocation = record x { home = home.Shared p its.from; target = None } in
          let before = found_before b s mid p g.was g.now g.there n.id x its.live (Some after) g.state r has one in
          let now = found_after b s mid p g.was g.now g.there n.id x its.live (Some after) g.state r has one in
          given_back b s mid p g.was g.now g.there n.id x its.live (Some after) g.state (its.from, its.lies) (its.from, refl) n.to
          (subst (λ (y : BlockStart). IsAlikePool (pool_without g.was.pool y) g.now.pool) its.to g.pool_is) gone g.objects k at q without_target alike refl refl refl
          (λ j. are j ∙ elim (cases_eq j r) [
            | inl e ↦ subst (λ (i : ℕ). resident_of p i (found_by b s i) ≡ resident_of p i (found_by b mid i)) (sym e)
                (ap (λ (o : Option Allocation). resident_of p r o) before ∙ resident_lies p r x its.from its.lies ∙ sym (resident_lies p r after its.from refl) ∙ sym (ap (λ (o : Option Allocation). resident_of p r o) now))
            | inr other ↦ ap (λ (o : Option Allocation). resident_of p j o) (sym (found_other b s mid p g.was g.now g.there n.id x its.live (Some after) g.state r has one j other))
          ])

      abbrev moved : PoolMemory
      moved = record q { pool = fold (λ p a. pool_without p a.from) q.pool (filter (λ a. a.id == r) q.residents); residents = map (moved_to (as_moved n)) q.residents }

      made : IsSettled s mid n.id x p its.from its.target gone → EndsAll b s mid p k q moved (listed gone)
      made g =
          let after : Allocation = record x { home = home.Shared p its.target; target = None } in
          let now = found_after b s mid p g.was g.now g.there n.id x its.live (Some after) g.state r has one in
          given_back b s mid p g.was g.now g.there n.id x its.live (Some after) g.state (its.from, its.lies) (its.target, refl) (start_of its.from) g.pool_is gone g.objects k at q moved alike
          (ap (λ (l : List Resident). fold (λ p a. pool_without p a.from) q.pool l) its_resident) refl refl
          (λ j. picked_map (λ (a : Resident). a.id) (moved_to (as_moved n)) (moved_id (as_moved n)) j q.residents ∙ elim (cases_eq j r) [
            | inl e ↦ subst (λ (i : ℕ). map (moved_to (as_moved n)) (filter (λ a. a.id == i) q.residents) ≡ resident_of p i (found_by b mid i)) (sym e)
                (ap (λ (l : List Resident). map (moved_to (as_moved n)) l) its_resident
                ∙ ap (λ (a : Resident). a ∷ []) (moved_here (as_moved n) (record { id = r; from = start_of its.from; request = request_in x.asked }) refl)
                ∙ ap (λ (y : BlockStart). record { id = r; from = y; request = request_in x.asked } ∷ []) (sym its.to)
                ∙ sym (resident_lies p r after its.target refl) ∙ sym (ap (λ (o : Option Allocation). resident_of p r o) now))
            | inr other ↦ ap (λ (l : List Resident). map (moved_to (as_moved n)) l) (are j) ∙ moved_none (as_moved n) p j other (found_by b s j)
                ∙ ap (λ (o : Option Allocation). resident_of p j o) (sym (found_other b s mid p g.was g.now g.there n.id x its.live (Some after) g.state r has one j other))
          ])

      settles : (v : Bool) → IfLive s n.id (Settles v s n mid gone) → EndsAll b s mid p k q (if v then without_target else moved) (listed gone)
      unfolding settled_is
      settles true ends = cancelled (settled_is true s mid p n gone its ends).2
      settles false ends = made (settled_is false s mid p n gone its ends).2

    -- ---- a resource ends

    module _ (i a : ℕ) (has : allocation_of b i ≡ Some a) (x : Allocation) (live : allocation_at s a ≡ Some x) (place : PoolPlace) (lies : x.home ≡ home.Shared p place) (g : IsGivenBack s mid a p place gone) where
      only : (j : ℕ) → allocation_of b j ≡ Some a → j ≡ i
      only j mine = h.one j i a mine has

      ended : EndsAll b s mid p k q (without_resident i q) (listed gone)
      ended =
          let before = found_before b s mid p g.was g.now g.there a x live None g.state i has only in
          let now = found_after b s mid p g.was g.now g.there a x live None g.state i has only in
          given_back b s mid p g.was g.now g.there a x live None g.state (place, lies) tt (start_of place) g.pool_is gone g.objects k at q (without_resident i q) alike
          (ap (λ (l : List Resident). fold (λ p a. pool_without p a.from) q.pool l) (are i ∙ ap (λ (o : Option Allocation). resident_of p i o) before ∙ resident_lies p i x place lies)) refl refl
          (λ j. elim (cases_eq j i) [
            | inl e ↦ subst (λ (l : ℕ). filter (λ a. a.id == l) (filter (λ a. not (a.id == i)) q.residents) ≡ resident_of p l (found_by b mid l)) (sym e)
                (left_none (λ (a : Resident). a.id) i q.residents ∙ sym (ap (λ (o : Option Allocation). resident_of p i o) now))
            | inr other ↦ left_other (λ (a : Resident). a.id) j i q.residents other ∙ are j
                ∙ ap (λ (o : Option Allocation). resident_of p j o) (sym (found_other b s mid p g.was g.now g.there a x live None g.state i has only j other))
          ])

  -- ---- one after another

  pub end_moves : (kept ignored : List ℕ) (ms : List Moved) (s t : PoolsState) (k : Kept) (q : PoolMemory) (gone : List ℕ) → ArePlanned s p ms → MovesEnd kept s ms t gone
      → ((n : Moved) → Contains ms n → (allocation_of b (name b m h whole n.id) ≡ Some n.id) × (among (name b m h whole n.id) ignored ≡ among n.id kept))
      → pool_at s p ≡ Some k → IsAlikePool q.pool k.pool → ((j : ℕ) → filter (λ a. a.id == j) q.residents ≡ resident_of p j (found_by b s j)) → EndsAll b s t p k q (fold (move_ended ignored) q (map as_moved ms)) gone
  end_moves kept ignored [] s t k q gone plan ends of at alike are = ends_none b s t p k q gone ends.0 ends.1 at alike are
  end_moves kept ignored (n ∷ ns) s t k q gone plan (mid, one, rest, first, later, e) of at alike are =
      let its = All-head (IsMove s p) n ns plan.each in
      let known = of n (contains-head n ns) in
      let g = settled_is (among n.id kept) s mid p n one its first in
      let w : PoolMemory = move_ended ignored q (as_moved n) in
      let step : EndsAll b s mid p k q w (listed one) =
      subst (λ (v : Bool). EndsAll b s mid p k q (if v then without_target s mid k q at alike are one n its known.0 else moved s mid k q at alike are one n its known.0) (listed one)) (sym known.1)
      (settles s mid k q at alike are one n its known.0 (among n.id kept) first) in
      let more = end_moves kept ignored ns mid t step.now w rest (settled_planned s mid p n its.allocation its.live g.0 g.1 one g.2 ns plan) later (λ y there. of y (contains-tail n ns y there)) step.there step.alike step.residents in
      subst (λ (l : List ℕ). EndsAll b s t p k q (fold (move_ended ignored) q (map as_moved (n ∷ ns))) l) (sym e) (ends_more b s mid t p k q w (fold (move_ended ignored) w (map as_moved ns)) (listed one) rest step more)

  pub end_resources : (ids : List ℕ) (s t : PoolsState) (k : Kept) (q : PoolMemory) (gone : List ℕ) → AllEnd s (filter_map (allocation_of b) ids) t gone
      → ((i : ℕ) → Contains ids i → (a : ℕ) × (allocation_of b i ≡ Some a) × MayLieIn p (allocation_at s a))
      → pool_at s p ≡ Some k → IsAlikePool q.pool k.pool → ((j : ℕ) → filter (λ a. a.id == j) q.residents ≡ resident_of p j (found_by b s j)) → EndsAll b s t p k q (fold (λ o i. without_resident i o) q ids) gone × AreGone b s t ids
  end_resources [] s t k q gone ends of at alike are = (
    ends_none b s t p k q gone ends.0 ends.1 at alike are,
    record { stay = λ a none. ap (λ (y : PoolsState). allocation_at y a) ends.0 ∙ none; each = λ i a there has. absurd (none_in i there) },
  )
  end_resources (i ∷ ids) s t k q gone ends of at alike are =
      let its = of i (contains-head i ids) in
      let a : ℕ = its.0 in
      let chain : AllEnd s (a ∷ filter_map (allocation_of b) ids) t gone = subst (λ (o : Option ℕ). AllEnd s (cons_option o (filter_map (allocation_of b) ids)) t gone) its.1 ends in
      let mid = chain.0 in let one = chain.1 in let rest = chain.2 in
      let l = live-is s a (λ y. IsEnded s mid a y.home one) chain.3 in
      let lies : MayLieIn p (Some l.0) = subst (MayLieIn p) l.1 its.2 in
      let g : IsGivenBack s mid a p lies.0 one = subst (λ (y : Home). IsEnded s mid a y one) lies.1 l.2 in
      let w : PoolMemory = without_resident i q in
      let step : EndsAll b s mid p k q w (listed one) = ended s mid k q at alike are one i a its.1 l.0 l.1 lies.0 lies.1 g in
      let more = end_resources ids mid t step.now w rest chain.4
      (λ j there. let o = of j (contains-tail i ids j there) in (o.0, o.1, turned_lies p (allocation_at s o.0) (allocation_at mid o.0) (step.turns o.0) o.2)) step.there step.alike step.residents in
      let here : allocation_at mid a ≡ None = here_after b s mid p g.was g.now g.there a l.0 l.1 None g.state in (
        subst (λ (l : List ℕ). EndsAll b s t p k q (fold (λ o i. without_resident i o) q (i ∷ ids)) l) (sym chain.5) (ends_more b s mid t p k q w (fold (λ o i. without_resident i o) w ids) (listed one) rest step more.0),
        record {
          stay = λ j none. more.1.stay j (elim (cases_eq j a) [
            | inl e ↦ ap (λ (n : ℕ). allocation_at mid n) e ∙ here
            | inr other ↦ other_after b s mid p g.was g.now g.there a l.0 l.1 None g.state j other ∙ none
          ]);
          each = λ j n there has. elim (contains-cons i ids j there) [
            | inl e ↦ (let is = some-is n a (sym has ∙ ap (λ (y : ℕ). allocation_of b y) (sym e) ∙ its.1) in more.1.stay n (ap (λ (y : ℕ). allocation_at mid y) is ∙ here))
            | inr later ↦ more.1.each j n later has
          ];
        },
      )
