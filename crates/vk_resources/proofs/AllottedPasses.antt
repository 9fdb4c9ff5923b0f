-- What is allocated, passes and their moves included, where an entry of no pass is applied.
use Rattle.std.proofs.Common.{◌≡◌, ◌∙◌, ◌⊎◌, ℕ, List, [], ◌∷◌, ◌++◌, map, Bool, true, false, not, ◌==◌, Option, Some, None, refl, sym, ap, subst, inl, inr}
use Rattle.std.specs.Prelude.{if◌then◌else◌}
use Rattle.std.specs.List.{filter, find}
use Rattle.std.proofs.lemmas.Bool.{cases_eq, ne_eqb, eq-eqb, eqb-true}
use Rattle.vk_model.specs.declared.entry.Entry.{Entry}
use Rattle.vk_model.specs.declared.entry.Entry.TheVariants as entry
use Rattle.vk_model.specs.declared.resource.Place.{Place}
use Rattle.vk_model.specs.declared.resource.Place.TheVariants as place
use Rattle.vk_model.specs.Trace.Objects.{Resource, of_buffer, of_image}
use Rattle.vk_model.specs.Memory.MoveTargets.{BlockStart, Moved}
use Rattle.vk_model.specs.Memory.Pools.{Gives, empty_pool}
use Rattle.vk_model.specs.Memory.Allocations.{Allocated, Defragmentation, PoolMemory, Changes, Gets, GetsIn, asked_of, pool_by_id, with_object, with_pool, with_resident, without, without_resident}
use Rattle.vma_pools.proofs.StateLemmas.{some-is}
use Rattle.vma_pools.specs.State.{pool_at}
use Rattle.vma_defrag.specs.State.{DefragState}
use Rattle.vk_backing.specs.Backed.{pool_of}
use Rattle.vk_backing.specs.Allotted.{ArePoolsOf, Fulfils}
use Rattle.vk_backing.specs.Passing.{Passing, ArePassing, defrag_in, moves_in_pool, moves_on, named_in, open_defrag}
use Rattle.vk_backing.specs.PassAllots.{AreDefragsOf, FulfilsAll}
use Rattle.vk_backing.proofs.Passing.{moves_elsewhere, open_one}
use Rattle.vk_backing.proofs.PoolsBy.{change, change_it, change_other, keeps_id, pool_found}
use Rattle.vk_resources.specs.Allocating.{allotted}
use Rattle.vk_resources.specs.Held.{Held, IsConsistent}
use Rattle.vk_resources.specs.Passes.{KeepsPools, SparesPasses}

-- ---- pools by their ids

found_id : (i : ℕ) (qs : List PoolMemory) (q : PoolMemory) → find (λ o. o.id == i) qs ≡ Some q → q.id ≡ i
found_id i [] q e = absurd cc
found_id i (o ∷ qs) q e = go (found_id i qs q) (o.id == i) refl e
  where
    go : (find (λ o. o.id == i) qs ≡ Some q → q.id ≡ i) → (v : Bool) → (o.id == i) ≡ v → (if v then Some o else find (λ o. o.id == i) qs) ≡ Some q → q.id ≡ i
    go rest true is e = ap (λ (x : PoolMemory). x.id) (sym (some-is o q e)) ∙ eqb-true o.id i is
    go rest false is e = rest e

module _ (f : PoolMemory → PoolMemory) (keeps : (o : PoolMemory) → (f o).id ≡ o.id) where
  found_map : (i : ℕ) (qs : List PoolMemory) (q : PoolMemory) → find (λ o. o.id == i) (map f qs) ≡ Some q → (r : PoolMemory) × (find (λ o. o.id == i) qs ≡ Some r) × (q ≡ f r)
  found_map i [] q e = absurd cc
  found_map i (o ∷ qs) q e = go (found_map i qs q) (o.id == i) (subst (λ (n : ℕ). (if n == i then Some (f o) else find (λ o. o.id == i) (map f qs)) ≡ Some q) (keeps o) e)
    where
      go : (find (λ o. o.id == i) (map f qs) ≡ Some q → (r : PoolMemory) × (find (λ o. o.id == i) qs ≡ Some r) × (q ≡ f r)) → (v : Bool) → (if v then Some (f o) else find (λ o. o.id == i) (map f qs)) ≡ Some q
          → (r : PoolMemory) × ((if v then Some o else find (λ o. o.id == i) qs) ≡ Some r) × (q ≡ f r)
      go rest true e = (o, refl, sym (some-is (f o) q e))
      go rest false e = rest e

found_last : (i : ℕ) (qs : List PoolMemory) (y q : PoolMemory) → find (λ o. o.id == i) (qs ++ y ∷ []) ≡ Some q → (find (λ o. o.id == i) qs ≡ Some q) ⊎ ((find (λ o. o.id == i) qs ≡ None) × (q ≡ y))
found_last i [] y q e = go (y.id == i) e
  where
    go : (v : Bool) → (if v then Some y else None) ≡ Some q → (find (λ (o : PoolMemory). o.id == i) [] ≡ Some q) ⊎ ((find (λ (o : PoolMemory). o.id == i) [] ≡ None) × (q ≡ y))
    go true e = inr (refl, sym (some-is y q e))
    go false e = absurd cc
found_last i (o ∷ qs) y q e = go (found_last i qs y q) (o.id == i) e
  where
    go : (find (λ o. o.id == i) (qs ++ y ∷ []) ≡ Some q → (find (λ o. o.id == i) qs ≡ Some q) ⊎ ((find (λ o. o.id == i) qs ≡ None) × (q ≡ y))) → (v : Bool) → (if v then Some o else find (λ o. o.id == i) (qs ++ y ∷ [])) ≡ Some q
        → ((if v then Some o else find (λ o. o.id == i) qs) ≡ Some q) ⊎ (((if v then Some o else find (λ o. o.id == i) qs) ≡ None) × (q ≡ y))
    go rest true e = inl e
    go rest false e = rest e

found_left : (i p : ℕ) (qs : List PoolMemory) (q : PoolMemory) → find (λ o. o.id == i) (filter (λ o. not (o.id == p)) qs) ≡ Some q → (i ≡ p → ⊥) × (find (λ o. o.id == i) qs ≡ Some q)
found_left i p [] q e = absurd cc
found_left i p (o ∷ qs) q e = go (found_left i p qs q) (cases_eq o.id p) e
  where
    left : List PoolMemory
    left = filter (λ o. not (o.id == p)) qs

    kept : (find (λ o. o.id == i) left ≡ Some q → (i ≡ p → ⊥) × (find (λ o. o.id == i) qs ≡ Some q)) → (o.id ≡ p → ⊥) → (v : Bool) → (o.id == i) ≡ v → (if v then Some o else find (λ o. o.id == i) left) ≡ Some q
        → (i ≡ p → ⊥) × ((if v then Some o else find (λ o. o.id == i) qs) ≡ Some q)
    kept rest other true is e = (λ same. other (eqb-true o.id i is ∙ same), e)
    kept rest other false is e = rest e

    go : (find (λ o. o.id == i) left ≡ Some q → (i ≡ p → ⊥) × (find (λ o. o.id == i) qs ≡ Some q)) → (o.id ≡ p) ⊎ (o.id ≡ p → ⊥) → find (λ o. o.id == i) (filter (λ o. not (o.id == p)) (o ∷ qs)) ≡ Some q
        → (i ≡ p → ⊥) × (find (λ o. o.id == i) (o ∷ qs) ≡ Some q)
    go rest (inl is) e =
        let r = rest (sym (ap (λ (v : Bool). find (λ o. o.id == i) (if not v then o ∷ left else left)) (eq-eqb o.id p is)) ∙ e) in
        (r.0, ap (λ (v : Bool). if v then Some o else find (λ o. o.id == i) qs) (ne_eqb o.id i (λ same. r.0 (sym same ∙ is))) ∙ r.1)
    go rest (inr other) e = kept rest other (o.id == i) refl (sym (ap (λ (v : Bool). find (λ o. o.id == i) (if not v then o ∷ left else left)) (ne_eqb o.id p other)) ∙ e)

none_found : (i : ℕ) (qs : List PoolMemory) (r : PoolMemory) → find (λ o. o.id == i) qs ≡ Some r → filter (λ o. o.id == i) qs ≡ [] → ⊥
none_found i [] r e none = absurd cc
none_found i (o ∷ qs) r e none = go (none_found i qs r) (o.id == i) e none
  where
    go : (find (λ o. o.id == i) qs ≡ Some r → filter (λ o. o.id == i) qs ≡ [] → ⊥) → (v : Bool) → (if v then Some o else find (λ o. o.id == i) qs) ≡ Some r → (if v then o ∷ filter (λ o. o.id == i) qs else filter (λ o. o.id == i) qs) ≡ [] → ⊥
    go rest true e none = absurd cc
    go rest false e none = rest e none

-- ---- the moves of pools stay

-- a pool has the moves that it had, or is new and has none
pub record KeepsMoves (d e : Allocated) : Type 0 where
  pub moves : (i : ℕ) (q : PoolMemory) → pool_by_id i e ≡ Some q → ((r : PoolMemory) × (pool_by_id i d ≡ Some r) × (q.moves ≡ r.moves)) ⊎ ((pool_by_id i d ≡ None) × (q.moves ≡ []))
  pub defragmentations : e.defragmentations ≡ d.defragmentations

same_moves : (d e : Allocated) → e.pools ≡ d.pools → e.defragmentations ≡ d.defragmentations → KeepsMoves d e
same_moves d e pools same = record { moves = λ i q is. inl (q, ap (λ (l : List PoolMemory). find (λ o. o.id == i) l) (sym pools) ∙ is, refl); defragmentations = same }

-- one is changed, but its moves
changed_moves : (d : Allocated) (p : ℕ) (r q : PoolMemory) → pool_by_id p d ≡ Some r → q.id ≡ r.id → q.moves ≡ r.moves → KeepsMoves d (with_pool q d)
changed_moves d p r q there ids same = record { moves = moves; defragmentations = refl }
  where
    moves : (i : ℕ) (o : PoolMemory) → pool_by_id i (with_pool q d) ≡ Some o → ((x : PoolMemory) × (pool_by_id i d ≡ Some x) × (o.moves ≡ x.moves)) ⊎ ((pool_by_id i d ≡ None) × (o.moves ≡ []))
    moves i o is =
        let f = found_map (change q) (keeps_id q) i d.pools o is in
        inl (
          f.0,
          f.1,
          elim (cases_eq f.0.id q.id) [
            | inl e ↦ (let at : i ≡ p = sym (found_id i d.pools f.0 f.1) ∙ e ∙ ids ∙ found_id p d.pools r there in
                let one = some-is r f.0 (sym there ∙ ap (λ (n : ℕ). pool_by_id n d) (sym at) ∙ f.1) in
                ap (λ (x : PoolMemory). x.moves) (f.2 ∙ change_it q f.0 e) ∙ same ∙ ap (λ (x : PoolMemory). x.moves) one)
            | inr other ↦ ap (λ (x : PoolMemory). x.moves) (f.2 ∙ change_other q f.0 other)
          ],
        )

without_moves : (d : Allocated) (id : ℕ) → KeepsMoves d (without id d)
without_moves d id = record { moves = λ i q is. (let f = found_map (without_resident id) (λ o. refl) i d.pools q is in inl (f.0, f.1, ap (λ (x : PoolMemory). x.moves) f.2)); defragmentations = refl }

gets_moves : (d e : Allocated) (i : ℕ) (r : Resource) (p : ℕ) (upper : Bool) → GetsIn d i r p upper e → KeepsMoves d e
gets_moves d e i r p upper gets = go (pool_by_id p d) refl
  where
    go : (o : Option PoolMemory) → pool_by_id p d ≡ o → KeepsMoves d e
    go None is = let same : e ≡ d = rw (is, GetsIn) at gets in subst (λ (x : Allocated). KeepsMoves d x) (sym same) (same_moves d d refl refl)
    go (Some q) is =
        let g : (s : BlockStart) × Gives q.pool (asked_of q r) upper s × (e ≡ with_pool (with_resident q i (asked_of q r) upper s) d) = rw (is, GetsIn) at gets in
        subst (λ (x : Allocated). KeepsMoves d x) (sym g.2) (changed_moves d p q (with_resident q i (asked_of q r) upper g.0) is refl refl)

place_moves : (d e : Allocated) (i : ℕ) (r : Resource) (q : Place) → Gets d i r q e → KeepsMoves d e
place_moves d e i r (place.Dedicated t) gets = subst (λ (x : Allocated). KeepsMoves d x) (sym gets) (same_moves d (with_object i t r.size d) refl refl)
place_moves d e i r (place.Pool p) gets = gets_moves d e i r p false gets
place_moves d e i r (place.PoolUpper p) gets = gets_moves d e i r p true gets
place_moves d e i r (place.Memory m o) gets = subst (λ (x : Allocated). KeepsMoves d x) (sym gets) (same_moves d d refl refl)

-- ---- the entries that begin and end no pass

-- an entry of no defragmentation
unfoldable pub IsNoPass : Entry → Type 0
IsNoPass (entry.Defrag i p b m) = ⊥
IsNoPass (entry.Pass i) = ⊥
IsNoPass (entry.EndPass i kept lost) = ⊥
IsNoPass (entry.EndDefrag i) = ⊥
IsNoPass _ = Unit {0}

pub entry_moves : (d e : Allocated) (x : Entry) → IsNoPass x → Changes d x e → KeepsMoves d e
unfolding IsNoPass
entry_moves d e (entry.Memory i m) plain is = subst (λ (y : Allocated). KeepsMoves d y) (sym is) (same_moves d (with_object i m.memory_type m.size d) refl refl)
entry_moves d e (entry.Free m) plain is = subst (λ (y : Allocated). KeepsMoves d y) (sym is) (without_moves d m)
entry_moves d e (entry.Buffer i b) plain is = place_moves d e i (of_buffer b) b.place is
entry_moves d e (entry.Image i m) plain is = place_moves d e i (of_image m) m.place is
entry_moves d e (entry.Destroy r) plain is = subst (λ (y : Allocated). KeepsMoves d y) (sym is) (without_moves d r)
entry_moves d e (entry.Pool p info) plain is = subst (λ (y : Allocated). KeepsMoves d y) (sym is) (record {
  moves = λ i q there. elim (found_last i d.pools (record { id = p; pool = empty_pool info; residents = []; moves = [] }) q there) [
    | inl old ↦ inl (q, old, refl)
    | inr new ↦ inr (new.0, ap (λ (o : PoolMemory). o.moves) new.1)
  ];
  defragmentations = refl;
})
entry_moves d e (entry.DropPool p) plain is = subst (λ (y : Allocated). KeepsMoves d y) (sym is) (record { moves = λ i q there. inl (q, (found_left i p d.pools q there).1, refl); defragmentations = refl })
entry_moves d e (entry.Defrag i p b m) plain is = absurd plain
entry_moves d e (entry.Pass i) plain is = absurd plain
entry_moves d e (entry.EndPass i kept lost) plain is = absurd plain
entry_moves d e (entry.EndDefrag i) plain is = absurd plain
entry_moves d e _ plain is = subst (λ (y : Allocated). KeepsMoves d y) (sym is) (same_moves d d refl refl)

-- whether an entry ends the pool of an id
ends_or : (x : Entry) (i : ℕ) → (x ≡ entry.DropPool i) ⊎ (x ≡ entry.DropPool i → ⊥)
ends_or (entry.DropPool p) i = elim (cases_eq p i) [ inl e ↦ inl (ap entry.DropPool e) | inr other ↦ inr (λ e. other (let f : p ≡ i = cc in f)) ]
ends_or _ i = inr (λ e. absurd cc)

-- ---- what is allocated then, with passes

module _ (x : Entry) (plain : IsNoPass x) (old new : Held) (consistent : IsConsistent old) (p : Passing) (h : ArePassing p old.backed) (spares : SparesPasses p old.backed x) (keeps : KeepsPools x old new) (d e : Allocated) (is : FulfilsAll (allotted old) p d) (changes : Changes d x e) (are : Fulfils (allotted new) e) where
  kept : KeepsMoves d e
  kept = entry_moves d e x plain changes

  -- no pass moves anything in a pool that isn't there
  none_moves : (n : ℕ) → pool_at old.backed.pools n ≡ None → moves_in_pool p n ≡ []
  none_moves n none = go (open_defrag p) refl
    where
      go : (o : Option DefragState) → open_defrag p ≡ o → moves_on n o ≡ []
      go None e = refl
      go (Some f) e = moves_elsewhere f n (λ same.
          let one = open_one p f e in
          let of = h.pools one.0 f one.2 in
          let g = sym none ∙ ap (λ (j : ℕ). pool_at old.backed.pools j) (sym same) ∙ of.there in cc)

  moves_there : (i n : ℕ) (q : PoolMemory) → pool_of new.backed i ≡ Some n → pool_by_id i e ≡ Some q → q.moves ≡ named_in p.moving (moves_in_pool p n)
  moves_there i n q named there = elim (kept.moves i q there) [
    | inl was ↦ elim (keeps.from i n named) [
      | inl had ↦ was.2 ∙ is.moves i n was.0 had was.1
      | inr fresh ↦ absurd (old_pool i n q was.0 named there was.1 fresh)
    ]
    | inr fresh ↦ fresh.1 ∙ elim (keeps.from i n named) [
      | inl had ↦ absurd (let f = sym fresh.0 ∙ pool_found old.backed old.memory d is.resources i n had in cc)
      | inr none ↦ sym (ap (λ (ms : List Moved). named_in p.moving ms) (none_moves n none) ∙ none_named p.moving)
    ]
  ]
    where
      none_named : (ids : List ℕ) → named_in ids [] ≡ []
      none_named [] = refl
      none_named (i ∷ ids) = refl

      dropped : (i : ℕ) (q : PoolMemory) → x ≡ entry.DropPool i → pool_by_id i e ≡ Some q → ⊥
      dropped i q ends there =
          let left : e ≡ record d { pools = filter (λ o. not (o.id == i)) d.pools } = subst (λ (y : Entry). Changes d y e) ends changes in
          (found_left i i d.pools q (ap (λ (y : Allocated). pool_by_id i y) (sym left) ∙ there)).0 refl

      old_pool : (i n : ℕ) (q r : PoolMemory) → pool_of new.backed i ≡ Some n → pool_by_id i e ≡ Some q → pool_by_id i d ≡ Some r → pool_at old.backed.pools n ≡ None → ⊥
      old_pool i n q r named there found fresh = go (pool_of old.backed i) refl
        where
          go : (o : Option ℕ) → pool_of old.backed i ≡ o → ⊥
          go None none = none_found i d.pools r found (subst (λ (o : Option ℕ). ArePoolsOf old.backed i o (filter (λ o. o.id == i) d.pools)) none (is.resources.pools i))
          go (Some t) some = elim (ends_or x i) [
            | inl ends ↦ dropped i q ends there
            | inr other ↦ (let same : n ≡ t = some-is n t (sym named ∙ keeps.stay i t some other) in
                let k = consistent.0.backed_is.named i t some in
                let f = sym fresh ∙ ap (λ (j : ℕ). pool_at old.backed.pools j) same ∙ k.1 in absurd cc)
          ]

  defrags_there : (i : ℕ) → AreDefragsOf new.backed i (defrag_in p i) (filter (λ f. f.id == i) e.defragmentations)
  defrags_there i = subst (λ (fs : List Defragmentation). AreDefragsOf new.backed i (defrag_in p i) (filter (λ f. f.id == i) fs)) (sym kept.defragmentations) (go (defrag_in p i) refl (is.defrags i))
    where
      go : (o : Option DefragState) → defrag_in p i ≡ o → AreDefragsOf old.backed i o (filter (λ f. f.id == i) d.defragmentations) → AreDefragsOf new.backed i o (filter (λ f. f.id == i) d.defragmentations)
      go None there none = none
      go (Some f) there of = (of.0, keeps.stay of.0 f.pool of.1 (λ ends. subst (λ (y : Entry). SparesPasses p old.backed y) ends spares i f there of.1), of.2)

  pub all_allotted : FulfilsAll (allotted new) p e
  all_allotted = record { resources = are; moves = moves_there; defrags = defrags_there }
