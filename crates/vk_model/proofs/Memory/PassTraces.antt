-- The passes of a pool, as entries are applied, come to an end.
use Rattle.std.proofs.Common.{◌≡◌, ◌⊎◌, inl, inr, ℕ, List, [], ◌∷◌, ◌++◌, map, Bool, true, false, not, ◌==◌, refl, sym, ap, ◌∙◌, subst}
use Rattle.std.specs.Prelude.{if◌then◌else◌, Option, Some, None, IfSome, IsTrue, All, Contains}
use Rattle.std.specs.List.{filter, fold}
use Rattle.std.proofs.lemmas.Bool.{both_ways, cases_eq, eq-eqb, eqb-true, eqb-false, ne_eqb}
use Rattle.std.proofs.lemmas.List.Elements.{All-head, All-tail}
use Rattle.vk_model.specs.declared.entry.Entry.{Entry}
use Rattle.vk_model.specs.declared.entry.Entry.TheVariants as entry
use Rattle.vk_model.specs.declared.resource.Place.{Place}
use Rattle.vk_model.specs.declared.resource.Place.TheVariants as place
use Rattle.vk_model.specs.Basics.{among, holds}
use Rattle.vk_model.specs.Trace.Objects.{Resource, pool_at, of_buffer, of_image}
use Rattle.vk_model.specs.Memory.MoveTargets.{BlockStart, Resident, Moved, pass_moves}
use Rattle.vk_model.specs.Memory.Pools.{Gives, numbered_blocks, pool_without}
use Rattle.vk_model.specs.Memory.Allocations.{PoolMemory, Defragmentation, Allocated, Applied, Changes, Begins, Gets, GetsIn, PassBegins, without, asked_of, defragmented, pool_by_id, move_ended, moved_to, pass_ended, after_pass, with_pool, with_resident, with_target, without_resident}
use Rattle.vk_model.specs.Memory.PassRanks.{made_moves}
use Rattle.vk_model.specs.Memory.PassLaws.{PoolStep, PassBegan, PassEnded, ResourceEnded}
use Rattle.vk_model.specs.Memory.PassTraces.{makes_none_in, EndsNoneMoved, SparesPool, AllSparePool, made_in, made_by_end, moves_made, PassesOfPoolsEnd}
use Rattle.vk_model.proofs.Lists.Members.{contains-head, contains-tail, found}
use Rattle.vk_model.proofs.Memory.PoolsById.{is_its, found_elsewhere, found_changed, found_mapped, found_before, found_left}
use Rattle.vk_model.proofs.Memory.PassesEnd.{HappensTo, at_most, count_below, falls_to, its_ranks}

-- ---- what keeps the id of a pool

some_is : {X : Type 0} {x y : X} → Some x ≡ Some y → x ≡ y
some_is e = cc

targets_id : (ms : List Moved) (q : PoolMemory) → (fold with_target q ms).id ≡ q.id
targets_id [] q = refl
targets_id (m ∷ ms) q = targets_id ms (with_target q m)

begun_id : (f : Defragmentation) (q r : PoolMemory) → PassBegins f q r → r.id ≡ q.id
begun_id f q r begins = ap (λ (x : PoolMemory). x.id) begins.2 ∙ targets_id (pass_moves f.max_bytes f.max_moves (numbered_blocks q.pool.blocks) begins.0) q

ends_id : (kept : List ℕ) (ms : List Moved) (q : PoolMemory) → (fold (move_ended kept) q ms).id ≡ q.id
ends_id kept [] q = refl
ends_id kept (m ∷ ms) q = ends_id kept ms (move_ended kept q m) ∙ one (among m.id kept)
  where
    one : (t : Bool) → (if t then record q { pool = pool_without q.pool m.to } else record q { pool = fold (λ p a. pool_without p a.from) q.pool (filter (λ a. a.id == m.id) q.residents); residents = map (moved_to m) q.residents }).id ≡ q.id
    one true = refl
    one false = refl

lost_id : (lost : List ℕ) (q : PoolMemory) → (fold (λ o i. without_resident i o) q lost).id ≡ q.id
lost_id [] q = refl
lost_id (i ∷ lost) q = lost_id lost (without_resident i q)

ended_id : (kept lost : List ℕ) (q : PoolMemory) → (pass_ended kept lost q).id ≡ q.id
ended_id kept lost q = lost_id lost (record (fold (move_ended kept) q q.moves) { moves = [] }) ∙ ends_id kept q.moves q

-- ---- a resource that isn't there ends

none_of : (i : ℕ) (rs : List Resident) → ((a : Resident) → Contains rs a → a.id ≡ i → ⊥) → (filter (λ a. a.id == i) rs ≡ []) × (filter (λ a. not (a.id == i)) rs ≡ rs)
none_of i [] none = (refl, refl)
none_of i (a ∷ rs) none =
    let other : (a.id == i) ≡ false = ne_eqb a.id i (none a (contains-head a rs)) in
    let rest = none_of i rs (λ b there. none b (contains-tail a rs b there)) in
    (rw other rest.0, rw other (ap (λ (l : List Resident). a ∷ l) rest.1))

without_none : (i : ℕ) (q : PoolMemory) → ((a : Resident) → Contains q.residents a → a.id ≡ i → ⊥) → without_resident i q ≡ q
without_none i q none =
    let both = none_of i q.residents none in
    ap (λ (l : List Resident). record q { pool = fold (λ p a. pool_without p a.from) q.pool l; residents = filter (λ a. not (a.id == i)) q.residents }) both.0 ∙ ap (λ (l : List Resident). record q { residents = l }) both.1

-- ---- what one entry does to a pool

record OneStep (p : ℕ) (q : PoolMemory) (mid : Allocated) (made : List ℕ) : Type 0 where
  step : List PoolStep
  after : PoolMemory
  there : pool_by_id p mid ≡ Some after
  goes : (steps : List PoolStep) (later : List ℕ) (r : PoolMemory) → HappensTo after steps later r → HappensTo q (step ++ steps) (made ++ later) r

module _ (p : ℕ) (d mid : Allocated) (q : PoolMemory) (here : pool_by_id p d ≡ Some q) where
  its_id : q.id ≡ p
  its_id = eqb-true q.id p (found (is_its p) d.pools q here).1

  stays : pool_by_id p mid ≡ Some q → OneStep p q mid []
  stays there = record { step = []; after = q; there = there; goes = λ steps later r h. h }

  same : mid ≡ d → OneStep p q mid []
  same is = stays (ap (λ (e : Allocated). pool_by_id p e) is ∙ here)

  other_pool : (r : PoolMemory) → (r.id ≡ p → ⊥) → mid ≡ with_pool r d → OneStep p q mid []
  other_pool r other is = stays (ap (λ (e : Allocated). pool_by_id p e) is ∙ found_elsewhere p r d.pools other ∙ here)

  -- a resource is made elsewhere
  in_other : (i : ℕ) (r : Resource) (t : ℕ) (upper : Bool) → (t ≡ p → ⊥) → GetsIn d i r t upper mid → OneStep p q mid []
  in_other i r t upper other gets = go (pool_by_id t d) refl
    where
      go : (o : Option PoolMemory) → pool_by_id t d ≡ o → OneStep p q mid []
      go None e = let is : mid ≡ d = rw (e, GetsIn) at gets in same is
      go (Some x) e =
          let g : (s : BlockStart) × Gives x.pool (asked_of x r) upper s × (mid ≡ with_pool (with_resident x i (asked_of x r) upper s) d) = rw (e, GetsIn) at gets in
          other_pool (with_resident x i (asked_of x r) upper g.0) (λ has. other (sym (eqb-true x.id t (found (is_its t) d.pools x e).1) ∙ has)) g.2

  -- a resource is made, and not in it
  away : (t : ℕ) → IsTrue (not (t == p)) → t ≡ p → ⊥
  away t other has = both_ways (not (t == p)) (ap not (eq-eqb t p has)) other

  made : (i : ℕ) (r : Resource) (at : Place) → IsTrue (not (holds (pool_at at) (λ t. t == p))) → Gets d i r at mid → OneStep p q mid []
  made i r (place.Dedicated t) other is = stays (ap (λ (e : Allocated). pool_by_id p e) is ∙ here)
  made i r (place.Pool t) other is = in_other i r t false (away t other) is
  made i r (place.PoolUpper t) other is = in_other i r t true (away t other) is
  made i r (place.Memory m o) other is = same is

  -- a memory object or a resource ends
  ended : (i : ℕ) → EndsNoneMoved i (pool_by_id p d) → mid ≡ without i d → OneStep p q mid []
  ended i spares is = go (subst (λ (o : Option PoolMemory). IfSome o (λ x. (x.moves ≡ []) ⊎ ((a : Resident) → Contains x.residents a → a.id ≡ i → ⊥))) here spares)
    where
      left : pool_by_id p mid ≡ Some (without_resident i q)
      left = ap (λ (e : Allocated). pool_by_id p e) is ∙ found_mapped p (without_resident i) (λ o. refl) q d.pools here

      go : (q.moves ≡ []) ⊎ ((a : Resident) → Contains q.residents a → a.id ≡ i → ⊥) → OneStep p q mid []
      go (inl none) = record { step = ResourceEnded i ∷ []; after = without_resident i q; there = left; goes = λ steps later r h. (none, h) }
      go (inr none) = stays (left ∙ ap (λ (x : PoolMemory). Some x) (without_none i q none))

  -- a pass begins
  begun : (i : ℕ) → Begins d i mid → OneStep p q mid []
  begun i begins = by (defragmented i d) refl
    where
      one_pool : (f : Defragmentation) (x r : PoolMemory) → pool_by_id f.pool d ≡ Some x → PassBegins f x r → mid ≡ with_pool r d → OneStep p q mid []
      one_pool f x r e starts is =
          let id : x.id ≡ f.pool = eqb-true x.id f.pool (found (is_its f.pool) d.pools x e).1 in
          elim (cases_eq f.pool p) [
            | inl its ↦
                (let one : x ≡ q = some_is (sym e ∙ ap (λ (n : ℕ). pool_by_id n d) its ∙ here) in
                record {
                  step = PassBegan f ∷ [];
                  after = r;
                  there = ap (λ (e : Allocated). pool_by_id p e) is ∙ found_changed p r q d.pools (begun_id f x r starts ∙ id ∙ its) here;
                  goes = λ steps later left h. (r, subst (λ (y : PoolMemory). PassBegins f y r) one starts, h);
                })
            | inr other ↦ other_pool r (λ has. other (sym id ∙ sym (begun_id f x r starts) ∙ has)) is
          ]

      in_pool : (f : Defragmentation) → defragmented i d ≡ Some f → (o : Option PoolMemory) → pool_by_id f.pool d ≡ o → OneStep p q mid []
      in_pool f has None e = let is : mid ≡ d = rw (has, e, Begins) at begins in same is
      in_pool f has (Some x) e =
          let g : (r : PoolMemory) × PassBegins f x r × (mid ≡ with_pool r d) = rw (has, e, Begins) at begins in
          one_pool f x g.0 e g.1 g.2

      by : (o : Option Defragmentation) → defragmented i d ≡ o → OneStep p q mid []
      by None has = let is : mid ≡ d = rw (has, Begins) at begins in same is
      by (Some f) has = in_pool f has (pool_by_id f.pool d) refl

  -- a pass ends
  over : (i : ℕ) (kept lost : List ℕ) → mid ≡ after_pass i kept lost d → OneStep p q mid (made_by_end p d (entry.EndPass i kept lost))
  over i kept lost is = by (defragmented i d) is
    where
      here_too : made_in kept (pool_by_id p d) ≡ made_moves kept q.moves ∷ []
      here_too = ap (made_in kept) here

      in_pool : (f : Defragmentation) (t : Bool) → (f.pool == p) ≡ t → (o : Option PoolMemory) → pool_by_id f.pool d ≡ o → mid ≡ elim o [ None ↦ d | Some x ↦ with_pool (pass_ended kept lost x) d ] → OneStep p q mid (if t then made_in kept (pool_by_id p d) else [])
      in_pool f false other None e is = same is
      in_pool f false other (Some x) e is =
          let id : x.id ≡ f.pool = eqb-true x.id f.pool (found (is_its f.pool) d.pools x e).1 in
          other_pool (pass_ended kept lost x) (λ has. eqb-false f.pool p other (sym id ∙ sym (ended_id kept lost x) ∙ has)) is
      in_pool f true its None e is = let both : ◌≡◌ {A = Option PoolMemory} None (Some q) = sym e ∙ ap (λ (n : ℕ). pool_by_id n d) (eqb-true f.pool p its) ∙ here in absurd cc
      in_pool f true its (Some x) e is =
          let one : x ≡ q = some_is (sym e ∙ ap (λ (n : ℕ). pool_by_id n d) (eqb-true f.pool p its) ∙ here) in
          subst (λ (made : List ℕ). OneStep p q mid made) (sym here_too) (record {
            step = PassEnded kept lost ∷ [];
            after = pass_ended kept lost q;
            there = ap (λ (e : Allocated). pool_by_id p e) is ∙ ap (λ (y : PoolMemory). pool_by_id p (with_pool (pass_ended kept lost y) d)) one ∙ found_changed p (pass_ended kept lost q) q d.pools (ended_id kept lost q ∙ its_id) here;
            goes = λ steps later r h. (later, refl, h);
          })

      by : (o : Option Defragmentation) → mid ≡ elim o [ None ↦ d | Some f ↦ elim (pool_by_id f.pool d) [ None ↦ d | Some x ↦ with_pool (pass_ended kept lost x) d ] ] → OneStep p q mid (elim o [ None ↦ [] | Some f ↦ if f.pool == p then made_in kept (pool_by_id p d) else [] ])
      by None is = same is
      by (Some f) is = in_pool f (f.pool == p) refl (pool_by_id f.pool d) refl is

  one_step : (x : Entry) → IsTrue (makes_none_in p x) → SparesPool p d x → Changes d x mid → OneStep p q mid (made_by_end p d x)
  one_step (entry.Memory i m) none spares is = stays (ap (λ (e : Allocated). pool_by_id p e) is ∙ here)
  one_step (entry.Free m) none spares is = ended m spares is
  one_step (entry.Buffer i b) none spares gets = made i (of_buffer b) b.place none gets
  one_step (entry.Image i m) none spares gets = made i (of_image m) m.place none gets
  one_step (entry.Destroy r) none spares is = ended r spares is
  one_step (entry.Pool t info) none spares is = stays (ap (λ (e : Allocated). pool_by_id p e) is ∙ found_before p q d.pools _ here)
  one_step (entry.DropPool t) none spares is = stays (ap (λ (e : Allocated). pool_by_id p e) is ∙ found_left p t q d.pools (away t none) here)
  one_step (entry.Defrag i t b m) none spares is = stays (ap (λ (e : Allocated). pool_by_id p e) is ∙ here)
  one_step (entry.Pass i) none spares begins = begun i begins
  one_step (entry.EndPass i kept lost) none spares is = over i kept lost is
  one_step (entry.EndDefrag i) none spares is = stays (ap (λ (e : Allocated). pool_by_id p e) is ∙ here)
  one_step _ none spares is = same is

-- ---- all entries

happen : (p : ℕ) (d : Allocated) (xs : List Entry) (e : Allocated) (h : Applied d xs e) (q : PoolMemory) → pool_by_id p d ≡ Some q → All (λ x. IsTrue (makes_none_in p x)) xs → AllSparePool p d xs e h
    → (left : PoolMemory) × (pool_by_id p e ≡ Some left) × (steps : List PoolStep) × HappensTo q steps (moves_made p d xs e h) left
happen p d [] e h q here none spares = (q, ap (λ (x : Allocated). pool_by_id p x) h ∙ here, [], (refl, refl))
happen p d (x ∷ xs) e h q here none spares =
    let makes = λ (y : Entry). IsTrue (makes_none_in p y) in
    let one = one_step p d h.0 q here x (All-head makes x xs none) spares.0 h.2 in
    let rest = happen p h.0 xs e h.3 one.after one.there (All-tail makes x xs none) spares.1 in
    (rest.0, rest.1, one.step ++ rest.2, one.goes rest.2 (moves_made p h.0 xs e h.3) rest.0 rest.3)

pub passes_of_pools_end : PassesOfPoolsEnd
passes_of_pools_end size p d xs e h q here closed ranked placed none spares =
    let all = happen p d xs e h q here none spares in
    let made = moves_made p d xs e h in
    let falls = falls_to size q all.2 made all.0 ranked closed all.3 in
    record { left = all.0; there = all.1; falls = falls; passes = count_below made; most = at_most size q made (its_ranks size all.0) placed falls }
