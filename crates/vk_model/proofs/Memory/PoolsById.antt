-- The pool of an id among pools that change.
use Rattle.std.proofs.Common.{◌≡◌, ℕ, List, [], ◌∷◌, ◌++◌, Bool, true, false, cond, not, map, ◌==◌, refl, sym, ap, ◌∙◌, subst}
use Rattle.std.specs.Prelude.{if◌then◌else◌, Option, Some}
use Rattle.std.specs.Option.{option_or}
use Rattle.std.specs.List.{filter, find}
use Rattle.std.proofs.lemmas.Bool.{eq-eqb, eqb-true, eqb-false, ne_eqb}
use Rattle.std.proofs.lemmas.List.Folds.{find-append}
use Rattle.vk_model.specs.Memory.Allocations.{PoolMemory}

module _ (p : ℕ) where
  abbrev pub is_its : PoolMemory → Bool
  is_its q = q.id == p

  abbrev replaced_by : PoolMemory → PoolMemory → PoolMemory
  replaced_by r o = if o.id == r.id then r else o

  -- another pool is changed
  pub found_elsewhere : (r : PoolMemory) (ps : List PoolMemory) → (r.id ≡ p → ⊥) → find is_its (map (replaced_by r) ps) ≡ find is_its ps
  found_elsewhere r [] other = refl
  found_elsewhere r (o ∷ ps) other = go (o.id == r.id) refl (found_elsewhere r ps other)
    where
      go : (t : Bool) → (o.id == r.id) ≡ t → find is_its (map (replaced_by r) ps) ≡ find is_its ps
          → cond (is_its (if t then r else o)) (Some (if t then r else o)) (find is_its (map (replaced_by r) ps)) ≡ cond (is_its o) (Some o) (find is_its ps)
      go true e rest =
          let same : o.id ≡ r.id = eqb-true o.id r.id e in
          let one : (r.id == p) ≡ false = ne_eqb r.id p other in
          let two : (o.id == p) ≡ false = ne_eqb o.id p (λ x. other (sym same ∙ x)) in
          rw (one, two) rest
      go false e rest = ap (λ (later : Option PoolMemory). cond (is_its o) (Some o) later) rest

  -- it is changed itself
  pub found_changed : (r q : PoolMemory) (ps : List PoolMemory) → r.id ≡ p → find is_its ps ≡ Some q → find is_its (map (replaced_by r) ps) ≡ Some r
  found_changed r q [] is here = absurd cc
  found_changed r q (o ∷ ps) is here = go (o.id == r.id) refl (found_changed r q ps is)
    where
      go : (t : Bool) → (o.id == r.id) ≡ t → (find is_its ps ≡ Some q → find is_its (map (replaced_by r) ps) ≡ Some r) → cond (is_its (if t then r else o)) (Some (if t then r else o)) (find is_its (map (replaced_by r) ps)) ≡ Some r
      go true e rest = rw (eq-eqb r.id p is) refl
      go false e rest =
          let away : (o.id == p) ≡ false = ne_eqb o.id p (λ x. eqb-false o.id r.id e (x ∙ sym is)) in
          let later : find is_its ps ≡ Some q = subst (λ (t : Bool). cond t (Some o) (find is_its ps) ≡ Some q) away here in
          rw away (rest later)

  -- all are changed, and keep their ids
  pub found_mapped : (f : PoolMemory → PoolMemory) → ((o : PoolMemory) → (f o).id ≡ o.id) → (q : PoolMemory) (ps : List PoolMemory) → find is_its ps ≡ Some q → find is_its (map f ps) ≡ Some (f q)
  found_mapped f same q [] here = absurd cc
  found_mapped f same q (o ∷ ps) here = go (is_its o) refl here (found_mapped f same q ps)
    where
      go : (t : Bool) → is_its o ≡ t → cond t (Some o) (find is_its ps) ≡ Some q → (find is_its ps ≡ Some q → find is_its (map f ps) ≡ Some (f q)) → cond (is_its (f o)) (Some (f o)) (find is_its (map f ps)) ≡ Some (f q)
      go true e is rest =
          let one : ((f o).id == p) ≡ true = ap (λ (n : ℕ). n == p) (same o) ∙ e in
          let two : o ≡ q = cc in
          rw one (ap (λ (x : PoolMemory). Some (f x)) two)
      go false e is rest =
          let one : ((f o).id == p) ≡ false = ap (λ (n : ℕ). n == p) (same o) ∙ e in
          rw one (rest is)

  -- one more comes after it
  pub found_before : (q : PoolMemory) (ps qs : List PoolMemory) → find is_its ps ≡ Some q → find is_its (ps ++ qs) ≡ Some q
  found_before q ps qs here = find-append is_its ps qs ∙ ap (λ (o : Option PoolMemory). option_or o (find is_its qs)) here

  -- another one goes
  pub found_left : (i : ℕ) (q : PoolMemory) (ps : List PoolMemory) → (i ≡ p → ⊥) → find is_its ps ≡ Some q → find is_its (filter (λ o. not (o.id == i)) ps) ≡ Some q
  found_left i q [] other here = absurd cc
  found_left i q (o ∷ ps) other here = go (o.id == i) (is_its o) refl refl here (found_left i q ps other)
    where
      go : (t u : Bool) → (o.id == i) ≡ t → is_its o ≡ u → cond u (Some o) (find is_its ps) ≡ Some q → (find is_its ps ≡ Some q → find is_its (filter (λ x. not (x.id == i)) ps) ≡ Some q) → find is_its (cond (not t) (o ∷ filter (λ x. not (x.id == i)) ps) (filter (λ x. not (x.id == i)) ps)) ≡ Some q
      go true true e d is rest = absurd (other (sym (eqb-true o.id i e) ∙ eqb-true o.id p d))
      go true false e d is rest = rest is
      go false true e d is rest = rw d is
      go false false e d is rest = rw d (rest is)
