-- What an invalidation changes of what the bytes that it reaches remember.
use Rattle.std.proofs.Common.{◌≡◌, ◌<◌, ◌≤◌, ℕ, List, length, slice_get, get_or, Bool, true, false, ◌&&◌, refl, ap, sym, ◌∙◌, subst, arith, Option, Some, None, ⊎_elim}
use Rattle.std.specs.Prelude.{if◌then◌else◌, nat_le, nat_lt}
use Rattle.std.specs.Option.{option_map}
use Rattle.std.proofs.lemmas.Bool.{cases_lt, lt-ltb, le-leb, lt-leb, le-ltb}
use Rattle.std.proofs.lemmas.Option.{slice_get_past, slice_get-get_or}
use Rattle.vk_model.specs.Basics.{holds}
use Rattle.vk_touches.specs.declared.touches.LastTouches.{LastTouches}
use Rattle.vk_touches.specs.Remembered.{untouched, with_invalidation}
use Rattle.vk_touches.specs.TouchedRanges.{invalidating, sees_at}

module _ (sees : ℕ → Bool → LastTouches → Type 0) where
  -- of the bytes from one on and below another it is remembered
  pub record AreInvalidatedTo (old new : List LastTouches) (low at : ℕ) : Type 0 where
    pub above : low ≤ at
    pub size : length new ≡ length old
    pub inside : (k : ℕ) (t : LastTouches) → low ≤ k → k < at → slice_get old k ≡ Some t → (answer : Bool) × (slice_get new k ≡ Some (with_invalidation t answer)) × sees k answer t
    pub before : (k : ℕ) → k < low → slice_get new k ≡ slice_get old k
    pub after : (k : ℕ) → at ≤ k → slice_get new k ≡ slice_get old k

  module _ (old new : List LastTouches) (low high : ℕ) (fits : high ≤ length old) (test : ℕ → Bool) (is : (k : ℕ) → k < length old → test k ≡ (nat_le low k && nat_lt k high)) (at : ℕ) (end : high ≤ at) (all : AreInvalidatedTo old new low at) (short : at ≤ high) where
    there : (k : ℕ) (t : LastTouches) → slice_get old k ≡ Some t → k < length old
    there k t e = ⊎_elim (λ lt. lt) (λ none. absurd (let bad : None ≡ Some t = sym (slice_get_past old k none) ∙ e in cc)) (cases_lt k (length old))

    found : (k : ℕ) (t : LastTouches) → slice_get old k ≡ Some t → (b : Bool) → test k ≡ b → slice_get new k ≡ Some (if b then with_invalidation t (sees_at new k) else t)
    found k t e b h = ⊎_elim
        (λ lt. let f : false ≡ b = sym (is k (there k t e) ∙ rw (lt-leb low k lt) refl) ∙ h in rw (← f) (all.before k lt ∙ e))
        (λ ge. ⊎_elim
        (λ lt. let f : true ≡ b = sym (is k (there k t e) ∙ rw (le-leb low k ge, lt-ltb k high lt) refl) ∙ h in
        let g = all.inside k t ge (omega (arith, lt, end)) e in
        rw (← f) (g.1 ∙ ap (λ (r : Bool). Some (with_invalidation t r)) (sym (ap (λ (o : Option LastTouches). holds o (λ u. u.is_invalidated)) g.1))))
        (λ past. let f : false ≡ b = sym (is k (there k t e) ∙ rw (le-leb low k ge, le-ltb k high past) refl) ∙ h in rw (← f) (all.after k (omega (arith, past, short)) ∙ e))
        (cases_lt k high))
        (cases_lt k low)

    pub invalidated_values : (k : ℕ) → slice_get new k ≡ option_map (invalidating test (sees_at new) k) (slice_get old k)
    invalidated_values k = go (slice_get old k) refl where
      go : (o : Option LastTouches) → slice_get old k ≡ o → slice_get new k ≡ option_map (invalidating test (sees_at new) k) o
      go None e = all.after k (⊎_elim
          (λ lt. absurd (let bad : Some (get_or old k untouched) ≡ None = sym (slice_get-get_or old k untouched (omega (arith, lt, fits, short))) ∙ e in cc))
          (λ ge. ge)
          (cases_lt k at)) ∙ e
      go (Some t) e = found k t e (test k) refl

    pub invalidated_answers : (k : ℕ) (t : LastTouches) → test k ≡ true → slice_get old k ≡ Some t → sees k (sees_at new k) t
    invalidated_answers k t h e = ⊎_elim
        (λ lt. absurd (let bad : false ≡ true = sym (is k (there k t e) ∙ rw (lt-leb low k lt) refl) ∙ h in cc))
        (λ ge. ⊎_elim
        (λ lt. let g = all.inside k t ge (omega (arith, lt, end)) e in subst (λ (r : Bool). sees k r t) (sym (ap (λ (o : Option LastTouches). holds o (λ u. u.is_invalidated)) g.1)) g.2)
        (λ past. absurd (let bad : false ≡ true = sym (is k (there k t e) ∙ rw (le-leb low k ge, le-ltb k high past) refl) ∙ h in cc))
        (cases_lt k high))
        (cases_lt k low)
