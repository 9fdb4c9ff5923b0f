-- Lists of which two tests keep some items each, so that any two that pass a test together are kept by one of them.
use Rattle.std.proofs.Common.{◌≡◌, List, [], ◌∷◌, Bool, true, false, cond, refl, sym, ◌∙◌, inl, inr, ◌⊎◌}
use Rattle.std.specs.List.{list_any, filter}
use Rattle.std.proofs.lemmas.Bool.{or_parts, or_from, true≢false}
use Rattle.vk_model.specs.Basics.{some_pair}

-- what a list that is filtered, without its first item, says
kept : {A : Type 0} (t r : A → Bool) (y : A) (ys : List A) → list_any t (filter r (y ∷ ys)) ≡ false → (r y ≡ true → t y ≡ false) × (list_any t (filter r ys) ≡ false)
kept {A} t r y ys = go (r y) refl
  where
    go : (b : Bool) → r y ≡ b → list_any t (cond b (y ∷ filter r ys) (filter r ys)) ≡ false → (r y ≡ true → t y ≡ false) × (list_any t (filter r ys) ≡ false)
    go true e h = let parts = or_parts (t y) (list_any t (filter r ys)) h in ((λ yes. parts.0), parts.1)
    go false e h = ((λ yes. absurd (true≢false (sym yes ∙ e))), h)

-- what an item and those of a list don't pass, the list with or without the item doesn't
none_with : {A : Type 0} (t : A → Bool) (y : A) (ys : List A) (b : Bool) → t y ≡ false → list_any t ys ≡ false → list_any t (cond b (y ∷ ys) ys) ≡ false
none_with t y ys true f g = or_from (t y) (list_any t ys) f g
none_with t y ys false f g = g

-- what none passes, none that is kept passes
pub none_kept : {A : Type 0} (t r : A → Bool) (ys : List A) → list_any t ys ≡ false → list_any t (filter r ys) ≡ false
none_kept t r [] h = refl
none_kept t r (y ∷ ys) h = let parts = or_parts (t y) (list_any t ys) h in none_with t y (filter r ys) (r y) parts.0 (none_kept t r ys parts.1)

no_pair_with : {A : Type 0} (m : A → A → Bool) (x : A) (xs : List A) (b : Bool) → list_any (m x) xs ≡ false → some_pair m xs ≡ false → some_pair m (cond b (x ∷ xs) xs) ≡ false
no_pair_with m x xs true f g = or_from (list_any (m x) xs) (some_pair m xs) f g
no_pair_with m x xs false f g = g

-- the same of pairs
pub no_pair_kept : {A : Type 0} (m : A → A → Bool) (r : A → Bool) (xs : List A) → some_pair m xs ≡ false → some_pair m (filter r xs) ≡ false
no_pair_kept m r [] h = refl
no_pair_kept m r (x ∷ xs) h = let parts = or_parts (list_any (m x) xs) (some_pair m xs) h in no_pair_with m x (filter r xs) (r x) (none_kept (m x) r xs parts.0) (no_pair_kept m r xs parts.1)

-- and of an item of each of two lists
pub none_met_kept : {A : Type 0} (m : A → A → Bool) (r : A → Bool) (xs ys : List A) → list_any (λ x. list_any (m x) ys) xs ≡ false → list_any (λ x. list_any (m x) (filter r ys)) (filter r xs) ≡ false
none_met_kept {A} m r xs ys h = none_kept (λ x. list_any (m x) (filter r ys)) r xs (each xs h)
  where
    each : (xs : List A) → list_any (λ x. list_any (m x) ys) xs ≡ false → list_any (λ x. list_any (m x) (filter r ys)) xs ≡ false
    each [] h = refl
    each (x ∷ xs) h =
        let parts = or_parts (list_any (m x) ys) (list_any (λ x. list_any (m x) ys) xs) h in
        or_from (list_any (m x) (filter r ys)) (list_any (λ x. list_any (m x) (filter r ys)) xs) (none_kept (m x) r ys parts.0) (each xs parts.1)

module _ {A : Type 0} (m : A → A → Bool) (p q : A → Bool) (covers : (x y : A) → m x y ≡ true → ((p x ≡ true) × (p y ≡ true)) ⊎ ((q x ≡ true) × (q y ≡ true))) where
  -- an item that meets none of those that are kept with it meets none
  one : (x : A) (ys : List A) → (p x ≡ true → list_any (m x) (filter p ys) ≡ false) → (q x ≡ true → list_any (m x) (filter q ys) ≡ false) → list_any (m x) ys ≡ false
  one x [] f g = refl
  one x (y ∷ ys) f g = or_from (m x y) (list_any (m x) ys) (here (m x y) refl) (one x ys (λ e. (kept (m x) p y ys (f e)).1) (λ e. (kept (m x) q y ys (g e)).1))
    where
      here : (b : Bool) → m x y ≡ b → m x y ≡ false
      here false e = e
      here true e = elim (covers x y e) [
        | inl both ↦ (kept (m x) p y ys (f both.0)).0 both.1
        | inr both ↦ (kept (m x) q y ys (g both.0)).0 both.1
      ]

  -- what a list that is filtered says of its first item and of the rest
  first : (r : A → Bool) (x : A) (xs : List A) → some_pair m (filter r (x ∷ xs)) ≡ false → (r x ≡ true → list_any (m x) (filter r xs) ≡ false) × (some_pair m (filter r xs) ≡ false)
  first r x xs = go (r x) refl
    where
      go : (b : Bool) → r x ≡ b → some_pair m (cond b (x ∷ filter r xs) (filter r xs)) ≡ false → (r x ≡ true → list_any (m x) (filter r xs) ≡ false) × (some_pair m (filter r xs) ≡ false)
      go true e h = let parts = or_parts (list_any (m x) (filter r xs)) (some_pair m (filter r xs)) h in ((λ yes. parts.0), parts.1)
      go false e h = ((λ yes. absurd (true≢false (sym yes ∙ e))), h)

  -- no pair among those that either test keeps: no pair
  pub no_pair : (xs : List A) → some_pair m (filter p xs) ≡ false → some_pair m (filter q xs) ≡ false → some_pair m xs ≡ false
  no_pair [] f g = refl
  no_pair (x ∷ xs) f g =
      let a = first p x xs f in
      let b = first q x xs g in
      or_from (list_any (m x) xs) (some_pair m xs) (one x xs a.0 b.0) (no_pair xs a.1 b.1)

  -- the same of an item of each of two lists
  pub none_met : (xs ys : List A) → list_any (λ x. list_any (m x) (filter p ys)) (filter p xs) ≡ false → list_any (λ x. list_any (m x) (filter q ys)) (filter q xs) ≡ false → list_any (λ x. list_any (m x) ys) xs ≡ false
  none_met [] ys f g = refl
  none_met (x ∷ xs) ys f g =
      let a = kept (λ x. list_any (m x) (filter p ys)) p x xs f in
      let b = kept (λ x. list_any (m x) (filter q ys)) q x xs g in
      or_from (list_any (m x) ys) (list_any (λ x. list_any (m x) ys) xs) (one x ys a.0 b.0) (none_met xs ys a.1 b.1)
