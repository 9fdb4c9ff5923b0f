-- Lists whose items are made of those of two others, one by one.
use Rattle.std.proofs.Common.{◌≡◌, ℕ, zero, suc, List, [], ◌∷◌, length, slice_get, get_or, Bool, true, false, refl, ap, sym, ◌∙◌, arith, Option, Some, None}
use Rattle.std.specs.Prelude.{if◌then◌else◌}
use Rattle.std.specs.Option.{option_map}
use Rattle.std.specs.Simd.Lanes.{zip2}
use Rattle.std.proofs.lemmas.Option.{slice_get_within, slice_get-get_or}
use Rattle.vk_touches.specs.Conflicts.{FoundAt}

module _ {A B C : Type 0} (f : A → B → C) where
  -- ---- what is at an index

  abbrev pub both : Option A → Option B → Option C
  both None y = None
  both (Some x) None = None
  both (Some x) (Some y) = Some (f x y)

  no_second : (o : Option A) → None ≡ both o None
  no_second None = refl
  no_second (Some x) = refl

  pub at_both : (xs : List A) (ys : List B) (k : ℕ) → slice_get (zip2 f xs ys) k ≡ both (slice_get xs k) (slice_get ys k)
  at_both [] ys k = refl
  at_both (x ∷ xs) [] k = no_second (slice_get (x ∷ xs) k)
  at_both (x ∷ xs) (y ∷ ys) zero = refl
  at_both (x ∷ xs) (y ∷ ys) (suc k) = at_both xs ys k

  pub both_at : (xs : List A) (ys : List B) (k : ℕ) (x : A) (y : B) → slice_get xs k ≡ Some x → slice_get ys k ≡ Some y → slice_get (zip2 f xs ys) k ≡ Some (f x y)
  both_at xs ys k x y one other = at_both xs ys k ∙ ap (λ (o : Option A). both o (slice_get ys k)) one ∙ ap (both (Some x)) other

  -- ---- a change of one of the lists, where a test says so

  module _ (g : C → C) (test : ℕ → Bool) where
    pub first_updated : (h : A → A) → ((x : A) (y : B) → f (h x) y ≡ g (f x y)) → (old new : List A) (ys : List B) → ((k : ℕ) → slice_get new k ≡ option_map (λ x. if test k then h x else x) (slice_get old k))
        → (k : ℕ) → slice_get (zip2 f new ys) k ≡ option_map (λ z. if test k then g z else z) (slice_get (zip2 f old ys) k)
    first_updated h is old new ys changed k =
        at_both new ys k ∙ ap (λ (o : Option A). both o (slice_get ys k)) (changed k) ∙ go (test k) (slice_get old k) (slice_get ys k) ∙ ap (option_map (λ z. if test k then g z else z)) (sym (at_both old ys k))
      where
        go : (b : Bool) (o : Option A) (r : Option B) → both (option_map (λ x. if b then h x else x) o) r ≡ option_map (λ z. if b then g z else z) (both o r)
        go b None r = refl
        go b (Some x) None = refl
        go true (Some x) (Some y) = ap Some (is x y)
        go false (Some x) (Some y) = refl

    pub second_updated : (h : B → B) → ((x : A) (y : B) → f x (h y) ≡ g (f x y)) → (xs : List A) (old new : List B) → ((k : ℕ) → slice_get new k ≡ option_map (λ y. if test k then h y else y) (slice_get old k))
        → (k : ℕ) → slice_get (zip2 f xs new) k ≡ option_map (λ z. if test k then g z else z) (slice_get (zip2 f xs old) k)
    second_updated h is xs old new changed k =
        at_both xs new k ∙ ap (both (slice_get xs k)) (changed k) ∙ go (test k) (slice_get xs k) (slice_get old k) ∙ ap (option_map (λ z. if test k then g z else z)) (sym (at_both xs old k))
      where
        go : (b : Bool) (o : Option A) (r : Option B) → both o (option_map (λ y. if b then h y else y) r) ≡ option_map (λ z. if b then g z else z) (both o r)
        go b None r = refl
        go b (Some x) None = refl
        go true (Some x) (Some y) = ap Some (is x y)
        go false (Some x) (Some y) = refl

  -- ---- what is found in one of the lists

  module _ (xs : List A) (ys : List B) (same : length xs ≡ length ys) (of : ℕ → Bool → C → Type 0) where
    second_there : (k : ℕ) (x : A) (y : B) → slice_get xs k ≡ Some x → slice_get ys k ≡ Some (get_or ys k y)
    second_there k x y is = let lt = slice_get_within xs k x is in slice_get-get_or ys k y (omega (arith, same, lt))

    first_there : (k : ℕ) (x : A) (y : B) → slice_get ys k ≡ Some y → slice_get xs k ≡ Some (get_or xs k x)
    first_there k x y is = let lt = slice_get_within ys k y is in slice_get-get_or xs k x (omega (arith, same, lt))

    pub found_in_first : (is : ℕ → Bool → A → Type 0) → ((k : ℕ) (r : Bool) (x : A) (y : B) → is k r x → of k r (f x y)) → B → (r : Bool) (low high : ℕ) → FoundAt is r xs low high → FoundAt of r (zip2 f xs ys) low high
    found_in_first is says d true low high h =
        let y = get_or ys h.0 d in
        (h.0, h.1, h.2, f h.3 y, both_at xs ys h.0 h.3 y h.4 (second_there h.0 h.3 d h.4), says h.0 true h.3 y h.5)
    found_in_first is says d false low high h = λ k from to.
        let m = h k from to in
        let y = get_or ys k d in
        (f m.0 y, both_at xs ys k m.0 y m.1 (second_there k m.0 d m.1), says k false m.0 y m.2)

    pub found_in_second : (is : ℕ → Bool → B → Type 0) → ((k : ℕ) (r : Bool) (x : A) (y : B) → is k r y → of k r (f x y)) → A → (r : Bool) (low high : ℕ) → FoundAt is r ys low high → FoundAt of r (zip2 f xs ys) low high
    found_in_second is says d true low high h =
        let x = get_or xs h.0 d in
        (h.0, h.1, h.2, f x h.3, both_at xs ys h.0 x h.3 (first_there h.0 d h.3 h.4) h.4, says h.0 true x h.3 h.5)
    found_in_second is says d false low high h = λ k from to.
        let m = h k from to in
        let x = get_or xs k d in
        (f x m.0, both_at xs ys k x m.0 (first_there k d m.0 m.1) m.1, says k false x m.0 m.2)
