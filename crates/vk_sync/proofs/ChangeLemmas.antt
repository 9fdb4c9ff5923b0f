-- A list with one more element, or with one element changed, by what is at each place.
use Rattle.std.proofs.Common.{◌≡◌, ◌≢◌, ◌+◌, ℕ, zero, suc, List, [], ◌∷◌, ◌++◌, length, refl, ap, ◌∙◌, sym, inl, inr, arith, get_or, set, ◌⊎◌, Bool, true, Some, cond}
use Rattle.std.specs.Prelude.{take, slice_get, map}
use Rattle.std.specs.List.{flat_map, enumerate_from, list_all}
use Rattle.std.proofs.lemmas.List.{length-append}
use Rattle.std.proofs.lemmas.Bool.{and_from, and_parts}
use Rattle.vk_sync.specs.Inner.Places.{places}

module _ {A : Type 0} where
  -- What is in a list with one more element.
  pub get_pushed : (xs : List A) (y : A) (j : ℕ) (x : A) → slice_get (xs ++ y ∷ []) j ≡ Some x → (slice_get xs j ≡ Some x) ⊎ ((j ≡ length xs) × (x ≡ y))
  get_pushed [] y zero x e = inr (refl, cc)
  get_pushed [] y (suc j) x e = cc
  get_pushed (z ∷ xs) y zero x e = inl e
  get_pushed (z ∷ xs) y (suc j) x e = elim (get_pushed xs y j x e) [ inl h ↦ inl h | inr h ↦ inr (ap (λ (n : ℕ). suc n) h.0, h.1) ]

  -- What is in a list of which one element was changed.
  pub get_changed : (xs : List A) (i : ℕ) (y : A) (j : ℕ) (x : A) → slice_get (set xs i y) j ≡ Some x → ((j ≡ i) × (x ≡ y)) ⊎ ((j ≢ i) × (slice_get xs j ≡ Some x))
  get_changed [] i y j x e = cc
  get_changed (z ∷ xs) zero y zero x e = inl (refl, cc)
  get_changed (z ∷ xs) zero y (suc j) x e = inr ((λ h. cc), e)
  get_changed (z ∷ xs) (suc i) y zero x e = inr ((λ h. cc), e)
  get_changed (z ∷ xs) (suc i) y (suc j) x e = elim (get_changed xs i y j x e) [
    | inl h ↦ inl (ap (λ (n : ℕ). suc n) h.0, h.1)
    | inr h ↦ inr ((λ same. h.0 (let k : j ≡ i = omega arith in k)), h.1)
  ]

  -- A change that a test doesn't see leaves the places of those that pass.
  pub places_same : (p : A → Bool) (start : ℕ) (xs : List A) (i : ℕ) (y x : A) → slice_get xs i ≡ Some x → p y ≡ p x → places p start (set xs i y) ≡ places p start xs
  places_same p start [] i y x is e = refl
  places_same p start (z ∷ xs) zero y x is e = let same : z ≡ x = cc in rw (e, same) refl
  places_same p start (z ∷ xs) (suc i) y x is e = ap (λ (ns : List ℕ). cond (p z) (start ∷ ns) ns) (places_same p (start + 1) xs i y x is e)

  -- What is at a place of a list with its places.
  pub get_enumerated : (n : ℕ) (xs : List A) (i : ℕ) (x : ℕ × A) → slice_get (enumerate_from n xs) i ≡ Some x → (x.0 ≡ n + i) × (slice_get xs i ≡ Some x.1)
  get_enumerated n [] i x e = cc
  get_enumerated n (y ∷ xs) zero x e =
      let same : (n, y) ≡ x = cc in
      let number = ap (λ (z : ℕ × A). z.0) same in
      (omega arith, ap (λ (z : ℕ × A). Some z.1) same)
  get_enumerated n (y ∷ xs) (suc i) x e =
      let later = get_enumerated (n + 1) xs i x e in
      let number = later.0 in
      (omega arith, later.1)

  -- An element with its place.
  pub enumerated_get : (n : ℕ) (xs : List A) (i : ℕ) (x : A) → slice_get xs i ≡ Some x → slice_get (enumerate_from n xs) i ≡ Some (n + i, x)
  enumerated_get n [] i x e = cc
  enumerated_get n (y ∷ xs) zero x e = let same : y ≡ x = cc in let z : n ≡ n + 0 = omega arith in ap (λ (w : A). Some (n, w)) same ∙ ap (λ (m : ℕ). Some (m, x)) z
  enumerated_get n (y ∷ xs) (suc i) x e = let z : n + 1 + i ≡ n + suc i = omega arith in enumerated_get (n + 1) xs i x e ∙ ap (λ (m : ℕ). Some (m, x)) z

  -- What is in two lists after each other.
  get_joined : (xs ys : List A) (k : ℕ) (y : A) → slice_get (xs ++ ys) k ≡ Some y → ((j : ℕ) × (slice_get xs j ≡ Some y)) ⊎ ((j : ℕ) × (slice_get ys j ≡ Some y))
  get_joined [] ys k y e = inr (k, e)
  get_joined (x ∷ xs) ys zero y e = inl (0, e)
  get_joined (x ∷ xs) ys (suc k) y e = elim (get_joined xs ys k y e) [ inl h ↦ inl (suc h.0, h.1) | inr h ↦ inr h ]

-- What is in the lists that the elements of a list give.
pub get_flat : {A B : Type 0} (f : A → List B) (xs : List A) (k : ℕ) (y : B) → slice_get (flat_map f xs) k ≡ Some y → (i : ℕ) × (x : A) × (j : ℕ) × (slice_get xs i ≡ Some x) × (slice_get (f x) j ≡ Some y)
get_flat f [] k y e = cc
get_flat f (x ∷ xs) k y e = elim (get_joined (f x) (flat_map f xs) k y e) [
  | inl h ↦ (0, x, h.0, refl, h.1)
  | inr h ↦ let later = get_flat f xs h.0 y h.1 in (suc later.0, later.1, later.2, later.3, later.4)
]

module _ {B : Type 0} where
  -- What is in the first of two lists.
  get_first : (xs ys : List B) (j : ℕ) (y : B) → slice_get xs j ≡ Some y → slice_get (xs ++ ys) j ≡ Some y
  get_first [] ys j y e = cc
  get_first (x ∷ xs) ys zero y e = e
  get_first (x ∷ xs) ys (suc j) y e = get_first xs ys j y e

  -- What is in the second of two lists.
  get_second : (xs ys : List B) (n : ℕ) → slice_get (xs ++ ys) (length xs + n) ≡ slice_get ys n
  get_second [] ys n = let z : 0 + n ≡ n = omega arith in ap (slice_get ys) z
  get_second (x ∷ xs) ys n = let z : suc (length xs) + n ≡ suc (length xs + n) = omega arith in ap (slice_get (x ∷ (xs ++ ys))) z ∙ get_second xs ys n

module _ {A B : Type 0} where
  -- What an element gives comes after what those before it give.
  pub flat_at : (f : A → List B) (xs : List A) (i j : ℕ) (x : A) (y : B) → slice_get xs i ≡ Some x → slice_get (f x) j ≡ Some y → slice_get (flat_map f xs) (length (flat_map f (take i xs)) + j) ≡ Some y
  flat_at f [] i j x y is at = cc
  flat_at f (z ∷ xs) zero j x y is at =
      let same : z ≡ x = cc in
      let e : 0 + j ≡ j = omega arith in
      ap (slice_get (f z ++ flat_map f xs)) e ∙ get_first (f z) (flat_map f xs) j y (ap (λ (w : A). slice_get (f w) j) same ∙ at)
  flat_at f (z ∷ xs) (suc i) j x y is at =
      let e : length (f z ++ flat_map f (take i xs)) + j ≡ length (f z) + (length (flat_map f (take i xs)) + j) = omega (arith, length-append (f z) (flat_map f (take i xs))) in
      ap (slice_get (f z ++ flat_map f xs)) e ∙ get_second (f z) (flat_map f xs) (length (flat_map f (take i xs)) + j) ∙ flat_at f xs i j x y is at

  -- What is in the list of what a function gives.
  pub get_mapped : (f : A → B) (xs : List A) (i : ℕ) (x : A) → slice_get xs i ≡ Some x → slice_get (map f xs) i ≡ Some (f x)
  get_mapped f [] i x e = cc
  get_mapped f (y ∷ xs) zero x e = let same : y ≡ x = cc in ap (λ (w : A). Some (f w)) same
  get_mapped f (y ∷ xs) (suc i) x e = get_mapped f xs i x e

  -- What is in the list of what a function gives is given by an element.
  pub mapped_get : (f : A → B) (xs : List A) (i : ℕ) (y : B) → slice_get (map f xs) i ≡ Some y → (x : A) × (slice_get xs i ≡ Some x) × (f x ≡ y)
  mapped_get f [] i y e = cc
  mapped_get f (x ∷ xs) zero y e = (x, refl, cc)
  mapped_get f (x ∷ xs) (suc i) y e = mapped_get f xs i y e

module _ {A : Type 0} where
  -- Numbers that the elements give.
  pub numbers_given : (f : A → ℕ) (ns : List ℕ) (xs : List A) → length ns ≡ length xs → ((i : ℕ) (x : A) → slice_get xs i ≡ Some x → get_or ns i 0 ≡ f x) → ns ≡ map f xs
  numbers_given f [] [] e at = refl
  numbers_given f [] (x ∷ xs) e at = absurd (omega arith)
  numbers_given f (n ∷ ns) [] e at = absurd (omega arith)
  numbers_given f (n ∷ ns) (x ∷ xs) e at =
      let later = numbers_given f ns xs (omega arith) (λ i y is. at (suc i) y is) in
      let here : n ≡ f x = at 0 x refl in
      cc

  -- All elements pass a test that each of them passes.
  pub all_pass : (p : A → Bool) (xs : List A) → ((i : ℕ) (x : A) → slice_get xs i ≡ Some x → p x ≡ true) → list_all p xs ≡ true
  all_pass p [] at = refl
  all_pass p (x ∷ xs) at = and_from (p x) (list_all p xs) (at 0 x refl) (all_pass p xs (λ i y is. at (suc i) y is))

  -- Each element passes a test that all of them pass.
  pub pass_at : (p : A → Bool) (xs : List A) (i : ℕ) (x : A) → list_all p xs ≡ true → slice_get xs i ≡ Some x → p x ≡ true
  pass_at p [] i x all is = cc
  pass_at p (y ∷ xs) zero x all is = let same : y ≡ x = cc in ap p (sym same) ∙ (and_parts (p y) (list_all p xs) all).0
  pass_at p (y ∷ xs) (suc i) x all is = pass_at p xs i x (and_parts (p y) (list_all p xs) all).1 is

  -- A list of no length is empty.
  pub is_nothing : (xs : List A) → length xs ≡ 0 → xs ≡ []
  is_nothing [] e = refl
  is_nothing (x ∷ xs) e = absurd (omega arith)
