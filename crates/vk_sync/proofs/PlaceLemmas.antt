-- The places of the elements of a list that pass a test.
use Rattle.std.proofs.Common.{◌≡◌, ◌<◌, ◌≤◌, ◌+◌, ◌-◌, ℕ, zero, suc, List, [], ◌∷◌, ◌++◌, length, refl, ap, ◌∙◌, sym, arith, get_or, set, Bool, true, false, Some, not, cond, ◌==◌}
use Rattle.std.specs.Prelude.{take, slice_get, replicate, count_by, filter}
use Rattle.std.specs.List.{sum_by, range_with_len}
use Rattle.std.proofs.lemmas.List.Sums.{sum_by-cons}
use Rattle.std.proofs.lemmas.Bool.{ne_eqb, eq-eqb}
use Rattle.vk_sync.specs.Inner.Places.{places, is_so, one_if}

module _ {A : Type 0} (p : A → Bool) where
  -- There are as many places as elements that pass.
  pub length-places : (start : ℕ) (xs : List A) → length (places p start xs) ≡ count_by p xs
  length-places start [] = refl
  length-places start (x ∷ xs) = by_test (p x) refl (length-places (start + 1) xs)
    where
      by_test : (b : Bool) → p x ≡ b → length (places p (start + 1) xs) ≡ count_by p xs → length (places p start (x ∷ xs)) ≡ sum_by (λ (y : A). one_if (p y)) (x ∷ xs)
      by_test true e r =
          let one : one_if (p x) ≡ 1 = rw e refl in
          let l : length (places p start (x ∷ xs)) ≡ suc (length (places p (start + 1) xs)) = rw e refl in
          omega (arith, sum_by-cons (λ (y : A). one_if (p y)) x xs, one, l, r)
      by_test false e r =
          let none : one_if (p x) ≡ 0 = rw e refl in
          let l : length (places p start (x ∷ xs)) ≡ length (places p (start + 1) xs) = rw e refl in
          omega (arith, sum_by-cons (λ (y : A). one_if (p y)) x xs, none, l, r)

  -- An element that passes comes after the places of those before it that pass.
  pub place_of : (start i : ℕ) (xs : List A) (d : A) → i < length xs → p (get_or xs i d) ≡ true → slice_get (places p start xs) (count_by p (take i xs)) ≡ Some (start + i)
  place_of start i [] d lt e = absurd (omega arith)
  place_of start zero (x ∷ xs) d lt e = let z : start ≡ start + 0 = omega arith in rw e (ap Some z)
  place_of start (suc i) (x ∷ xs) d lt e = by_test (p x) refl (place_of (start + 1) i xs d (omega arith) e)
    where
      shift : Some (start + 1 + i) ≡ Some (start + suc i)
      shift = ap Some (let z : start + 1 + i ≡ start + suc i = omega arith in z)

      by_test : (b : Bool) → p x ≡ b → slice_get (places p (start + 1) xs) (count_by p (take i xs)) ≡ Some (start + 1 + i) → slice_get (places p start (x ∷ xs)) (count_by p (x ∷ take i xs)) ≡ Some (start + suc i)
      by_test true h later =
          let one : one_if (p x) ≡ 1 = rw h refl in
          let k : count_by p (x ∷ take i xs) ≡ suc (count_by p (take i xs)) = omega (arith, sum_by-cons (λ (y : A). one_if (p y)) x (take i xs), one) in
          let at : slice_get (places p start (x ∷ xs)) (count_by p (x ∷ take i xs)) ≡ slice_get (places p (start + 1) xs) (count_by p (take i xs)) = ap (slice_get (places p start (x ∷ xs))) k ∙ (rw h refl) in
          at ∙ later ∙ shift
      by_test false h later =
          let none : one_if (p x) ≡ 0 = rw h refl in
          let k : count_by p (x ∷ take i xs) ≡ count_by p (take i xs) = omega (arith, sum_by-cons (λ (y : A). one_if (p y)) x (take i xs), none) in
          let at : slice_get (places p start (x ∷ xs)) (count_by p (x ∷ take i xs)) ≡ slice_get (places p (start + 1) xs) (count_by p (take i xs)) = ap (slice_get (places p start (x ∷ xs))) k ∙ (rw h refl) in
          at ∙ later ∙ shift

  -- What is known of the element at a place.
  pub record HasCommand (start : ℕ) (xs : List A) (d : A) (k place : ℕ) : Type 0 where
    pub from : start ≤ place
    pub within : place < start + length xs
    pub passes : p (get_or xs (place - start) d) ≡ true
    pub rank : count_by p (take (place - start) xs) ≡ k

  pub has_command_later : (start : ℕ) (x : A) (xs : List A) (d : A) (k k' place : ℕ) → one_if (p x) + k ≡ k' → HasCommand (start + 1) xs d k place → HasCommand start (x ∷ xs) d k' place
  has_command_later start x xs d k k' place e s =
      let low = s.from in
      let high = s.within in
      let shift : place - start ≡ suc (place - (start + 1)) = omega arith in
      record {
        from = omega arith;
        within = omega arith;
        passes = rw shift s.passes;
        rank = rw shift (omega (arith, sum_by-cons (λ (y : A). one_if (p y)) x (take (place - (start + 1)) xs), s.rank, e));
      }

  -- The element at a place passes, and its rank is the place's number.
  pub has_command : (start : ℕ) (xs : List A) (d : A) (k place : ℕ) → slice_get (places p start xs) k ≡ Some place → HasCommand start xs d k place
  has_command start [] d k place e = cc
  has_command start (x ∷ xs) d k place e = by_test (p x) refl k e (λ j. has_command (start + 1) xs d j place)
    where
      by_test : (b : Bool) → p x ≡ b → (k : ℕ) → slice_get (places p start (x ∷ xs)) k ≡ Some place → ((j : ℕ) → slice_get (places p (start + 1) xs) j ≡ Some place → HasCommand (start + 1) xs d j place) → HasCommand start (x ∷ xs) d k place
      by_test true h zero e later =
          let at : slice_get (start ∷ places p (start + 1) xs) 0 ≡ Some place = rw h at e in
          let same : start ≡ place = cc in
          let none : place - start ≡ 0 = omega arith in
          record { from = omega arith; within = omega arith; passes = rw none h; rank = rw none refl }
      by_test true h (suc k) e later =
          let at : slice_get (start ∷ places p (start + 1) xs) (suc k) ≡ Some place = rw h at e in
          has_command_later start x xs d k (suc k) place (rw h (omega arith)) (later k at)
      by_test false h k e later =
          let at : slice_get (places p (start + 1) xs) k ≡ Some place = rw h at e in
          has_command_later start x xs d k k place (rw h (omega arith)) (later k at)

  -- One more element.
  pub places_push : (start : ℕ) (xs : List A) (y : A) → places p start (xs ++ y ∷ []) ≡ places p start xs ++ (cond (p y) ((start + length xs) ∷ []) [])
  places_push start [] y = by_test (p y) refl
    where
      by_test : (b : Bool) → p y ≡ b → places p start (y ∷ []) ≡ cond (p y) ((start + 0) ∷ []) []
      by_test true h = let z : start ≡ start + 0 = omega arith in rw h (ap (λ (n : ℕ). n ∷ []) z)
      by_test false h = rw h refl
  places_push start (x ∷ xs) y = by_test (p x) refl (let z : start + 1 + length xs ≡ start + suc (length xs) = omega arith in places_push (start + 1) xs y ∙ ap (λ (n : ℕ). places p (start + 1) xs ++ (cond (p y) (n ∷ []) [])) z)
    where
      by_test : (b : Bool) → p x ≡ b → places p (start + 1) (xs ++ y ∷ []) ≡ places p (start + 1) xs ++ (cond (p y) ((start + suc (length xs)) ∷ []) []) → places p start (x ∷ xs ++ y ∷ []) ≡ places p start (x ∷ xs) ++ (cond (p y) ((start + suc (length xs)) ∷ []) [])
      by_test true h later = rw h (ap (λ ns. start ∷ ns) later)
      by_test false h later = rw h later

  -- No place is before the start.
  pub places_after : (start low : ℕ) (xs : List A) → low < start → filter (λ k. not (k == low)) (places p start xs) ≡ places p start xs
  places_after start low [] lt = refl
  places_after start low (x ∷ xs) lt = by_test (p x) refl (places_after (start + 1) low xs (omega arith))
    where
      differs : (start == low) ≡ false
      differs = ne_eqb start low (λ e. let z : start ≡ low = e in absurd (omega arith))

      by_test : (b : Bool) → p x ≡ b → filter (λ k. not (k == low)) (places p (start + 1) xs) ≡ places p (start + 1) xs → filter (λ k. not (k == low)) (places p start (x ∷ xs)) ≡ places p start (x ∷ xs)
      by_test true h later = rw (h, differs) (ap (λ ns. start ∷ ns) later)
      by_test false h later = rw h later

  -- An element that passes no more leaves all other places.
  pub places_less : (start i : ℕ) (xs : List A) (y : A) → i < length xs → p y ≡ false → places p start (set xs i y) ≡ filter (λ k. not (k == start + i)) (places p start xs)
  places_less start i [] y lt e = absurd (omega arith)
  places_less start zero (x ∷ xs) y lt e = rw e (by_test (p x) refl)
    where
      same : (start == start + 0) ≡ true
      same = eq-eqb start (start + 0) (omega arith)

      later : places p (start + 1) xs ≡ filter (λ k. not (k == start + 0)) (places p (start + 1) xs)
      later = sym (places_after (start + 1) (start + 0) xs (omega arith))

      by_test : (b : Bool) → p x ≡ b → places p (start + 1) xs ≡ filter (λ k. not (k == start + 0)) (places p start (x ∷ xs))
      by_test true h = rw (h, same) later
      by_test false h = rw h later
  places_less start (suc i) (x ∷ xs) y lt e = by_test (p x) refl (places_less (start + 1) i xs y (omega arith) e ∙ ap (λ n. filter (λ k. not (k == n)) (places p (start + 1) xs)) (let shift : start + 1 + i ≡ start + suc i = omega arith in shift))
    where
      differs : (start == start + suc i) ≡ false
      differs = ne_eqb start (start + suc i) (λ e. let z : start ≡ start + suc i = e in absurd (omega arith))

      by_test : (b : Bool) → p x ≡ b → places p (start + 1) (set xs i y) ≡ filter (λ k. not (k == start + suc i)) (places p (start + 1) xs) → places p start (x ∷ set xs i y) ≡ filter (λ k. not (k == start + suc i)) (places p start (x ∷ xs))
      by_test true h later = rw (h, differs) (ap (λ ns. start ∷ ns) later)
      by_test false h later = rw h later

-- All places, where all are so.
pub places_all : (start n : ℕ) → places is_so start (replicate n true) ≡ range_with_len start n
places_all start zero = refl
places_all start (suc n) = ap (λ ns. start ∷ ns) (places_all (start + 1) n)
