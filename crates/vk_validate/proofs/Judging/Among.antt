-- What is found among the items of a list, one after another.
use Rattle.std.proofs.Common.{◌≡◌, ◌<◌, ◌≤◌, ◌+◌, ◌*◌, ℕ, List, [], ◌∷◌, ◌++◌, length, take, get_or, Bool, true, false, below_more, subst, ap, ◌∙◌, arith, ⊎_elim, inl, inr, ◌⊎◌}
use Rattle.std.specs.Prelude.{Contains}
use Rattle.std.proofs.Math.Seq.{take-length}
use Rattle.std.proofs.lemmas.List.{take_more}
use Rattle.std.proofs.lemmas.Option.{slice_get-get_or}
use Rattle.vk_model.proofs.Lists.Members.{contains-cons, contains-head, contains-tail, only_one, place_has}
use Rattle.vk_image_bytes.specs.declared.ranges.ByteRanges.{ByteRanges}
use Rattle.vk_touches.specs.Conflicts.{FoundAmong, FoundInRanges}

module _ {A : Type 0} (is : Bool → A → Type 0) where
  in_either : (xs ys : List A) (a : A) → Contains (xs ++ ys) a → Contains xs a ⊎ Contains ys a
  in_either [] ys a c = inr c
  in_either (x ∷ xs) ys a c = ⊎_elim
      (λ e. inl (subst (λ (b : A). Contains (x ∷ xs) b) e (contains-head x xs)))
      (λ later. ⊎_elim (λ l. inl (contains-tail x xs a l)) (λ r. inr r) (in_either xs ys a later))
      (contains-cons x (xs ++ ys) a c)

  -- the next item isn't such either
  pub none_next : (xs : List A) (i : ℕ) (d : A) → i < length xs → FoundAmong is false (take i xs) → is false (get_or xs i d) → FoundAmong is false (take (i + 1) xs)
  none_next xs i d lt first next = λ a c. ⊎_elim (first a) (λ last. subst (is false) (only_one (get_or xs i d) a last) next) (in_either (take i xs) (get_or xs i d ∷ []) a (subst (λ (l : List A). Contains l a) (take_more xs i d lt) c))

  -- an item is such
  pub some_here : (xs : List A) (i : ℕ) (d : A) → i < length xs → is true (get_or xs i d) → FoundAmong is true xs
  some_here xs i d lt h = (get_or xs i d, place_has xs i (get_or xs i d) (slice_get-get_or xs i d lt), h)

  -- no item is
  pub none_at_all : (xs : List A) (i : ℕ) → i ≤ length xs → length xs ≤ i → FoundAmong is false (take i xs) → FoundAmong is false xs
  none_at_all xs i first last none = let all : i ≡ length xs = omega (arith, first, last) in subst (λ (l : List A). FoundAmong is false l) (ap (λ (n : ℕ). take n xs) all ∙ take-length xs) none

-- ---- ranges of numbers, one after another

module _ (is : Bool → (low high : ℕ) → Type 0) (s : ByteRanges) where
  -- none of the first ones is such
  abbrev pub NoneBelow : ℕ → Type 0
  NoneBelow i = (n : ℕ) → n < i → is false (s.first + n * s.step) (s.first + n * s.step + s.size)

  -- nor is the next
  pub none_further : (i low : ℕ) → low ≡ s.first + i * s.step → NoneBelow i → is false low (low + s.size) → NoneBelow (i + 1)
  none_further i low at first next = below_more (λ n. is false (s.first + n * s.step) (s.first + n * s.step + s.size)) i first (subst (λ (l : ℕ). is false l (l + s.size)) at next)

  -- the next is
  pub some_range : (i low : ℕ) → low ≡ s.first + i * s.step → i < s.count → is true low (low + s.size) → FoundInRanges is true s
  some_range i low at lt h = (i, lt, subst (λ (l : ℕ). is true l (l + s.size)) at h)

  -- none of them is
  pub none_in_all : (i : ℕ) → s.count ≤ i → NoneBelow i → FoundInRanges is false s
  none_in_all i all none = λ n lt. none n (omega (arith, lt, all))
