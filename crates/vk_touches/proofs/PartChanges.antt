-- Changes of a part of a list of values.
use Rattle.std.proofs.Common.{◌≡◌, ◌<◌, ◌≤◌, ◌+◌, min, ℕ, List, length, slice_get, Bool, true, false, refl, ap, subst, ◌∙◌, arith, Option, Some, None, ⊎_elim, sym, ◌&&◌}
use Rattle.std.specs.Prelude.{Result, Ok, Err, OnOk, IfOk, if◌then◌else◌, nat_le, nat_lt}
use Rattle.std.specs.Option.{option_map, IsSomeAnd}
use Rattle.std.proofs.lemmas.Bool.{cases_lt, lt-ltb, le-leb, lt-leb, le-ltb}
use Rattle.std.proofs.lemmas.Option.{slice_get_past, slice_get-get_or}
use Rattle.vk_model.specs.Basics.{within}

-- what follows from three facts on a success
pub on_three : {T E P Q R S : Type 0} (r : Result T E) → OnOk r P → OnOk r Q → OnOk r R → (P → Q → R → S) → OnOk r S
on_three (Ok t) p q r f = f p q r
on_three (Err e) p q r f = tt

module _ {A : Type 0} (f : A → A) (gives : A → A → Type 0) (only : (a b : A) → gives a b → b ≡ f a) (old new : List A) (o n low high : ℕ) (high_is : high ≡ min (o + n) (length old)) (low_is : low ≡ min (o + 0) high)
    (inside : (i : ℕ) → low ≤ i → i < high → IsSomeAnd (slice_get old i) (λ a. IsSomeAnd (slice_get new i) (gives a)))
    (before : (i : ℕ) → i < low → slice_get new i ≡ slice_get old i) (after : (i : ℕ) → high ≤ i → slice_get new i ≡ slice_get old i) where
  same_else : (o : Option A) → o ≡ option_map (λ a. if false then f a else a) o
  same_else None = refl
  same_else (Some a) = refl

  -- a change of the part of a range that lies in a list is one of the range
  pub changed_within : (k : ℕ) → slice_get new k ≡ option_map (λ a. if within o n k then f a else a) (slice_get old k)
  changed_within k = ⊎_elim
      (λ lt. rw (lt-leb o k (omega (arith, low_is, lt))) (before k lt ∙ same_else (slice_get old k)))
      (λ ge. ⊎_elim
      (λ lt. rw (le-leb o k (omega (arith, low_is, ge, lt)), lt-ltb k (o + n) (omega (arith, high_is, lt))) (hit (slice_get old k) (slice_get new k) (inside k ge lt)))
      (λ past. ⊎_elim
      (λ lt. rw (le-leb o k (omega (arith, low_is, high_is, ge, past, lt)), le-ltb k (o + n) (omega (arith, high_is, past, lt))) (after k past ∙ same_else (slice_get old k)))
      (λ none. rw (after k past, slice_get_past old k none) refl)
      (cases_lt k (length old)))
      (cases_lt k high))
      (cases_lt k low)
    where
      hit : (u v : Option A) → IsSomeAnd u (λ a. IsSomeAnd v (gives a)) → v ≡ option_map (λ a. if true then f a else a) u
      hit None v h = absurd h
      hit (Some a) None h = absurd h
      hit (Some a) (Some b) h = ap Some (only a b h)

-- one value for the part of a range that lies in a list
pub assigned_within : {A : Type 0} (v : A) (old new : List A) (o n low high : ℕ) → high ≡ min (o + n) (length old) → low ≡ min (o + 0) high → ((i : ℕ) → low ≤ i → i < high → slice_get new i ≡ Some v)
    → ((i : ℕ) → i < low → slice_get new i ≡ slice_get old i) → ((i : ℕ) → high ≤ i → slice_get new i ≡ slice_get old i) → (k : ℕ) → slice_get new k ≡ option_map (λ a. if within o n k then v else a) (slice_get old k)
assigned_within {A} v old new o n low high high_is low_is inside before after = changed_within (λ a. v) (λ a b. b ≡ v) (λ a b is. is) old new o n low high high_is low_is given before after where
  given : (i : ℕ) → low ≤ i → i < high → IsSomeAnd (slice_get old i) (λ a. IsSomeAnd (slice_get new i) (λ b. b ≡ v))
  given i ge lt =
      subst (λ (u : Option A). IsSomeAnd u (λ a. IsSomeAnd (slice_get new i) (λ b. b ≡ v))) (sym (slice_get-get_or old i v (omega (arith, high_is, lt))))
      (subst (λ (u : Option A). IsSomeAnd u (λ b. b ≡ v)) (sym (inside i ge lt)) refl)

-- ---- where a test holds of the indices of a part

module _ {A : Type 0} (f : A → A) (test : ℕ → Bool) (old new : List A) (low high : ℕ) (within_old : high ≤ length old) (is : (k : ℕ) → k < length old → test k ≡ (nat_le low k && nat_lt k high))
    (before : (i : ℕ) → i < low → slice_get new i ≡ slice_get old i) (after : (i : ℕ) → high ≤ i → slice_get new i ≡ slice_get old i) where
  unchanged : (o : Option A) → o ≡ option_map (λ a. if false then f a else a) o
  unchanged None = refl
  unchanged (Some a) = refl

  -- a change of the part is one where the test holds
  pub changed_where : ((i : ℕ) → low ≤ i → i < high → slice_get new i ≡ option_map f (slice_get old i)) → (k : ℕ) → slice_get new k ≡ option_map (λ a. if test k then f a else a) (slice_get old k)
  changed_where inside k = ⊎_elim
      (λ here. ⊎_elim
      (λ lt. rw (is k here, lt-leb low k lt) (before k lt ∙ unchanged (slice_get old k)))
      (λ ge. ⊎_elim
      (λ lt. rw (is k here, le-leb low k ge, lt-ltb k high lt) (inside k ge lt))
      (λ past. rw (is k here, le-leb low k ge, le-ltb k high past) (after k past ∙ unchanged (slice_get old k)))
      (cases_lt k high))
      (cases_lt k low))
      (λ none. rw (after k (omega (arith, none, within_old)), slice_get_past old k none) refl)
      (cases_lt k (length old))

  -- an update of it
  pub updated_where : (gives : A → A → Type 0) → ((a b : A) → gives a b → b ≡ f a) → ((i : ℕ) → low ≤ i → i < high → IsSomeAnd (slice_get old i) (λ a. IsSomeAnd (slice_get new i) (gives a)))
      → (k : ℕ) → slice_get new k ≡ option_map (λ a. if test k then f a else a) (slice_get old k)
  updated_where gives only inside = changed_where (λ i ge lt. hit (slice_get old i) (slice_get new i) (inside i ge lt)) where
    hit : (u v : Option A) → IsSomeAnd u (λ a. IsSomeAnd v (gives a)) → v ≡ option_map f u
    hit None v h = absurd h
    hit (Some a) None h = absurd h
    hit (Some a) (Some b) h = ap Some (only a b h)

-- one value for all of it
pub assigned_where : {A : Type 0} (v : A) (test : ℕ → Bool) (old new : List A) (low high : ℕ) → high ≤ length old → ((k : ℕ) → k < length old → test k ≡ (nat_le low k && nat_lt k high))
    → ((i : ℕ) → i < low → slice_get new i ≡ slice_get old i) → ((i : ℕ) → high ≤ i → slice_get new i ≡ slice_get old i) → ((i : ℕ) → low ≤ i → i < high → slice_get new i ≡ Some v)
    → (k : ℕ) → slice_get new k ≡ option_map (λ a. if test k then v else a) (slice_get old k)
assigned_where v test old new low high fits is before after inside = changed_where (λ a. v) test old new low high fits is before after (λ i ge lt. inside i ge lt ∙ ap (option_map (λ a. v)) (sym (slice_get-get_or old i v (omega (arith, lt, fits)))))

-- what follows of a value from what is said of it
pub if_ok : {T E : Type 0} {P Q : T → Type 0} (r : Result T E) → IfOk r P → ((x : T) → P x → Q x) → IfOk r Q
if_ok (Ok x) h f = f x h
if_ok (Err e) h f = tt
