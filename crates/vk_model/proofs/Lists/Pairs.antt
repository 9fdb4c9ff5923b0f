-- Lists no two items of which pass a test together. Other crates cite it.
use Rattle.std.proofs.Common.{◌≡◌, ℕ, zero, suc, ◌+◌, ◌<◌, ◌≤◌, List, [], ◌∷◌, ◌++◌, map, Bool, true, false, cond, refl, ap, sym, ◌∙◌, arith, inl, inr, subst}
use Rattle.std.specs.Prelude.{⊤, Contains}
use Rattle.std.specs.List.{list_any, filter, flat_map, range_with_len}
use Rattle.std.proofs.Math.Nat.{eq-or-lt_of_le}
use Rattle.vk_model.specs.Basics.{some_pair}
use Rattle.std.proofs.lemmas.Bool.{or_parts, or_from}
use Rattle.vk_model.proofs.Lists.Members.{none_in, contains-cons, contains-head, contains-tail, filtered}

-- ---- each item, and each item with each later one

abbrev pub Each : {A : Type 0} → (A → Type 0) → List A → Type 0
Each P [] = ⊤
Each P (x ∷ xs) = P x × Each P xs

abbrev pub Pairs : {A : Type 0} → (A → A → Type 0) → List A → Type 0
Pairs R [] = ⊤
Pairs R (x ∷ xs) = Each (R x) xs × Pairs R xs

pub each_map : {A : Type 0} (P Q : A → Type 0) (xs : List A) → ((x : A) → P x → Q x) → Each P xs → Each Q xs
each_map P Q [] f e = tt
each_map P Q (x ∷ xs) f e = (f x e.0, each_map P Q xs f e.1)

-- what holds of each holds of a member
pub each_has : {A : Type 0} (P : A → Type 0) (xs : List A) (x : A) → Each P xs → Contains xs x → P x
each_has P [] x each c = absurd (none_in x c)
each_has P (y ∷ ys) x each c = elim (contains-cons y ys x c) [
  | inl same ↦ subst P same each.0
  | inr later ↦ each_has P ys x each.1 later
]

pub each_append : {A : Type 0} (P : A → Type 0) (xs ys : List A) → Each P xs → Each P ys → Each P (xs ++ ys)
each_append P [] ys e f = f
each_append P (x ∷ xs) ys e f = (e.0, each_append P xs ys e.1 f)

pub each_flat : {A B : Type 0} (P : B → Type 0) (f : A → List B) (xs : List A) → Each (λ x. Each P (f x)) xs → Each P (flat_map f xs)
each_flat P f [] e = tt
each_flat P f (x ∷ xs) e = each_append P (f x) (flat_map f xs) e.0 (each_flat P f xs e.1)

pub each_range : (P : ℕ → Type 0) (a n : ℕ) → ((i : ℕ) → a ≤ i → i < a + n → P i) → Each P (range_with_len a n)
each_range P a zero f = tt
each_range P a (suc n) f = (f a (omega arith) (omega arith), each_range P (a + 1) n (λ i low high. f i (omega arith) (omega arith)))

pub each_of : {A B : Type 0} (P : B → Type 0) (f : A → B) (xs : List A) → Each (λ x. P (f x)) xs → Each P (map f xs)
each_of P f [] e = tt
each_of P f (x ∷ xs) e = (e.0, each_of P f xs e.1)

pub pairs_range : (R : ℕ → ℕ → Type 0) (a n : ℕ) → ((i j : ℕ) → i < j → j < a + n → R i j) → Pairs R (range_with_len a n)
pairs_range R a zero f = tt
pairs_range R a (suc n) f = (each_range (R a) (a + 1) n (λ i low high. f a i (omega arith) (omega arith)), pairs_range R (a + 1) n (λ i j lt high. f i j lt (omega arith)))

pub pairs_of : {A B : Type 0} (R : B → B → Type 0) (f : A → B) (xs : List A) → Pairs (λ x y. R (f x) (f y)) xs → Pairs R (map f xs)
pairs_of R f [] p = tt
pairs_of R f (x ∷ xs) p = (each_of (R (f x)) f xs p.0, pairs_of R f xs p.1)

pub pairs_map : {A : Type 0} (R S : A → A → Type 0) (xs : List A) → ((x y : A) → R x y → S x y) → Pairs R xs → Pairs S xs
pairs_map R S [] f p = tt
pairs_map R S (x ∷ xs) f p = (each_map (R x) (S x) xs (f x) p.0, pairs_map R S xs f p.1)

-- what passes for no number of a range fails at each
pub none_at : (test : ℕ → Bool) (a n i : ℕ) → list_any test (range_with_len a n) ≡ false → a ≤ i → i < a + n → test i ≡ false
none_at test a zero i none low high = absurd (omega arith)
none_at test a (suc n) i none low high = elim (eq-or-lt_of_le low) [
  | inl same ↦ ap test (sym same) ∙ (or_parts (test a) (list_any test (range_with_len (a + 1) n)) none).0
  | inr later ↦ none_at test (a + 1) n i (or_parts (test a) (list_any test (range_with_len (a + 1) n)) none).1 (omega (arith, later)) (omega arith)
]

-- what holds of each member holds of each
pub each_from : {A : Type 0} (P : A → Type 0) (xs : List A) → ((x : A) → Contains xs x → P x) → Each P xs
each_from P [] f = tt
each_from P (x ∷ xs) f = (f x (contains-head x xs), each_from P xs (λ y c. f y (contains-tail x xs y c)))

-- items that are left are related as before
pub pairs_filter : {A : Type 0} (R : A → A → Type 0) (test : A → Bool) (xs : List A) → Pairs R xs → Pairs R (filter test xs)
pairs_filter R test [] p = tt
pairs_filter R test (x ∷ xs) p = go (test x) (pairs_filter R test xs p.1)
  where
    go : (b : Bool) → Pairs R (filter test xs) → Pairs R (cond b (x ∷ filter test xs) (filter test xs))
    go false rest = rest
    go true rest = (each_from (R x) (filter test xs) (λ y c. each_has (R x) xs y p.0 (filtered test xs y c).0), rest)

-- ---- tests and relations

module _ {A : Type 0} (test : A → A → Bool) where
  none_each : (x : A) (ys : List A) → Each (λ y. test x y ≡ false) ys → list_any (test x) ys ≡ false
  none_each x [] e = refl
  none_each x (y ∷ ys) e = or_from (test x y) (list_any (test x) ys) e.0 (none_each x ys e.1)

  each_none : (x : A) (ys : List A) → list_any (test x) ys ≡ false → Each (λ y. test x y ≡ false) ys
  each_none x [] e = tt
  each_none x (y ∷ ys) e = ((or_parts (test x y) (list_any (test x) ys) e).0, each_none x ys (or_parts (test x y) (list_any (test x) ys) e).1)

  pub once_of_pairs : (xs : List A) → Pairs (λ x y. test x y ≡ false) xs → some_pair test xs ≡ false
  once_of_pairs [] p = refl
  once_of_pairs (x ∷ xs) p = or_from (list_any (test x) xs) (some_pair test xs) (none_each x xs p.0) (once_of_pairs xs p.1)

  pub pairs_of_once : (xs : List A) → some_pair test xs ≡ false → Pairs (λ x y. test x y ≡ false) xs
  pairs_of_once [] e = tt
  pairs_of_once (x ∷ xs) e = (each_none x xs (or_parts (list_any (test x) xs) (some_pair test xs) e).0, pairs_of_once xs (or_parts (list_any (test x) xs) (some_pair test xs) e).1)

-- ---- pairs of joined lists

pub pairs_append : {A : Type 0} (R : A → A → Type 0) (xs ys : List A) → Pairs R xs → Pairs R ys → Each (λ x. Each (R x) ys) xs → Pairs R (xs ++ ys)
pairs_append R [] ys p q c = q
pairs_append R (x ∷ xs) ys p q c = (each_append (R x) xs ys p.0 c.0, pairs_append R xs ys p.1 q c.1)

-- what holds of each item of a joined list holds of those of both
pub split_each : {A : Type 0} (P : A → Type 0) (xs ys : List A) → Each P (xs ++ ys) → Each P xs × Each P ys
split_each P [] ys e = (tt, e)
split_each P (x ∷ xs) ys e = let rest = split_each P xs ys e.1 in ((e.0, rest.0), rest.1)

pub append_pairs : {A : Type 0} (R : A → A → Type 0) (xs ys : List A) → Pairs R (xs ++ ys) → Pairs R ys × Each (λ x. Each (R x) ys) xs
append_pairs R [] ys p = (p, tt)
append_pairs R (x ∷ xs) ys p = let rest = append_pairs R xs ys p.1 in (rest.0, ((split_each (R x) xs ys p.0).1, rest.1))

-- what holds of the items of two lists makes each pair of them related
crossed : {A : Type 0} (R : A → A → Type 0) (P Q : A → Type 0) (xs ys : List A) → ((x y : A) → P x → Q y → R x y) → Each P xs → Each Q ys → Each (λ x. Each (R x) ys) xs
crossed R P Q xs ys f e g = each_map P (λ x. Each (R x) ys) xs (λ x p. each_map Q (R x) ys (λ y q. f x y p q) g) e

each_join : {A B : Type 0} (R : B → B → Type 0) (x : List B) (f : A → List B) (as' : List A) → Each (λ a. Each (λ b. Each (R b) (f a)) x) as' → Each (λ b. Each (R b) (flat_map f as')) x
each_join R [] f as' e = tt
each_join R (b ∷ x) f as' e = (
  each_flat (R b) f as' (each_map (λ a. Each (R b) (f a) × Each (λ c. Each (R c) (f a)) x) (λ a. Each (R b) (f a)) as' (λ a h. h.0) e),
  each_join R x f as' (each_map (λ a. Each (R b) (f a) × Each (λ c. Each (R c) (f a)) x) (λ a. Each (λ c. Each (R c) (f a)) x) as' (λ a h. h.1) e),
)

-- lists made of items: each of its own is apart, and any two are
pub pairs_flat : {A B : Type 0} (R : B → B → Type 0) (f : A → List B) (P : A → B → Type 0) (as' : List A)
    → Each (λ a. Pairs R (f a)) as' → Each (λ a. Each (P a) (f a)) as' → Pairs (λ a c. (x y : B) → P a x → P c y → R x y) as' → Pairs R (flat_map f as')
pairs_flat R f P [] own known apart = tt
pairs_flat {A} {B} R f P (a ∷ as') own known apart =
    pairs_append R (f a) (flat_map f as') own.0 (pairs_flat R f P as' own.1 known.1 apart.1)
    (each_join R (f a) f as' (both as' known.1 apart.0))
  where
    both : (bs : List A) → Each (λ c. Each (P c) (f c)) bs → Each (λ c. (x y : B) → P a x → P c y → R x y) bs → Each (λ c. Each (λ b. Each (R b) (f c)) (f a)) bs
    both [] k d = tt
    both (c ∷ bs) k d = (crossed R (P a) (P c) (f a) (f c) d.0 known.0 k.0, both bs k.1 d.1)
