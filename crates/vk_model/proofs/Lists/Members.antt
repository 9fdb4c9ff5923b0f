-- Members of lists, and what tests find among them. Other crates cite it.
use Rattle.std.proofs.Common.{◌≡◌, ◌⊎◌, inl, inr, ⊎_elim, ℕ, zero, suc, ◌+◌, ◌<◌, ◌≤◌, List, [], ◌∷◌, map, length, Bool, true, false, cond, ◌||◌, IsTrue, Option, Some, None, refl, ap, sym, ◌∙◌, subst, arith, slice_get}
use Rattle.std.specs.Prelude.{Contains, slice_index_or}
use Rattle.std.specs.List.{list_any, list_all, filter, find, flat_map, filter_map, range_with_len, cons_option}
use Rattle.std.proofs.lemmas.Bool.{or_left, or_right, and_parts, and_from}
use Rattle.std.proofs.lemmas.List.Elements.{Contains-append_left, Contains-append_right, Contains-append_cases}
use Rattle.vk_model.specs.Basics.{below}
use Rattle.vk_model.proofs.Lists.Truths.{clash}

-- ---- where a member is

pub none_in : {X : Type 0} (x : X) → Contains [] x → ⊥
none_in x c = let none : c.0 < 0 = c.1 in omega arith

pub contains-cons : {X : Type 0} (y : X) (ys : List X) (x : X) → Contains (y ∷ ys) x → (y ≡ x) ⊎ Contains ys x
contains-cons y ys x c = go c.0 c.1 c.2
  where
    go : (k : ℕ) → k < length (y ∷ ys) → slice_index_or (y ∷ ys) k x ≡ x → (y ≡ x) ⊎ Contains ys x
    go zero lt at = inl at
    go (suc k) lt at = inr (k, omega arith, at)

pub contains-head : {X : Type 0} (y : X) (ys : List X) → Contains (y ∷ ys) y
contains-head y ys = (0, omega arith, refl)

pub contains-tail : {X : Type 0} (y : X) (ys : List X) (x : X) → Contains ys x → Contains (y ∷ ys) x
contains-tail y ys x c = (suc c.0, omega (arith, c.1), c.2)

pub only_one : {X : Type 0} (a b : X) → Contains (a ∷ []) b → a ≡ b
only_one a b c = ⊎_elim (λ e. e) (λ later. absurd (none_in b later)) (contains-cons a [] b c)

pub place_has : {X : Type 0} (xs : List X) (k : ℕ) (x : X) → slice_get xs k ≡ Some x → Contains xs x
place_has [] k x e = absurd cc
place_has {X} (y ∷ ys) zero x e = let same : y ≡ x = cc in subst (λ (z : X). Contains (y ∷ ys) z) same (contains-head y ys)
place_has (y ∷ ys) (suc k) x e = contains-tail y ys x (place_has ys k x e)

-- ---- tests of members

pub member_passes : {X : Type 0} (f : X → Bool) (xs : List X) (x : X) → Contains xs x → IsTrue (f x) → IsTrue (list_any f xs)
member_passes f [] x c h = absurd (none_in x c)
member_passes f (y ∷ ys) x c h = ⊎_elim (λ e. or_left (f y) (list_any f ys) (ap f e ∙ h)) (λ later. or_right (f y) (list_any f ys) (member_passes f ys x later h)) (contains-cons y ys x c)

-- where some member passes a test, here is one
pub some_member : {X : Type 0} (f : X → Bool) (xs : List X) → IsTrue (list_any f xs) → (x : X) × Contains xs x × IsTrue (f x)
some_member f [] h = absurd cc
some_member {X} f (x ∷ xs) h = go (f x) refl h (some_member f xs)
  where
    go : (b : Bool) → f x ≡ b → IsTrue (b || list_any f xs) → (IsTrue (list_any f xs) → (y : X) × Contains xs y × IsTrue (f y)) → (y : X) × Contains (x ∷ xs) y × IsTrue (f y)
    go true e h rest = (x, contains-head x xs, e)
    go false e h rest = let r = rest h in (r.0, contains-tail x xs r.0 r.1, r.2)

-- where all pass a test, a member does
pub all_passes : {X : Type 0} (f : X → Bool) (xs : List X) (x : X) → IsTrue (list_all f xs) → Contains xs x → IsTrue (f x)
all_passes f [] x h c = absurd (none_in x c)
all_passes {X} f (y ∷ ys) x h c = ⊎_elim (λ e. subst (λ (z : X). IsTrue (f z)) e (and_parts _ _ h).0) (λ later. all_passes f ys x (and_parts _ _ h).1 later) (contains-cons y ys x c)

pub each_of : {X : Type 0} (f : X → Bool) (xs : List X) → ((x : X) → Contains xs x → IsTrue (f x)) → IsTrue (list_all f xs)
each_of f [] each = refl
each_of f (x ∷ xs) each = and_from (f x) (list_all f xs) (each x (contains-head x xs)) (each_of f xs (λ y c. each y (contains-tail x xs y c)))

-- where each member fails a test, none passes it
pub none_passes_any : {X : Type 0} (f : X → Bool) (xs : List X) → ((x : X) → Contains xs x → f x ≡ false) → list_any f xs ≡ false
none_passes_any f [] fails = refl
none_passes_any f (x ∷ xs) fails = rw (fails x (contains-head x xs), none_passes_any f xs (λ y c. fails y (contains-tail x xs y c))) refl

-- tests that agree on the members of a list
pub any_same : {X : Type 0} (f g : X → Bool) (xs : List X) → ((x : X) → Contains xs x → f x ≡ g x) → list_any f xs ≡ list_any g xs
any_same f g [] same = refl
any_same f g (x ∷ xs) same = rw (same x (contains-head x xs), any_same f g xs (λ y c. same y (contains-tail x xs y c))) refl

-- a test of what a map makes
pub any_map : {A B : Type 0} (f : B → Bool) (g : A → B) (xs : List A) → list_any f (map g xs) ≡ list_any (λ x. f (g x)) xs
any_map f g [] = refl
any_map f g (x ∷ xs) = ap (λ (t : Bool). f (g x) || t) (any_map f g xs)

-- a test that a member passes is passed in the part of the list that has it
pub any_filter : {X : Type 0} (f g : X → Bool) (xs : List X) (x : X) → Contains xs x → IsTrue (g x) → IsTrue (f x) → IsTrue (list_any f (filter g xs))
any_filter f g [] x c h k = absurd (none_in x c)
any_filter {X} f g (y ∷ ys) x c h k = ⊎_elim (λ e. here (g y) (ap g e ∙ h) (ap f e ∙ k)) (λ later. there (g y) (any_filter f g ys x later h k)) (contains-cons y ys x c)
  where
    here : (b : Bool) → b ≡ true → f y ≡ true → IsTrue (list_any f (cond b (y ∷ filter g ys) (filter g ys)))
    here true e k = rw k refl
    here false e k = absurd cc

    there : (b : Bool) → IsTrue (list_any f (filter g ys)) → IsTrue (list_any f (cond b (y ∷ filter g ys) (filter g ys)))
    there true h = or_right (f y) _ h
    there false h = h

pub filtered : {X : Type 0} (f : X → Bool) (xs : List X) (x : X) → Contains (filter f xs) x → Contains xs x × IsTrue (f x)
filtered f [] x c = absurd (none_in x c)
filtered {X} f (y ∷ ys) x c = go (f y) refl (λ later. let r = filtered f ys x later in (contains-tail y ys x r.0, r.1)) c
  where
    go : (b : Bool) → f y ≡ b → (Contains (filter f ys) x → Contains (y ∷ ys) x × IsTrue (f x)) → Contains (cond b (y ∷ filter f ys) (filter f ys)) x → Contains (y ∷ ys) x × IsTrue (f x)
    go false e rest c = rest c
    go true e rest c = ⊎_elim
        (λ same. (subst (λ (z : X). Contains (y ∷ ys) z) same (contains-head y ys), subst (λ (z : X). IsTrue (f z)) same e))
        rest (contains-cons y (filter f ys) x c)

pub found : {X : Type 0} (f : X → Bool) (xs : List X) (x : X) → find f xs ≡ Some x → Contains xs x × IsTrue (f x)
found f [] x e = absurd cc
found {X} f (y ∷ ys) x e = go (f y) refl e (found f ys x)
  where
    go : (b : Bool) → f y ≡ b → cond b (Some y) (find f ys) ≡ Some x → (find f ys ≡ Some x → Contains ys x × IsTrue (f x)) → Contains (y ∷ ys) x × IsTrue (f x)
    go true h e rest = let same : y ≡ x = cc in (subst (λ (z : X). Contains (y ∷ ys) z) same (contains-head y ys), subst (λ (z : X). IsTrue (f z)) same h)
    go false h e rest = let r = rest e in (contains-tail y ys x r.0, r.1)

-- ---- members of what is made of lists

pub map_has : {X Y : Type 0} (f : X → Y) (xs : List X) (x : X) → Contains xs x → Contains (map f xs) (f x)
map_has f [] x c = absurd (none_in x c)
map_has {X} {Y} f (y ∷ ys) x c = ⊎_elim
    (λ e. subst (λ (z : X). Contains (f y ∷ map f ys) (f z)) e (contains-head (f y) (map f ys)))
    (λ later. contains-tail (f y) (map f ys) (f x) (map_has f ys x later)) (contains-cons y ys x c)

pub mapped_from : {X Y : Type 0} (f : X → Y) (xs : List X) (y : Y) → Contains (map f xs) y → (x : X) × Contains xs x × (f x ≡ y)
mapped_from f [] y c = absurd (none_in y c)
mapped_from f (x ∷ xs) y c = ⊎_elim (λ e. (x, contains-head x xs, e)) (λ later. let r = mapped_from f xs y later in (r.0, contains-tail x xs r.0 r.1, r.2)) (contains-cons (f x) (map f xs) y c)

-- a member of one of several lists is one of the lists together
pub part_has : {X : Type 0} (parts : List (List X)) (k : ℕ) (part : List X) (x : X) → slice_get parts k ≡ Some part → Contains part x → Contains (flat_map (λ p. p) parts) x
part_has [] k part x e c = absurd cc
part_has {X} (p ∷ parts) zero part x e c = let same : p ≡ part = cc in Contains-append_left p (flat_map (λ p. p) parts) x (subst (λ (l : List X). Contains l x) (sym same) c)
part_has (p ∷ parts) (suc k) part x e c = Contains-append_right p (flat_map (λ p. p) parts) x (part_has parts k part x e c)

pub flat_from : {X Y : Type 0} (f : X → List Y) (xs : List X) (y : Y) → Contains (flat_map f xs) y → (x : X) × Contains xs x × Contains (f x) y
flat_from f [] y c = absurd (none_in y c)
flat_from f (x ∷ xs) y c = ⊎_elim (λ a. (x, contains-head x xs, a)) (λ later. let r = flat_from f xs y later in (r.0, contains-tail x xs r.0 r.1, r.2)) (Contains-append_cases (f x) (flat_map f xs) y c)

pub chosen_has : {X Y : Type 0} (f : X → Option Y) (xs : List X) (x : X) (y : Y) → Contains xs x → f x ≡ Some y → Contains (filter_map f xs) y
chosen_has f [] x y c e = absurd (none_in x c)
chosen_has {X} {Y} f (z ∷ xs) x y c e = ⊎_elim (λ same. here (f z) (ap f same ∙ e)) (λ later. there (f z) (chosen_has f xs x y later e)) (contains-cons z xs x c)
  where
    here : (o : Option Y) → o ≡ Some y → Contains (cons_option o (filter_map f xs)) y
    here None h = absurd cc
    here (Some w) h = let same : w ≡ y = cc in subst (λ (v : Y). Contains (w ∷ filter_map f xs) v) same (contains-head w (filter_map f xs))

    there : (o : Option Y) → Contains (filter_map f xs) y → Contains (cons_option o (filter_map f xs)) y
    there None h = h
    there (Some w) h = contains-tail w (filter_map f xs) y h

pub chosen_from : {X Y : Type 0} (f : X → Option Y) (xs : List X) (y : Y) → Contains (filter_map f xs) y → (x : X) × Contains xs x × (f x ≡ Some y)
chosen_from f [] y c = absurd (none_in y c)
chosen_from {X} {Y} f (z ∷ xs) y c = go (f z) refl c (chosen_from f xs y)
  where
    go : (o : Option Y) → f z ≡ o → Contains (cons_option o (filter_map f xs)) y → (Contains (filter_map f xs) y → (x : X) × Contains xs x × (f x ≡ Some y)) → (x : X) × Contains (z ∷ xs) x × (f x ≡ Some y)
    go None e c rest = let r = rest c in (r.0, contains-tail z xs r.0 r.1, r.2)
    go (Some w) e c rest = ⊎_elim (λ same. (z, contains-head z xs, e ∙ ap Some same)) (λ later. let r = rest later in (r.0, contains-tail z xs r.0 r.1, r.2)) (contains-cons w (filter_map f xs) y c)

pub numbers_have : (a n k : ℕ) → k < n → Contains (range_with_len a n) (a + k)
numbers_have a zero k lt = absurd (omega arith)
numbers_have a (suc n) zero lt = subst (λ (z : ℕ). Contains (range_with_len a (suc n)) z) (let e : a ≡ a + 0 = omega arith in e) (contains-head a (range_with_len (a + 1) n))
numbers_have a (suc n) (suc k) lt = subst (λ (z : ℕ). Contains (range_with_len a (suc n)) z) (let e : (a + 1) + k ≡ a + suc k = omega arith in e) (contains-tail a (range_with_len (a + 1) n) ((a + 1) + k) (numbers_have (a + 1) n k (omega arith)))

pub range_from : (a n k : ℕ) → Contains (range_with_len a n) k → (a ≤ k) × (k < a + n)
range_from a zero k c = absurd (none_in k c)
range_from a (suc n) k c = ⊎_elim (λ e. (omega (arith, e), omega (arith, e))) (λ later. let r = range_from (a + 1) n k later in let low = r.0 in let high = r.1 in (omega arith, omega arith)) (contains-cons a (range_with_len (a + 1) n) k c)

pub below_from : (n k : ℕ) → Contains (below n) k → k < n
below_from n k c = let r = range_from 0 n k c in omega (arith, r.1)

pub filter_has : {X : Type 0} (f : X → Bool) (xs : List X) (x : X) → Contains xs x → IsTrue (f x) → Contains (filter f xs) x
filter_has f [] x c h = absurd (none_in x c)
filter_has {X} f (y ∷ ys) x c h = go (f y) refl (filter_has f ys x) (contains-cons y ys x c)
  where
    go : (b : Bool) → f y ≡ b → (Contains ys x → IsTrue (f x) → Contains (filter f ys) x) → (y ≡ x) ⊎ Contains ys x → Contains (cond b (y ∷ filter f ys) (filter f ys)) x
    go true e rest (inl same) = subst (λ (z : X). Contains (y ∷ filter f ys) z) same (contains-head y (filter f ys))
    go true e rest (inr later) = contains-tail y (filter f ys) x (rest later h)
    go false e rest (inl same) = absurd (clash {b = (f x)} h (ap f (sym same) ∙ e))
    go false e rest (inr later) = rest later h

pub flat_has : {X Y : Type 0} (f : X → List Y) (xs : List X) (x : X) (y : Y) → Contains xs x → Contains (f x) y → Contains (flat_map f xs) y
flat_has f [] x y c h = absurd (none_in x c)
flat_has {X} {Y} f (z ∷ zs) x y c h = ⊎_elim
    (λ same. Contains-append_left (f z) (flat_map f zs) y (subst (λ (w : X). Contains (f w) y) (sym same) h))
    (λ later. Contains-append_right (f z) (flat_map f zs) y (flat_has f zs x y later h)) (contains-cons z zs x c)
