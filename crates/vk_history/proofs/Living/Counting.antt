-- Counts in lists, and lists from which numbers are taken away.
use Rattle.std.proofs.Common.{◌≡◌, ◌+◌, ℕ, List, [], ◌∷◌, ◌++◌, Bool, true, false, not, ◌&&◌, ◌||◌, ◌==◌, nat_lt, cond, refl, ap, sym, ◌∙◌, arith}
use Rattle.std.specs.Prelude.{Contains, count_by, nat_eq, Result, Ok, Err, OnOk}
use Rattle.std.specs.List.{list_any, filter}
use Rattle.std.proofs.lemmas.Bool.{eqb-true, eq-eqb, false_from_ne_true, or_parts, or_from}
use Rattle.std.proofs.lemmas.Bool.Decides.{nat_tests}
use Rattle.std.proofs.lemmas.List.Sums.{sum_by-cons}
use Rattle.vk_model.specs.Basics.{among, some_pair}
use Rattle.vk_model.proofs.Lists.Members.{contains-head, contains-tail, filter_has, filtered, member_passes, some_member}
use Rattle.vk_model.proofs.Lists.Truths.{bool_same, clash}
use Rattle.vk_model.proofs.Lists.Items.{filter_each}

pub count-cons : {A : Type 0} (f : A → Bool) (x : A) (xs : List A) → count_by f (x ∷ xs) ≡ cond (f x) 1 0 + count_by f xs
count-cons f x xs = sum_by-cons (λ x. cond (f x) 1 0) x xs

-- some item passes where a count is above 0
pub any_counted : {A : Type 0} (f : A → Bool) (xs : List A) → list_any f xs ≡ nat_lt 0 (count_by f xs)
any_counted f [] = refl
any_counted f (x ∷ xs) = go (f x) (any_counted f xs) ∙ sym (ap (nat_lt 0) (count-cons f x xs)) where
  go : (b : Bool) → list_any f xs ≡ nat_lt 0 (count_by f xs) → (b || list_any f xs) ≡ nat_lt 0 (cond b 1 0 + count_by f xs)
  go true e = grind (arith, nat_tests)
  go false e = e ∙ ap (nat_lt 0) (let zero_left : count_by f xs ≡ 0 + count_by f xs = omega arith in zero_left)

-- tests that agree count the same
pub count_same : {A : Type 0} (f g : A → Bool) (xs : List A) → ((x : A) → Contains xs x → f x ≡ g x) → count_by f xs ≡ count_by g xs
count_same f g [] same = refl
count_same f g (x ∷ xs) same =
    let rest = count_same f g xs (λ y c. same y (contains-tail x xs y c)) in
    count-cons f x xs ∙ ap (λ b. cond b 1 0 + count_by f xs) (same x (contains-head x xs)) ∙ ap (λ n. cond (g x) 1 0 + n) rest ∙ sym (count-cons g x xs)

-- two filters, one after the other
pub both_kept : {A : Type 0} (f g h : A → Bool) (xs : List A) → ((x : A) → Contains xs x → h x ≡ (f x && g x)) → filter h xs ≡ filter f (filter g xs)
both_kept f g h [] same = refl
both_kept {A} f g h (x ∷ xs) same = rw (same x (contains-head x xs)) (go (f x) refl (g x) (both_kept f g h xs (λ y c. same y (contains-tail x xs y c)))) where
  go : (a : Bool) → f x ≡ a → (b : Bool) → filter h xs ≡ filter f (filter g xs) → cond (a && b) (x ∷ filter h xs) (filter h xs) ≡ filter f (cond b (x ∷ filter g xs) (filter g xs))
  go true e true rest = rw e (ap (λ ys. x ∷ ys) rest)
  go true e false rest = rest
  go false e true rest = rw e rest
  go false e false rest = rest

-- ---- numbers

pub swapped : (a b : ℕ) → (a == b) ≡ (b == a)
swapped a b = bool_same (a == b) (b == a) (λ h. eq-eqb b a (sym (eqb-true a b h))) (λ h. eq-eqb a b (sym (eqb-true b a h)))

pub among_has : (x : ℕ) (xs : List ℕ) → Contains xs x → among x xs ≡ true
among_has x xs c = member_passes (λ y. x == y) xs x c (eq-eqb x x refl)

pub among_from : (x : ℕ) (xs : List ℕ) → among x xs ≡ true → Contains xs x
among_from x xs h = let some = some_member (λ y. x == y) xs h in rw (eqb-true x some.0 some.2) some.1

pub apart_filter : (f : ℕ → Bool) (xs : List ℕ) → some_pair nat_eq xs ≡ false → some_pair nat_eq (filter f xs) ≡ false
apart_filter f [] apart = refl
apart_filter f (x ∷ xs) apart = let parts = or_parts (among x xs) (some_pair nat_eq xs) apart in go (f x) parts.0 (apart_filter f xs parts.1) where
  go : (b : Bool) → among x xs ≡ false → some_pair nat_eq (filter f xs) ≡ false → some_pair nat_eq (cond b (x ∷ filter f xs) (filter f xs)) ≡ false
  go false out rest = rest
  go true out rest = or_from (among x (filter f xs)) (some_pair nat_eq (filter f xs)) (false_from_ne_true (among x (filter f xs)) (λ h. clash (among_has x xs (filtered f xs x (among_from x (filter f xs) h)).0) out)) rest

pub apart_end : (xs ys : List ℕ) → some_pair nat_eq (xs ++ ys) ≡ false → some_pair nat_eq ys ≡ false
apart_end [] ys apart = apart
apart_end (x ∷ xs) ys apart = apart_end xs ys (or_parts (among x (xs ++ ys)) (some_pair nat_eq (xs ++ ys)) apart).1

-- what isn't there isn't taken away
out_kept : (e : ℕ) (xs : List ℕ) → among e xs ≡ false → filter (λ j. not (j == e)) xs ≡ xs
out_kept e xs out = filter_each (λ j. not (j == e)) xs (λ j c. ap not (false_from_ne_true (j == e) (λ h. clash (rw (← eqb-true j e h) (among_has j xs c)) out)))

-- a count when one number is taken away
module _ (f : ℕ → Bool) (e : ℕ) where
  one_gone : (xs : List ℕ) → some_pair nat_eq xs ≡ false → among e xs ≡ true → count_by f (filter (λ j. not (j == e)) xs) + cond (f e) 1 0 ≡ count_by f xs
  one_gone [] apart there = absurd cc
  one_gone (x ∷ xs) apart there = let parts = or_parts (among x xs) (some_pair nat_eq xs) apart in go (x == e) refl parts.0 (one_gone xs parts.1) where
    go : (b : Bool) → (x == e) ≡ b → among x xs ≡ false → (among e xs ≡ true → count_by f (filter (λ j. not (j == e)) xs) + cond (f e) 1 0 ≡ count_by f xs) → count_by f (cond (not b) (x ∷ filter (λ j. not (j == e)) xs) (filter (λ j. not (j == e)) xs)) + cond (f e) 1 0 ≡ count_by f (x ∷ xs)
    go true is out later_on =
        let same : x ≡ e = eqb-true x e is in
        let kept = out_kept e xs (rw (← same) out) in
        let first = count-cons f x xs in
        let passes : ◌≡◌ {A = ℕ} (cond (f x) 1 0) (cond (f e) 1 0) = ap (λ j. cond (f j) 1 0) same in
        rw kept (omega (arith, first, passes))
    go false is out later_on =
        let later : among e xs ≡ true = rw (swapped e x, is) at there in
        let rest = later_on later in
        let first = count-cons f x xs in
        let next = count-cons f x (filter (λ j. not (j == e)) xs) in
        omega (arith, rest, first, next)

  -- where it doesn't count, the count stays
  none_gone : (xs : List ℕ) → f e ≡ false → count_by f (filter (λ j. not (j == e)) xs) ≡ count_by f xs
  none_gone [] fails = refl
  none_gone (x ∷ xs) fails = go (x == e) refl (none_gone xs fails) where
    go : (b : Bool) → (x == e) ≡ b → count_by f (filter (λ j. not (j == e)) xs) ≡ count_by f xs → count_by f (cond (not b) (x ∷ filter (λ j. not (j == e)) xs) (filter (λ j. not (j == e)) xs)) ≡ count_by f (x ∷ xs)
    go true is rest =
        let first = count-cons f x xs in
        let fails_here : ◌≡◌ {A = ℕ} (cond (f x) 1 0) 0 = ap (λ j. cond (f j) 1 0) (eqb-true x e is) ∙ ap (λ b. cond b 1 0) fails in
        omega (arith, first, fails_here, rest)
    go false is rest = count-cons f x (filter (λ j. not (j == e)) xs) ∙ ap (λ n. cond (f x) 1 0 + n) rest ∙ sym (count-cons f x xs)

  pub taken_away : (xs : List ℕ) → some_pair nat_eq xs ≡ false → (f e ≡ true → among e xs ≡ true) → count_by f (filter (λ j. not (j == e)) xs) + cond (f e) 1 0 ≡ count_by f xs
  taken_away xs apart there = go (f e) refl where
    go : (b : Bool) → f e ≡ b → count_by f (filter (λ j. not (j == e)) xs) + cond b 1 0 ≡ count_by f xs
    go true is = ap (λ b. count_by f (filter (λ j. not (j == e)) xs) + cond b 1 0) (sym is) ∙ one_gone xs apart (there is)
    go false is = let rest = none_gone xs is in omega (arith, rest)

-- a count when several are taken away
pub all_taken : (f : ℕ → Bool) (es xs : List ℕ) → some_pair nat_eq es ≡ false → some_pair nat_eq xs ≡ false → ((e : ℕ) → Contains es e → f e ≡ true → among e xs ≡ true)
    → count_by f (filter (λ j. not (among j es)) xs) + count_by f es ≡ count_by f xs
all_taken f [] xs apart lists there = let kept : filter (λ j. true) xs ≡ xs = filter_each (λ j. true) xs (λ j c. refl) in rw kept (omega arith)
all_taken f (e ∷ es) xs apart lists there =
    let parts = or_parts (among e es) (some_pair nat_eq es) apart in
    let left : List ℕ = filter (λ j. not (among j es)) xs in
    let rest = all_taken f es xs parts.1 lists (λ d c h. there d (contains-tail e es d c) h) in
    let split : filter (λ j. not (among j (e ∷ es))) xs ≡ filter (λ j. not (j == e)) left = both_kept (λ j. not (j == e)) (λ j. not (among j es)) (λ j. not (among j (e ∷ es))) xs (λ j c. neither (j == e) (among j es)) in
    let one = taken_away f e left (apart_filter (λ j. not (among j es)) xs lists) (λ h. among_has e left (stays parts.0 (there e (contains-head e es) h))) in
    let first = count-cons f e es in
    let total : count_by f (filter (λ j. not (among j (e ∷ es))) xs) ≡ count_by f (filter (λ j. not (j == e)) left) = ap (count_by f) split in
    omega (arith, rest, one, first, total)
  where
    neither : (a b : Bool) → not (a || b) ≡ (not a && not b)
    neither true b = refl
    neither false b = refl

    stays : among e es ≡ false → among e xs ≡ true → Contains (filter (λ j. not (among j es)) xs) e
    stays out h = filter_has (λ j. not (among j es)) xs e (among_from e xs h) (ap not out)

-- what follows from two facts on a success
pub on_both : {T E P Q R : Type 0} (r : Result T E) → OnOk r P → OnOk r Q → (P → Q → R) → OnOk r R
on_both (Ok t) p q f = f p q
on_both (Err e) p q f = tt
