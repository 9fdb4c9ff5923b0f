-- Counts of entries by their keys, when one is put in or taken away.
use Rattle.std.proofs.Common.{◌≡◌, ◌⊎◌, inl, inr, ◌+◌, ◌≤◌, ◌<◌, ℕ, List, [], ◌∷◌, Bool, true, false, not, ◌&&◌, ◌==◌, nat_lt, cond, refl, ap, sym, ◌∙◌, arith}
use Rattle.std.specs.Prelude.{Contains, count_by}
use Rattle.std.specs.Map.{remove_entry}
use Rattle.std.specs.Ordering.{nat_cmp, is_eq, match_ordering}
use Rattle.std.specs.BTreeMap.{insert_entry, is_at}
use Rattle.std.specs.declared.cmp.Ordering.TheVariants.{Less, Equal, Greater}
use Rattle.std.proofs.lemmas.Bool.{ltb-true, ne_eqb, false_from_ne_true}
use Rattle.vk_model.proofs.Lists.Members.{contains-cons, member_passes, none_in}
use Rattle.vk_model.proofs.Lists.Truths.{clash}
use Rattle.vk_history.proofs.Living.Counting.{count-cons, count_same, any_counted, swapped}
use Rattle.vk_history.proofs.Living.Occupants.{count_none}

-- ---- counts of 0 and 1

pub none_counted : {A : Type 0} (f : A → Bool) (xs : List A) (x : A) → count_by f xs ≡ 0 → Contains xs x → f x ≡ false
none_counted f xs x none c = false_from_ne_true (f x) (λ h. clash (member_passes f xs x c h) (any_counted f xs ∙ ap (nat_lt 0) none))

pub some_counted : {A : Type 0} (f : A → Bool) (xs : List A) (x : A) → Contains xs x → f x ≡ true → 0 < count_by f xs
some_counted f xs x c h = ltb-true 0 (count_by f xs) (sym (any_counted f xs) ∙ member_passes f xs x c h)

-- two parts of a count
pub split_counted : {A : Type 0} (f g h : A → Bool) (xs : List A) → ((x : A) → ◌≡◌ {A = ℕ} (cond (f x) 1 0) (cond (g x) 1 0 + cond (h x) 1 0)) → count_by f xs ≡ count_by g xs + count_by h xs
split_counted f g h [] parts = refl
split_counted f g h (x ∷ xs) parts =
    let a = count-cons f x xs in
    let b = count-cons g x xs in
    let c = count-cons h x xs in
    let here = parts x in
    let rest = split_counted f g h xs parts in
    omega (arith, a, b, c, here, rest)

-- of the one item that passes
pub one_counted : {A : Type 0} (f g : A → Bool) (xs : List A) (x : A) → Contains xs x → f x ≡ true → count_by f xs ≤ 1 → count_by (λ y. f y && g y) xs ≡ cond (g x) 1 0
one_counted f g [] x c h most = absurd (none_in x c)
one_counted {A} f g (y ∷ ys) x c h most = go (contains-cons y ys x c) (one_counted f g ys x) where
  fails : (z : A) → f z ≡ false → (f z && g z) ≡ false
  fails z e = ap (λ b. b && g z) e

  go : (y ≡ x) ⊎ Contains ys x → (Contains ys x → f x ≡ true → count_by f ys ≤ 1 → count_by (λ y. f y && g y) ys ≡ cond (g x) 1 0) → count_by (λ y. f y && g y) (y ∷ ys) ≡ cond (g x) 1 0
  go (inl same) rest =
      let passes : f y ≡ true = ap f same ∙ h in
      let first = count-cons f y ys in
      let one : ◌≡◌ {A = ℕ} (cond (f y) 1 0) 1 = ap (λ b. cond b 1 0) passes in
      let others : count_by f ys ≡ 0 = omega (arith, first, one, most) in
      let none : count_by (λ y. f y && g y) ys ≡ 0 = count_none (λ y. f y && g y) ys (λ z d. fails z (none_counted f ys z others d)) in
      let head = count-cons (λ y. f y && g y) y ys in
      let value : ◌≡◌ {A = ℕ} (cond (f y && g y) 1 0) (cond (g x) 1 0) = ap (λ b. cond (b && g y) 1 0) passes ∙ ap (λ (z : A). cond (g z) 1 0) same in
      omega (arith, none, head, value)
  go (inr later) rest =
      let some = some_counted f ys x later h in
      let first = count-cons f y ys in
      let out : f y ≡ false = pick (f y) refl some first in
      let head = count-cons (λ y. f y && g y) y ys in
      let value : ◌≡◌ {A = ℕ} (cond (f y && g y) 1 0) 0 = ap (λ b. cond b 1 0) (fails y out) in
      let fits : count_by f ys ≤ 1 = omega (arith, first, most) in
      let tail = rest later h fits in
      omega (arith, head, value, tail)
    where
      pick : (b : Bool) → f y ≡ b → 0 < count_by f ys → count_by f (y ∷ ys) ≡ cond (f y) 1 0 + count_by f ys → f y ≡ false
      pick false e some first = e
      pick true e some first = absurd (let one : ◌≡◌ {A = ℕ} (cond (f y) 1 0) 1 = ap (λ b. cond b 1 0) e in omega (arith, one, some, first, most))

-- ---- entries

key_is : (o k : ℕ) → is_at (nat_cmp o) k ≡ (k == o)
key_is o k = go (nat_lt o k) refl (o == k) refl where
  go : (a : Bool) → nat_lt o k ≡ a → (b : Bool) → (o == k) ≡ b → is_eq (cond a Less (cond b Equal Greater)) ≡ (k == o)
  go true e b f = let lt = ltb-true o k e in sym (ne_eqb k o (λ same. omega (arith, lt, same)))
  go false e true f = sym (swapped k o ∙ f)
  go false e false f = sym (swapped k o ∙ f)

module _ {V : Type 0} where
  abbrev pub has_key : ℕ → ℕ × V → Bool
  has_key k e = e.0 == k

  -- an entry is put in at a key that none has
  pub inserted : (t : ℕ × V → Bool) (k : ℕ) (v : V) (es : List (ℕ × V)) → count_by (has_key k) es ≡ 0 → count_by t (insert_entry nat_cmp es k v) ≡ cond (t (k, v)) 1 0 + count_by t es
  inserted t k v [] none = count-cons t (k, v) []
  inserted t k v (e ∷ es) none =
      let first = count-cons (has_key k) e es in
      go (nat_lt k e.0) (k == e.0) refl (inserted t k v es (omega (arith, first, none)))
    where
      go : (a b : Bool) → (k == e.0) ≡ b → count_by t (insert_entry nat_cmp es k v) ≡ cond (t (k, v)) 1 0 + count_by t es
          → count_by t (match_ordering (cond a Less (cond b Equal Greater)) ((k, v) ∷ e ∷ es) ((e.0, v) ∷ es) (e ∷ insert_entry nat_cmp es k v)) ≡ cond (t (k, v)) 1 0 + count_by t (e ∷ es)
      go true b is rest = count-cons t (k, v) (e ∷ es)
      go false true is rest = absurd (
          let first = count-cons (has_key k) e es in
          let one : ◌≡◌ {A = ℕ} (cond (has_key k e) 1 0) 1 = ap (λ b. cond b 1 0) (swapped e.0 k ∙ is) in
          omega (arith, first, one, none))
      go false false is rest =
          let a = count-cons t e (insert_entry nat_cmp es k v) in
          let b = count-cons t e es in
          omega (arith, a, b, rest)

  -- the one of a key is taken away
  pub removed : (t : ℕ × V → Bool) (o : ℕ) (es : List (ℕ × V)) → count_by (has_key o) es ≤ 1 → count_by t (remove_entry (is_at (nat_cmp o)) es) ≡ count_by (λ e. not (has_key o e) && t e) es
  removed t o [] most = refl
  removed t o (e ∷ es) most =
      let first = count-cons (has_key o) e es in
      rw (key_is o e.0) (go (has_key o e) refl first (removed t o es (omega (arith, first, most))))
    where
      go : (b : Bool) → has_key o e ≡ b → count_by (has_key o) (e ∷ es) ≡ cond (has_key o e) 1 0 + count_by (has_key o) es → count_by t (remove_entry (is_at (nat_cmp o)) es) ≡ count_by (λ e. not (has_key o e) && t e) es
          → count_by t (cond b es (e ∷ remove_entry (is_at (nat_cmp o)) es)) ≡ count_by (λ e. not (has_key o e) && t e) (e ∷ es)
      go true is first rest =
          let one : ◌≡◌ {A = ℕ} (cond (has_key o e) 1 0) 1 = ap (λ b. cond b 1 0) is in
          let none : count_by (has_key o) es ≡ 0 = omega (arith, first, one, most) in
          let same = count_same t (λ e. not (has_key o e) && t e) es (λ d c. sym (ap (λ b. not b && t d) (none_counted (has_key o) es d none c))) in
          let head = count-cons (λ e. not (has_key o e) && t e) e es in
          let out : ◌≡◌ {A = ℕ} (cond (not (has_key o e) && t e) 1 0) 0 = ap (λ b. cond (not b && t e) 1 0) is in
          omega (arith, same, head, out)
      go false is first rest =
          let a = count-cons t e (remove_entry (is_at (nat_cmp o)) es) in
          let b = count-cons (λ e. not (has_key o e) && t e) e es in
          let same : ◌≡◌ {A = ℕ} (cond (not (has_key o e) && t e) 1 0) (cond (t e) 1 0) = ap (λ b. cond (not b && t e) 1 0) is in
          omega (arith, a, b, same, rest)
