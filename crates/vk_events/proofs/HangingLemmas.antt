-- What hangs on queues, as numbers are hung and taken off.
use Rattle.std.proofs.Common.{◌≡◌, ◌≢◌, ◌⊎◌, inl, inr, ℕ, ◌+◌, ◌<◌, ◌≤◌, List, [], ◌∷◌, length, set, Bool, true, false, not, ◌&&◌, ◌==◌, nat_lt, refl, ap, sym, ◌∙◌, subst, arith, IsTrue, length-set}
use Rattle.std.specs.Prelude.{Contains, count_by, if◌then◌else◌, slice_index, slice_index_or}
use Rattle.std.specs.List.{sum_by}
use Rattle.std.specs.List.Sorted.{IsPermutation}
use Rattle.std.proofs.lemmas.Bool.{cases_eq, eq-eqb, ne_eqb, lt-ltb}
use Rattle.std.proofs.lemmas.List.{get_or-set_same, get_or-set_other, set-get_or, get_or_default}
use Rattle.std.proofs.lemmas.List.Sums.{sum_by-cons, sum_by-set, get_or-le-sum_by}
use Rattle.std.proofs.lemmas.List.Sorted.{length_permutation, IsPermutation-sym, Contains-permutation, sum_by-IsPermutation}
use Rattle.vk_model.proofs.Lists.Members.{none_in, contains-cons, contains-head, contains-tail}
use Rattle.vk_events.specs.Inner.Hooks.{Hung, times}
use Rattle.vk_events.specs.Inner.Hanging.{pairs_on, count_of, IsHanging}

-- ---- how often a number hangs

times-cons : (i : ℕ) (x : ℕ × ℕ) (xs : List (ℕ × ℕ)) → times i (x ∷ xs) ≡ (if x.1 == i then 1 else 0) + times i xs
times-cons i x xs = sum_by-cons (λ (y : ℕ × ℕ). if y.1 == i then 1 else 0) x xs

pub times-own : (i k : ℕ) (xs : List (ℕ × ℕ)) → times i ((k, i) ∷ xs) ≡ 1 + times i xs
times-own i k xs = times-cons i (k, i) xs ∙ ap (λ (b : Bool). (if b then 1 else 0) + times i xs) (eq-eqb i i refl)

pub times-other : (i j k : ℕ) (xs : List (ℕ × ℕ)) → i ≢ j → times i ((k, j) ∷ xs) ≡ times i xs
times-other i j k xs ne =
    let e : times i ((k, j) ∷ xs) ≡ 0 + times i xs = times-cons i (k, j) xs ∙ ap (λ (b : Bool). (if b then 1 else 0) + times i xs) (ne_eqb j i (λ e. ne (sym e))) in
    omega arith

pub times-same : (i : ℕ) (xs ys : List (ℕ × ℕ)) → IsPermutation xs ys → times i ys ≡ times i xs
times-same i xs ys p = sum_by-IsPermutation (λ (y : ℕ × ℕ). if y.1 == i then 1 else 0) xs ys p

-- a number that is in no pair hangs nowhere, and one that is in a pair does
pub times-none : (i : ℕ) (xs : List (ℕ × ℕ)) → ((x : ℕ × ℕ) → Contains xs x → x.1 ≡ i → ⊥) → times i xs ≡ 0
times-none i [] never = refl
times-none i (x ∷ xs) never =
    let rest = times-none i xs (λ y c. never y (contains-tail x xs y c)) in
    let e : times i (x ∷ xs) ≡ 0 + times i xs = times-cons i x xs ∙ ap (λ (b : Bool). (if b then 1 else 0) + times i xs) (ne_eqb x.1 i (never x (contains-head x xs))) in
    omega arith

pub times-some : (xs : List (ℕ × ℕ)) (x : ℕ × ℕ) → Contains xs x → 0 < times x.1 xs
times-some [] x c = absurd (none_in x c)
times-some (y ∷ ys) x c = elim (contains-cons y ys x c) [
  | inl same ↦ (
      let e : times x.1 (y ∷ ys) ≡ 1 + times x.1 ys = times-cons x.1 y ys ∙ ap (λ (b : Bool). (if b then 1 else 0) + times x.1 ys) (eq-eqb y.1 x.1 (ap (λ (z : ℕ × ℕ). z.1) same)) in
      omega arith)
  | inr later ↦ (let more = times-some ys x later in let e = times-cons x.1 y ys in omega arith)
]

-- a number that hangs is in a pair
pub some_pair : (i : ℕ) (xs : List (ℕ × ℕ)) → 0 < times i xs → ((x : ℕ × ℕ) → Contains xs x → x.1 ≡ i → ⊥) → ⊥
some_pair i xs some never = let none = times-none i xs never in omega arith

abbrev pub nothing : Hung
nothing = record { pairs = []; room = 0 }

-- what hangs on a queue that is read
pub in_pairs : (hooks : List Hung) (q : ℕ) (h : Hung) → q < length hooks → (x : ℕ × ℕ) → Contains (pairs_on hooks q) x → Contains (slice_index_or hooks q h).pairs x
in_pairs hooks q h lt x there = subst (λ (g : Hung). Contains g.pairs x) (get_or_default hooks q nothing h lt) there

-- ---- one queue of four changes

module _ (hooks : List Hung) (four : length hooks ≡ 4) (q : ℕ) (on : q < 4) (h : Hung) where
  pairs_same : pairs_on (set hooks q h) q ≡ h.pairs
  pairs_same = ap (λ (x : Hung). x.pairs) (get_or-set_same hooks q h nothing (omega arith))

  pub pairs_other : (p : ℕ) → p ≢ q → pairs_on (set hooks q h) p ≡ pairs_on hooks p
  pairs_other p ne = ap (λ (x : Hung). x.pairs) (get_or-set_other hooks q p h nothing ne)

  -- what holds of each other queue, and of the changed one
  pub changed_at : (P : ℕ → List (ℕ × ℕ) → Type 0) → ((p : ℕ) → p < 4 → p ≢ q → P p (pairs_on hooks p)) → P q h.pairs → (p : ℕ) → p < 4 → P p (pairs_on (set hooks q h) p)
  changed_at P old new p low = elim (cases_eq p q) [
    | inl e ↦ subst (λ (r : ℕ). P r (pairs_on (set hooks q h) r)) (sym e) (subst (P q) (sym pairs_same) new)
    | inr ne ↦ subst (P p) (sym (pairs_other p ne)) (old p low ne)
  ]

  pub changed : (P : ℕ → List (ℕ × ℕ) → Type 0) → ((p : ℕ) → p < 4 → P p (pairs_on hooks p)) → P q h.pairs → (p : ℕ) → p < 4 → P p (pairs_on (set hooks q h) p)
  changed P old new p low = changed_at P (λ r rl ne. old r rl) new p low

  pub sum_changed : (i : ℕ) → sum_by (λ g. times i g.pairs) (set hooks q h) + times i (pairs_on hooks q) ≡ sum_by (λ g. times i g.pairs) hooks + times i h.pairs
  sum_changed i = sum_by-set (λ (g : Hung). times i g.pairs) hooks q h nothing (omega arith)

-- what a queue is left with when one is taken off is shorter
pub fewer : (hooks new : List Hung) → length hooks ≡ 4 → (q : ℕ) → q < 4 → (k i : ℕ) (h : Hung) → IsPermutation (pairs_on hooks q) ((k, i) ∷ h.pairs) → new ≡ set hooks q h → length (pairs_on new q) < length (pairs_on hooks q)
fewer hooks new four q on k i h off e =
    let long = length_permutation (pairs_on hooks q) ((k, i) ∷ h.pairs) off in
    let same = ap (λ (hs : List Hung). length (pairs_on hs q)) e ∙ ap (λ (ps : List (ℕ × ℕ)). length ps) (pairs_same hooks four q on h) in
    omega (arith, long, same)

-- a queue from which nothing is taken
pub untouched : (hooks new : List Hung) (q : ℕ) (h : Hung) → h ≡ slice_index_or hooks q h → new ≡ set hooks q h → new ≡ hooks
untouched hooks new q h same e = e ∙ ap (λ (g : Hung). set hooks q g) same ∙ set-get_or hooks q h

-- ---- numbers above none

lit : (v : ℕ) → 0 < v → ◌≡◌ {A = ℕ} (if nat_lt 0 v then 1 else 0) 1
lit v more = ap (λ (b : Bool). if b then 1 else 0) (lt-ltb 0 v more)

unlit : (v : ℕ) → v ≡ 0 → ◌≡◌ {A = ℕ} (if nat_lt 0 v then 1 else 0) 0
unlit v none = ap (λ (m : ℕ). if nat_lt 0 m then 1 else 0) none

-- ---- a number is taken off

module _ (hooks : List Hung) (lacking : List ℕ) (met : Hung) (counts : List (List ℕ)) (low high : ℕ → ℕ) (taken : ℕ → Bool) (is : IsHanging hooks lacking met counts low high taken)
    (q : ℕ) (on : q < 4) (k i : ℕ) (h : Hung) (within : k ≤ high q) (off : IsPermutation (pairs_on hooks q) ((k, i) ∷ h.pairs)) where
  there : Contains (pairs_on hooks q) (k, i)
  there = Contains-permutation ((k, i) ∷ h.pairs) (pairs_on hooks q) (k, i) (IsPermutation-sym (pairs_on hooks q) ((k, i) ∷ h.pairs) off) (contains-head (k, i) h.pairs)

  still : (x : ℕ × ℕ) → Contains h.pairs x → Contains (pairs_on hooks q) x
  still x c = Contains-permutation ((k, i) ∷ h.pairs) (pairs_on hooks q) x (IsPermutation-sym (pairs_on hooks q) ((k, i) ∷ h.pairs) off) (contains-tail (k, i) h.pairs x c)

  pub known : i < length counts
  known = (is.keys q (k, i) on there).0

  own_key : k ≡ count_of counts i q
  own_key = (is.keys q (k, i) on there).1

  was : times i (pairs_on hooks q) ≡ 1 + times i h.pairs
  was = sym (times-same i (pairs_on hooks q) ((k, i) ∷ h.pairs) off) ∙ times-own i k h.pairs

  gone : times i h.pairs ≡ 0
  gone = let most = is.once q i on in let w = was in omega arith

  others : (j : ℕ) → j ≢ i → times j h.pairs ≡ times j (pairs_on hooks q)
  others j ne = sym (times-other j i k h.pairs ne) ∙ times-same j (pairs_on hooks q) ((k, i) ∷ h.pairs) off

  less : (j : ℕ) → j ≢ i → sum_by (λ g. times j g.pairs) (set hooks q h) ≡ sum_by (λ g. times j g.pairs) hooks
  less j ne = let s = sum_changed hooks is.queues q on h j in let o = others j ne in omega arith

  one_less : sum_by (λ g. times i g.pairs) (set hooks q h) + 1 ≡ sum_by (λ g. times i g.pairs) hooks
  one_less = let s = sum_changed hooks is.queues q on h i in let w = was in omega arith

  pub in_lacking : i < length lacking
  in_lacking = let s = is.size in let lt = known in omega arith

  pub some : 0 < slice_index lacking i
  some = let l = is.lacks i known in let o = one_less in omega arith

  untaken : taken i ≡ false
  untaken = go (taken i) refl
    where
      go : (b : Bool) → taken i ≡ b → taken i ≡ false
      go true e = absurd (let z = (is.freed i e).1 in let s = some in omega arith)
      go false e = e

  keys-off : (p : ℕ) (x : ℕ × ℕ) → p < 4 → Contains (pairs_on (set hooks q h) p) x → (x.1 < length counts) × (x.0 ≡ count_of counts x.1 p)
  keys-off p x low c = changed hooks is.queues q on h (λ r ps. (y : ℕ × ℕ) → Contains ps y → (y.1 < length counts) × (y.0 ≡ count_of counts y.1 r))
      (λ r rl y d. is.keys r y rl d) (λ y d. is.keys q y on (still y d)) p low x c

  hangs-off : (p j : ℕ) → p < 4 → j < length counts → high p < count_of counts j p → times j (pairs_on (set hooks q h) p) ≡ 1
  hangs-off p j low here above = changed hooks is.queues q on h (λ r ps. high r < count_of counts j r → times j ps ≡ 1)
      (λ r rl a. is.hangs r j rl here a)
      (λ a. elim (cases_eq j i) [
        | inl e ↦ absurd (let same : count_of counts j q ≡ count_of counts i q = ap (λ (m : ℕ). count_of counts m q) e in let key = own_key in omega arith)
        | inr ne ↦ others j ne ∙ is.hangs q j on here a
      ]) p low above

  free-off : (p j : ℕ) → p < 4 → count_of counts j p ≤ low p → times j (pairs_on (set hooks q h) p) ≡ 0
  free-off p j pl le = changed hooks is.queues q on h (λ r ps. count_of counts j r ≤ low r → times j ps ≡ 0)
      (λ r rl a. is.free r j rl a)
      (λ a. elim (cases_eq j i) [
        | inl e ↦ subst (λ (m : ℕ). times m h.pairs ≡ 0) (sym e) gone
        | inr ne ↦ others j ne ∙ is.free q j on a
      ]) p pl le

  once-off : (p j : ℕ) → p < 4 → times j (pairs_on (set hooks q h) p) ≤ 1
  once-off p j pl = changed hooks is.queues q on h (λ r ps. times j ps ≤ 1)
      (λ r rl. is.once r j rl)
      (elim (cases_eq j i) [
        | inl e ↦ subst (λ (m : ℕ). times m h.pairs ≤ 1) (sym e) (let g = gone in omega arith)
        | inr ne ↦ (let o = others j ne in let m = is.once q j on in omega arith)
      ]) p pl

  pub has_room : 0 < met.room
  has_room =
      let one = lit (slice_index lacking i) some in
      let le = get_or-le-sum_by (λ (m : ℕ). if nat_lt 0 m then 1 else 0) lacking i 0 in_lacking in
      let r = is.room in
      omega (arith, one, le)

  module _ (v : ℕ) (down : v + 1 ≡ slice_index lacking i) where
    lacks-off : (j : ℕ) → j < length counts → slice_index (set lacking i v) j ≡ sum_by (λ g. times j g.pairs) (set hooks q h)
    lacks-off j here = elim (cases_eq j i) [
      | inl e ↦ subst (λ (m : ℕ). slice_index (set lacking i v) m ≡ sum_by (λ g. times m g.pairs) (set hooks q h)) (sym e)
          (let s = get_or-set_same lacking i v 0 in_lacking in let o = one_less in let l = is.lacks i known in omega arith)
      | inr ne ↦ get_or-set_other lacking i j v 0 ne ∙ is.lacks j here ∙ sym (less j ne)
    ]

    freed-off : (j : ℕ) → IsTrue (taken j) → (j < length counts) × (slice_index (set lacking i v) j ≡ 0)
    freed-off j t = ((is.freed j t).0, get_or-set_other lacking i j v 0 (λ e. no (subst (λ (m : ℕ). IsTrue (taken m)) e t)) ∙ (is.freed j t).1)
      where
        no : IsTrue (taken i) → ⊥
        no h = absurd (let z : false ≡ true = sym untaken ∙ h in cc)

    nonzero : sum_by (λ k. if nat_lt 0 k then 1 else 0) (set lacking i v) + 1 ≡ count_by (λ k. nat_lt 0 k) lacking + (if nat_lt 0 v then 1 else 0)
    nonzero =
        let s = sum_by-set (λ (k : ℕ). if nat_lt 0 k then 1 else 0) lacking i v 0 in_lacking in
        let one = lit (slice_index lacking i) some in
        omega (arith, s, one)

    -- it hangs on others
    pub taken_off : 0 < v → IsHanging (set hooks q h) (set lacking i v) met counts low high taken
    taken_off more = record {
      queues = length-set hooks q h ∙ is.queues;
      size = length-set lacking i v ∙ is.size;
      keys = keys-off;
      hangs = hangs-off;
      free = free-off;
      once = once-off;
      lacks = lacks-off;
      waits = λ j here. is.waits j here ∙ same j (cases_eq j i);
      own = is.own;
      freed = freed-off;
      room = let n = nonzero in let one = lit v more in let r = is.room in omega arith;
    }
      where
        same : (j : ℕ) → (j ≡ i) ⊎ (j ≢ i) → ◌≡◌ {A = ℕ} (if slice_index lacking j == 0 && not (taken j) then 1 else 0) (if slice_index (set lacking i v) j == 0 && not (taken j) then 1 else 0)
        same j (inl e) = subst (λ (m : ℕ). ◌≡◌ {A = ℕ} (if slice_index lacking m == 0 && not (taken m) then 1 else 0) (if slice_index (set lacking i v) m == 0 && not (taken m) then 1 else 0)) (sym e)
            (ap (λ (b : Bool). if b && not (taken i) then 1 else 0) (ne_eqb (slice_index lacking i) 0 (λ z. let s = some in omega arith)
            ∙ sym (ne_eqb (slice_index (set lacking i v) i) 0 (λ z. let s = get_or-set_same lacking i v 0 in_lacking in omega arith))))
        same j (inr ne) = ap (λ (m : ℕ). if m == 0 && not (taken j) then 1 else 0) (sym (get_or-set_other lacking i j v 0 ne))

    -- it hangs on no other: it is met
    pub taken_off_last : v ≡ 0 → (now : Hung) → IsPermutation ((i, i) ∷ met.pairs) now.pairs → met.room ≤ now.room + 1 → IsHanging (set hooks q h) (set lacking i v) now counts low high taken
    taken_off_last last now joined spare = record {
      queues = length-set hooks q h ∙ is.queues;
      size = length-set lacking i v ∙ is.size;
      keys = keys-off;
      hangs = hangs-off;
      free = free-off;
      once = once-off;
      lacks = lacks-off;
      waits = λ j here. times-same j ((i, i) ∷ met.pairs) now.pairs joined ∙ waits-off j here (cases_eq j i);
      own = λ x c. owned x (contains-cons (i, i) met.pairs x (Contains-permutation now.pairs ((i, i) ∷ met.pairs) x (IsPermutation-sym ((i, i) ∷ met.pairs) now.pairs joined) c));
      freed = freed-off;
      room = let n = nonzero in let none = unlit v last in let r = is.room in omega arith;
    }
      where
        owned : (x : ℕ × ℕ) → ((i, i) ≡ x) ⊎ Contains met.pairs x → (x.0 ≡ x.1) × (x.1 < length counts)
        owned x (inl same) = subst (λ (y : ℕ × ℕ). (y.0 ≡ y.1) × (y.1 < length counts)) same (refl, known)
        owned x (inr old) = is.own x old

        before : times i met.pairs ≡ 0
        before = is.waits i known ∙ ap (λ (b : Bool). if b && not (taken i) then 1 else 0) (ne_eqb (slice_index lacking i) 0 (λ z. let s = some in omega arith))

        now_one : ◌≡◌ {A = ℕ} (if slice_index (set lacking i v) i == 0 && not (taken i) then 1 else 0) 1
        now_one = ap (λ (b : Bool). if b && not (taken i) then 1 else 0) (eq-eqb (slice_index (set lacking i v) i) 0 (get_or-set_same lacking i v 0 in_lacking ∙ last)) ∙ ap (λ (b : Bool). if not b then 1 else 0) untaken

        waits-off : (j : ℕ) → j < length counts → (j ≡ i) ⊎ (j ≢ i) → times j ((i, i) ∷ met.pairs) ≡ (if slice_index (set lacking i v) j == 0 && not (taken j) then 1 else 0)
        waits-off j here (inl e) = subst (λ (m : ℕ). times m ((i, i) ∷ met.pairs) ≡ (if slice_index (set lacking i v) m == 0 && not (taken m) then 1 else 0)) (sym e)
            (let t = times-own i i met.pairs in let b = before in let one = now_one in omega arith)
        waits-off j here (inr ne) = times-other j i i met.pairs ne ∙ is.waits j here ∙ ap (λ (m : ℕ). if m == 0 && not (taken j) then 1 else 0) (sym (get_or-set_other lacking i j v 0 ne))
