-- What hangs when a queue has come to a count, and what is met then.
use Rattle.std.proofs.Common.{◌≡◌, ◌≢◌, ◌⊎◌, inl, inr, ℕ, ◌+◌, ◌<◌, ◌≤◌, List, ◌∷◌, length, Bool, true, false, not, ◌&&◌, ◌||◌, ◌==◌, nat_lt, refl, ap, sym, ◌∙◌, subst, arith, IsTrue}
use Rattle.std.specs.Prelude.{Contains, if◌then◌else◌, slice_index}
use Rattle.std.specs.List.Sorted.{IsPermutation}
use Rattle.std.proofs.lemmas.Bool.{cases_eq, cases_lt, eqb-true, eq-eqb, ne_eqb, lt-ltb, le-ltb}
use Rattle.std.proofs.lemmas.List.Sorted.{IsPermutation-sym, Contains-permutation}
use Rattle.vk_model.proofs.Lists.Members.{contains-head, contains-tail}
use Rattle.vk_model.proofs.Lists.Truths.{unless}
use Rattle.vk_events.specs.Inner.Hooks.{Hung, times}
use Rattle.vk_events.specs.Inner.Hanging.{pairs_on, count_of, IsHanging, IsNext}
use Rattle.vk_events.proofs.HangingLemmas.{times-same, times-own, times-other, times-none, some_pair}

-- ---- when a queue has come to a count

-- all that hangs on it waits for more
pub settled : (hooks : List Hung) (lacking : List ℕ) (met : Hung) (counts : List (List ℕ)) (low high : ℕ → ℕ) (taken : ℕ → Bool) → IsHanging hooks lacking met counts low high taken
    → (q done : ℕ) → q < 4 → ((x : ℕ × ℕ) → Contains (pairs_on hooks q) x → done < x.0) → IsHanging hooks lacking met counts (λ p. if p == q then done else low p) high taken
settled hooks lacking met counts low high taken is q done on above = record {
  queues = is.queues;
  size = is.size;
  keys = is.keys;
  hangs = is.hangs;
  free = λ p j pl le. free-now p j pl le (cases_eq p q);
  once = is.once;
  lacks = is.lacks;
  waits = is.waits;
  own = is.own;
  freed = is.freed;
  room = is.room;
}
  where
    free-now : (p j : ℕ) → p < 4 → count_of counts j p ≤ (if p == q then done else low p) → (p ≡ q) ⊎ (p ≢ q) → times j (pairs_on hooks p) ≡ 0
    free-now p j pl le (inl e) =
        let le' : count_of counts j p ≤ done = subst (λ (b : Bool). count_of counts j p ≤ (if b then done else low p)) (eq-eqb p q e) le in
        times-none j (pairs_on hooks p) (λ x c same.
        let key = (is.keys p x pl c).1 in
        let over = above x (subst (λ (r : ℕ). Contains (pairs_on hooks r) x) e c) in
        let at : count_of counts x.1 p ≡ count_of counts j p = ap (λ (m : ℕ). count_of counts m p) same in
        omega arith)
    free-now p j pl le (inr ne) = is.free p j pl (subst (λ (b : Bool). count_of counts j p ≤ (if b then done else low p)) (ne_eqb p q ne) le)

-- what is known of more queues, and asked of fewer
pub looser : (hooks : List Hung) (lacking : List ℕ) (met : Hung) (counts : List (List ℕ)) (low high low' high' : ℕ → ℕ) (taken : ℕ → Bool) → ((q : ℕ) → q < 4 → low' q ≤ low q) → ((q : ℕ) → q < 4 → high q ≤ high' q)
    → IsHanging hooks lacking met counts low high taken → IsHanging hooks lacking met counts low' high' taken
looser hooks lacking met counts low high low' high' taken less more is = record {
  queues = is.queues;
  size = is.size;
  keys = is.keys;
  hangs = λ q i on here above. is.hangs q i on here (let m = more q on in omega arith);
  free = λ q i on le. is.free q i on (let l = less q on in omega arith);
  once = is.once;
  lacks = is.lacks;
  waits = is.waits;
  own = is.own;
  freed = is.freed;
  room = is.room;
}

-- one queue more has come to its count, and all have
pub moved : (done low : ℕ → ℕ) (k q : ℕ) → (if nat_lt q (k + 1) then done q else low q) ≤ (if q == k then done k else (if nat_lt q k then done q else low q))
moved done low k q = elim (cases_eq q k) [
  | inl e ↦ (
      let a : (if nat_lt q (k + 1) then done q else low q) ≡ done q = ap (λ (b : Bool). if b then done q else low q) (lt-ltb q (k + 1) (omega arith)) in
      let b : (if q == k then done k else (if nat_lt q k then done q else low q)) ≡ done k = ap (λ (b : Bool). if b then done k else (if nat_lt q k then done q else low q)) (eq-eqb q k e) in
      let same = ap done e in
      omega (arith, a, b, same))
  | inr ne ↦ (
      let b : (if q == k then done k else (if nat_lt q k then done q else low q)) ≡ (if nat_lt q k then done q else low q) = ap (λ (b : Bool). if b then done k else (if nat_lt q k then done q else low q)) (ne_eqb q k ne) in
      let a : (if nat_lt q (k + 1) then done q else low q) ≡ (if nat_lt q k then done q else low q) = ap (λ (b : Bool). if b then done q else low q) (same_test q k ne (cases_lt q k)) in
      omega (arith, a, b))
]
  where
    same_test : (q k : ℕ) → q ≢ k → (q < k) ⊎ (k ≤ q) → nat_lt q (k + 1) ≡ nat_lt q k
    same_test q k ne (inl lt) = lt-ltb q (k + 1) (omega arith) ∙ sym (lt-ltb q k lt)
    same_test q k ne (inr le) = le-ltb q (k + 1) (omega arith) ∙ sym (le-ltb q k le)

pub moved_all : (done low : ℕ → ℕ) (k q : ℕ) → q < k → done q ≤ (if nat_lt q k then done q else low q)
moved_all done low k q lt = let a : (if nat_lt q k then done q else low q) ≡ done q = ap (λ (b : Bool). if b then done q else low q) (lt-ltb q k lt) in omega (arith, a)

-- the least that is met is taken
pub least_is_next : (hooks : List Hung) (lacking : List ℕ) (met : Hung) (counts : List (List ℕ)) (low high : ℕ → ℕ) (taken : ℕ → Bool) → IsHanging hooks lacking met counts low high taken
    → (k i : ℕ) (h : Hung) → IsPermutation met.pairs ((k, i) ∷ h.pairs) → met.room ≤ h.room → ((x : ℕ × ℕ) → Contains met.pairs x → k ≤ x.0)
    → IsNext lacking counts taken i × IsHanging hooks lacking h counts low high (λ j. taken j || j == i)
least_is_next hooks lacking met counts low high taken is k i h off spare first = (
  record {
    there = there;
    met = met_now.0;
    new = met_now.1;
    first = λ j before none. unless (taken j) (λ new. let b = earlier j before none new in absurd b);
  },
  record {
    queues = is.queues;
    size = is.size;
    keys = is.keys;
    hangs = is.hangs;
    free = is.free;
    once = is.once;
    lacks = is.lacks;
    waits = λ j here. waits-left j here (cases_eq j i);
    own = λ x c. is.own x (back x (contains-tail (k, i) h.pairs x c));
    freed = λ j t. freed-now j (cases_eq j i) t;
    room = let r = is.room in omega arith;
  },
)
  where
    back : (x : ℕ × ℕ) → Contains ((k, i) ∷ h.pairs) x → Contains met.pairs x
    back x c = Contains-permutation ((k, i) ∷ h.pairs) met.pairs x (IsPermutation-sym met.pairs ((k, i) ∷ h.pairs) off) c

    own : (k ≡ i) × (i < length counts)
    own = is.own (k, i) (back (k, i) (contains-head (k, i) h.pairs))

    there : i < length counts
    there = own.1

    was : times i met.pairs ≡ 1 + times i h.pairs
    was = sym (times-same i met.pairs ((k, i) ∷ h.pairs) off) ∙ times-own i k h.pairs

    -- a truth that is counted
    counted : (a b : Bool) → 0 < (if a && not b then 1 else 0) → (a ≡ true) × (b ≡ false)
    counted true false some = (refl, refl)
    counted true true some = absurd (omega arith)
    counted false b some = absurd (omega arith)

    truths : ((slice_index lacking i == 0) ≡ true) × (taken i ≡ false)
    truths = counted (slice_index lacking i == 0) (taken i) (let w = was in let e = is.waits i there in omega arith)

    met_now : (slice_index lacking i ≡ 0) × (taken i ≡ false)
    met_now = (eqb-true (slice_index lacking i) 0 truths.0, truths.1)

    earlier : (j : ℕ) → j < i → slice_index lacking j ≡ 0 → IsTrue (not (taken j)) → ⊥
    earlier j before none new =
        let lt = there in
        let e = is.waits j (omega arith) in
        let one : ◌≡◌ {A = ℕ} (if slice_index lacking j == 0 && not (taken j) then 1 else 0) 1 =
        ap (λ (b : Bool). if b && not (taken j) then 1 else 0) (eq-eqb (slice_index lacking j) 0 none) ∙ ap (λ (b : Bool). if b then 1 else 0) new in
        some_pair j met.pairs (omega arith) (λ x c same.
        let own-x = (is.own x c).0 in
        let low-x = first x c in
        let key = own.0 in
        omega arith)

    waits-left : (j : ℕ) → j < length counts → (j ≡ i) ⊎ (j ≢ i) → times j h.pairs ≡ (if slice_index lacking j == 0 && not (taken j || j == i) then 1 else 0)
    waits-left j here (inl e) = subst (λ (m : ℕ). times m h.pairs ≡ (if slice_index lacking m == 0 && not (taken m || m == i) then 1 else 0)) (sym e)
        (none ∙ sym (ap (λ (b : Bool). if slice_index lacking i == 0 && not (taken i || b) then 1 else 0) (eq-eqb i i refl) ∙ never (slice_index lacking i == 0) (taken i)))
      where
        none : times i h.pairs ≡ 0
        none =
            let w = was in
            let one : ◌≡◌ {A = ℕ} (if slice_index lacking i == 0 && not (taken i) then 1 else 0) 1 =
            ap (λ (b : Bool). if b && not (taken i) then 1 else 0) truths.0 ∙ ap (λ (b : Bool). if not b then 1 else 0) truths.1 in
            let e = is.waits i there in
            omega arith

        never : (a b : Bool) → ◌≡◌ {A = ℕ} (if a && not (b || true) then 1 else 0) 0
        never true true = refl
        never true false = refl
        never false b = refl
    waits-left j here (inr ne) =
        sym (times-other j i k h.pairs ne) ∙ times-same j met.pairs ((k, i) ∷ h.pairs) off ∙ is.waits j here
        ∙ ap (λ (b : Bool). if slice_index lacking j == 0 && not b then 1 else 0) (sym (ap (λ (b : Bool). taken j || b) (ne_eqb j i ne) ∙ or_false (taken j)))
      where
        or_false : (b : Bool) → (b || false) ≡ b
        or_false true = refl
        or_false false = refl

    freed-now : (j : ℕ) → (j ≡ i) ⊎ (j ≢ i) → IsTrue (taken j || j == i) → (j < length counts) × (slice_index lacking j ≡ 0)
    freed-now j (inl e) t = subst (λ (m : ℕ). (m < length counts) × (slice_index lacking m ≡ 0)) (sym e) (there, met_now.0)
    freed-now j (inr ne) t = is.freed j (go (taken j) (j == i) (ne_eqb j i ne) t)
      where
        go : (a b : Bool) → b ≡ false → IsTrue (a || b) → IsTrue a
        go true b e t = refl
        go false true e t = absurd cc
        go false false e t = t

-- where nothing is met all are taken
pub all_taken : (hooks : List Hung) (lacking : List ℕ) (met : Hung) (counts : List (List ℕ)) (low high : ℕ → ℕ) (taken : ℕ → Bool) → IsHanging hooks lacking met counts low high taken
    → ((x : ℕ × ℕ) → Contains met.pairs x → length counts < x.0) → (j : ℕ) → j < length counts → slice_index lacking j ≡ 0 → IsTrue (taken j)
all_taken hooks lacking met counts low high taken is above j here none = unless (taken j) (λ new.
    let e = is.waits j here in
    let one : ◌≡◌ {A = ℕ} (if slice_index lacking j == 0 && not (taken j) then 1 else 0) 1 =
    ap (λ (b : Bool). if b && not (taken j) then 1 else 0) (eq-eqb (slice_index lacking j) 0 none) ∙ ap (λ (b : Bool). if b then 1 else 0) new in
    some_pair j met.pairs (omega arith) (λ x c same.
    let own-x = is.own x c in
    let over = above x c in
    omega arith))

-- the same under other names
pub renamed : (hooks hooks' : List Hung) (lacking lacking' : List ℕ) (met met' : Hung) (counts : List (List ℕ)) (low high : ℕ → ℕ) (taken : ℕ → Bool) → hooks' ≡ hooks → lacking' ≡ lacking → met' ≡ met
    → IsHanging hooks lacking met counts low high taken → IsHanging hooks' lacking' met' counts low high taken
renamed hooks hooks' lacking lacking' met met' counts low high taken a b c is =
    subst (λ (hs : List Hung). IsHanging hs lacking' met' counts low high taken) (sym a)
    (subst (λ (ls : List ℕ). IsHanging hooks ls met' counts low high taken) (sym b)
    (subst (λ (m : Hung). IsHanging hooks lacking m counts low high taken) (sym c) is))
