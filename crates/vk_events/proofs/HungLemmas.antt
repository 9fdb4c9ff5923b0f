-- A number that is added is hung on the queues that lack it.
use Rattle.std.proofs.Common.{◌≡◌, ◌≢◌, ◌⊎◌, inl, inr, ℕ, suc, ◌+◌, ◌<◌, ◌≤◌, List, [], ◌∷◌, ◌++◌, length, get_or, set, Bool, true, false, not, ◌&&◌, ◌==◌, nat_lt, refl, ap, sym, ◌∙◌, subst, arith, IsTrue, length-set, length-append}
use Rattle.std.specs.Prelude.{Contains, count_by, if◌then◌else◌, slice_index}
use Rattle.std.specs.List.{sum_by}
use Rattle.std.specs.List.Sorted.{IsPermutation}
use Rattle.std.proofs.lemmas.Bool.{cases_eq, cases_lt, eq-eqb, ne_eqb, lt-ltb, le-ltb}
use Rattle.std.proofs.lemmas.List.{get_or_append_left}
use Rattle.std.proofs.Math.Seq.{get_or-append_seam}
use Rattle.std.proofs.lemmas.List.Sums.{sum_by-cons, sum_by_push, count_by-le-length}
use Rattle.std.proofs.lemmas.List.Sorted.{IsPermutation-sym, Contains-permutation}
use Rattle.vk_model.proofs.Lists.Members.{contains-cons}
use Rattle.vk_events.specs.Inner.Hooks.{Hung, times}
use Rattle.vk_events.specs.Inner.Hanging.{pairs_on, count_of, IsHanging, IsHung}
use Rattle.vk_events.proofs.HangingLemmas.{nothing, times-same, times-own, times-other, times-none, changed, changed_at, sum_changed, pairs_other}

-- ---- a number is hung

pub hung_none : (hooks : List Hung) (number : ℕ) (counts done : List ℕ) → IsHung hooks hooks number counts done 0 0
hung_none hooks number counts done = record {
  queues = refl;
  others = λ q i on ne. refl;
  own = λ q lt. absurd (omega arith);
  rest = λ q le. refl;
  keys = λ q x on c. inl c;
  sums = λ i. go i (i == number);
  few = omega arith;
}
  where
    go : (i : ℕ) (b : Bool) → sum_by (λ h. times i h.pairs) hooks ≡ sum_by (λ h. times i h.pairs) hooks + (if b then 0 else 0)
    go i true = omega arith
    go i false = omega arith

module _ (old hooks : List Hung) (number : ℕ) (counts done : List ℕ) (q lacking : ℕ) (is : IsHung old hooks number counts done q lacking) where
  -- not on a queue that has come to its count
  pub hung_same : slice_index counts q ≤ slice_index done q → IsHung old hooks number counts done (q + 1) lacking
  hung_same le = record {
    queues = is.queues;
    others = is.others;
    own = λ p lt. elim (cases_eq p q) [
      | inl e ↦ subst (λ (r : ℕ). times number (pairs_on hooks r) ≡ times number (pairs_on old r) + (if nat_lt (slice_index done r) (slice_index counts r) then 1 else 0)) (sym e)
          (let same = ap (λ (ps : List (ℕ × ℕ)). times number ps) (is.rest q (omega arith)) in
          let none : ◌≡◌ {A = ℕ} (if nat_lt (slice_index done q) (slice_index counts q) then 1 else 0) 0 = ap (λ (b : Bool). if b then 1 else 0) (le-ltb (slice_index done q) (slice_index counts q) le) in
          omega (arith, same, none))
      | inr ne ↦ is.own p (omega arith)
    ];
    rest = λ p le'. is.rest p (omega arith);
    keys = is.keys;
    sums = is.sums;
    few = let f = is.few in omega arith;
  }

  module _ (four : length old ≡ 4) (on : q < 4) (h : Hung) (over : slice_index done q < slice_index counts q) (joined : IsPermutation ((slice_index counts q, number) ∷ pairs_on hooks q) h.pairs) where
    four_now : length hooks ≡ 4
    four_now = is.queues ∙ four

    abbrev k : ℕ
    k = slice_index counts q

    own_more : times number h.pairs ≡ 1 + times number (pairs_on hooks q)
    own_more = times-same number ((k, number) ∷ pairs_on hooks q) h.pairs joined ∙ times-own number k (pairs_on hooks q)

    others_more : (i : ℕ) → i ≢ number → times i h.pairs ≡ times i (pairs_on hooks q)
    others_more i ne = times-same i ((k, number) ∷ pairs_on hooks q) h.pairs joined ∙ times-other i number k (pairs_on hooks q) ne

    -- on one that hasn't
    pub hung_more : IsHung old (set hooks q h) number counts done (q + 1) (lacking + 1)
    hung_more = record {
      queues = length-set hooks q h ∙ is.queues;
      others = λ p i low ne. changed hooks four_now q on h (λ r ps. times i ps ≡ times i (pairs_on old r)) (λ r rl. is.others r i rl ne) (others_more i ne ∙ is.others q i on ne) p low;
      own = λ p lt. changed_at hooks four_now q on h (λ r ps. r < q + 1 → times number ps ≡ times number (pairs_on old r) + (if nat_lt (slice_index done r) (slice_index counts r) then 1 else 0))
          (λ r rl ne lt'. is.own r (omega arith))
          (λ lt'. let same = ap (λ (ps : List (ℕ × ℕ)). times number ps) (is.rest q (omega arith)) in
          let one : ◌≡◌ {A = ℕ} (if nat_lt (slice_index done q) (slice_index counts q) then 1 else 0) 1 = ap (λ (b : Bool). if b then 1 else 0) (lt-ltb (slice_index done q) (slice_index counts q) over) in
          let more = own_more in
          omega (arith, same, one, more))
          p (omega arith) lt;
      rest = λ p le. pairs_other hooks four_now q on h p (λ e. let e' : p ≡ q = e in omega arith) ∙ is.rest p (omega arith);
      keys = λ p x low c. changed hooks four_now q on h (λ r ps. (y : ℕ × ℕ) → Contains ps y → Contains (pairs_on old r) y ⊎ ((y.1 ≡ number) × (y.0 ≡ slice_index counts r)))
          (λ r rl y d. is.keys r y rl d)
          (λ y d. elim (contains-cons (k, number) (pairs_on hooks q) y (Contains-permutation h.pairs ((k, number) ∷ pairs_on hooks q) y (IsPermutation-sym ((k, number) ∷ pairs_on hooks q) h.pairs joined) d)) [
            | inl same ↦ inr (ap (λ (z : ℕ × ℕ). z.1) (sym same), ap (λ (z : ℕ × ℕ). z.0) (sym same))
            | inr was ↦ is.keys q y on was
          ]) p low x c;
      sums = λ i. sums_more i (cases_eq i number);
      few = let f = is.few in omega arith;
    }
      where
        sums_more : (i : ℕ) → (i ≡ number) ⊎ (i ≢ number) → sum_by (λ g. times i g.pairs) (set hooks q h) ≡ sum_by (λ g. times i g.pairs) old + (if i == number then lacking + 1 else 0)
        sums_more i (inl e) =
            let s = sum_changed hooks four_now q on h i in
            let m = subst (λ (j : ℕ). times j h.pairs ≡ 1 + times j (pairs_on hooks q)) (sym e) own_more in
            let was = is.sums i in
            let a : (if i == number then lacking else 0) ≡ lacking = ap (λ (b : Bool). if b then lacking else 0) (eq-eqb i number e) in
            let b : (if i == number then lacking + 1 else 0) ≡ lacking + 1 = ap (λ (b : Bool). if b then lacking + 1 else 0) (eq-eqb i number e) in
            omega (arith, s, m, was, a, b)
        sums_more i (inr ne) =
            let s = sum_changed hooks four_now q on h i in
            let m = others_more i ne in
            let was = is.sums i in
            let a : (if i == number then lacking else 0) ≡ 0 = ap (λ (b : Bool). if b then lacking else 0) (ne_eqb i number ne) in
            let b : (if i == number then lacking + 1 else 0) ≡ 0 = ap (λ (b : Bool). if b then lacking + 1 else 0) (ne_eqb i number ne) in
            omega (arith, s, m, was, a, b)

-- ---- and then it is counted

pub sum_none : (f : Hung → ℕ) (d : Hung) (xs : List Hung) → ((q : ℕ) → q < length xs → f (get_or xs q d) ≡ 0) → sum_by f xs ≡ 0
sum_none f d [] none = refl
sum_none f d (x ∷ xs) none =
    let first = none 0 (omega arith) in
    let rest = sum_none f d xs (λ q lt. none (suc q) (omega arith)) in
    omega (arith, sum_by-cons f x xs, first, rest)

module _ (hooks new : List Hung) (lacking : List ℕ) (met now : Hung) (all : List (List ℕ)) (done : ℕ → ℕ) (taken : ℕ → Bool) (counts come : List ℕ) (here : (q : ℕ) → done q ≡ slice_index come q) (n l : ℕ)
    (is : IsHanging hooks lacking met all done done taken) (hung : IsHung hooks new n counts come 4 l) (last : n ≡ length all) where
  size : length (all ++ counts ∷ []) ≡ n + 1
  size = omega (arith, length-append all (counts ∷ []))

  same_count : (i q : ℕ) → i < length all → count_of (all ++ counts ∷ []) i q ≡ count_of all i q
  same_count i q lt = ap (λ (cs : List ℕ). slice_index cs q) (get_or_append_left all (counts ∷ []) [] i lt)

  own_count : (q : ℕ) → count_of (all ++ counts ∷ []) n q ≡ slice_index counts q
  own_count q = ap (λ (k : ℕ). count_of (all ++ counts ∷ []) k q) last ∙ ap (λ (cs : List ℕ). slice_index cs q) (get_or-append_seam all counts [] [])

  -- nothing beyond hung yet
  fresh : (q i : ℕ) → q < 4 → n ≤ i → times i (pairs_on hooks q) ≡ 0
  fresh q i on le = times-none i (pairs_on hooks q) (λ x c same. let lt = (is.keys q x on c).0 in let e : x.1 ≡ i = same in omega arith)

  none_met : times n met.pairs ≡ 0
  none_met = times-none n met.pairs (λ x c same. let lt = (is.own x c).1 in let e : x.1 ≡ n = same in omega arith)

  untaken : taken n ≡ false
  untaken = go (taken n) refl
    where
      go : (b : Bool) → taken n ≡ b → taken n ≡ false
      go true e = absurd (let lt = (is.freed n e).0 in omega arith)
      go false e = e

  own_now : (q : ℕ) → q < 4 → times n (pairs_on new q) ≡ (if nat_lt (slice_index come q) (slice_index counts q) then 1 else 0)
  own_now q on = let h = hung.own q on in let f = fresh q n on (omega arith) in omega (arith, h, f)

  sum_fresh : sum_by (λ h. times n h.pairs) hooks ≡ 0
  sum_fresh = sum_none (λ (h : Hung). times n h.pairs) nothing hooks (λ q lt. let four = is.queues in fresh q n (omega arith) (omega arith))

  sum_own : sum_by (λ h. times n h.pairs) new ≡ l
  sum_own =
      let s = hung.sums n in
      let f = sum_fresh in
      let e : (if n == n then l else 0) ≡ l = ap (λ (b : Bool). if b then l else 0) (eq-eqb n n refl) in
      omega (arith, s, f, e)

  sum_other : (i : ℕ) → i ≢ n → sum_by (λ h. times i h.pairs) new ≡ sum_by (λ h. times i h.pairs) hooks
  sum_other i ne =
      let s = hung.sums i in
      let e : (if i == n then l else 0) ≡ 0 = ap (λ (b : Bool). if b then l else 0) (ne_eqb i n ne) in
      omega (arith, s, e)

  below_or_own : (i : ℕ) → i < length (all ++ counts ∷ []) → (i < length all) ⊎ (i ≡ n)
  below_or_own i lt = elim (cases_lt i (length all)) [ inl h ↦ inl h | inr h ↦ inr (let s = size in omega arith) ]

  lacking_old : (i : ℕ) → i < length all → slice_index (lacking ++ l ∷ []) i ≡ slice_index lacking i
  lacking_old i lt = get_or_append_left lacking (l ∷ []) 0 i (let s = is.size in omega arith)

  lacking_own : slice_index (lacking ++ l ∷ []) n ≡ l
  lacking_own = ap (λ (k : ℕ). slice_index (lacking ++ l ∷ []) k) (let s = is.size in let e : n ≡ length lacking = omega arith in e) ∙ get_or-append_seam lacking l [] 0

  keys-now : (q : ℕ) (x : ℕ × ℕ) → q < 4 → Contains (pairs_on new q) x → (x.1 < length (all ++ counts ∷ [])) × (x.0 ≡ count_of (all ++ counts ∷ []) x.1 q)
  keys-now q x on c = elim (hung.keys q x on c) [
    | inl old ↦ (let k = is.keys q x on old in let s = size in (omega arith, k.1 ∙ sym (same_count x.1 q k.0)))
    | inr own ↦ (let s = size in let e = own.0 in (omega arith, own.1 ∙ sym (own_count q) ∙ ap (λ (i : ℕ). count_of (all ++ counts ∷ []) i q) (sym own.0)))
  ]

  hangs-now : (q i : ℕ) → q < 4 → i < length (all ++ counts ∷ []) → done q < count_of (all ++ counts ∷ []) i q → times i (pairs_on new q) ≡ 1
  hangs-now q i on lt over = elim (below_or_own i lt) [
    | inl old ↦ (let s = same_count i q old in hung.others q i on (λ e. let e' : i ≡ n = e in omega arith) ∙ is.hangs q i on old (omega arith))
    | inr own ↦ subst (λ (k : ℕ). times k (pairs_on new q) ≡ 1) (sym own)
        (let s = own_count q in let h = here q in let e = ap (λ (k : ℕ). count_of (all ++ counts ∷ []) k q) own in
        own_now q on ∙ ap (λ (b : Bool). if b then 1 else 0) (lt-ltb (slice_index come q) (slice_index counts q) (omega arith)))
  ]

  free-now : (q i : ℕ) → q < 4 → count_of (all ++ counts ∷ []) i q ≤ done q → times i (pairs_on new q) ≡ 0
  free-now q i on le = elim (cases_eq i n) [
    | inl own ↦ subst (λ (k : ℕ). times k (pairs_on new q) ≡ 0) (sym own)
        (let s = own_count q in let h = here q in let e = ap (λ (k : ℕ). count_of (all ++ counts ∷ []) k q) own in
        own_now q on ∙ ap (λ (b : Bool). if b then 1 else 0) (le-ltb (slice_index come q) (slice_index counts q) (omega arith)))
    | inr ne ↦ hung.others q i on ne ∙ elim (cases_lt i (length all)) [
      | inl lt ↦ (let s = same_count i q lt in is.free q i on (omega arith))
      | inr ge ↦ fresh q i on (omega arith)
    ]
  ]

  once-now : (q i : ℕ) → q < 4 → times i (pairs_on new q) ≤ 1
  once-now q i on = elim (cases_eq i n) [
    | inl own ↦ subst (λ (k : ℕ). times k (pairs_on new q) ≤ 1) (sym own) (let o = own_now q on in let b = one_at_most (nat_lt (slice_index come q) (slice_index counts q)) in omega arith)
    | inr ne ↦ (let o = hung.others q i on ne in let m = is.once q i on in omega arith)
  ]
    where
      one_at_most : (b : Bool) → (if b then 1 else 0) ≤ 1
      one_at_most true = omega arith
      one_at_most false = omega arith

  lacks-now : (i : ℕ) → i < length (all ++ counts ∷ []) → slice_index (lacking ++ l ∷ []) i ≡ sum_by (λ h. times i h.pairs) new
  lacks-now i lt = elim (below_or_own i lt) [
    | inl old ↦ lacking_old i old ∙ is.lacks i old ∙ sym (sum_other i (λ e. let e' : i ≡ n = e in omega arith))
    | inr own ↦ subst (λ (k : ℕ). slice_index (lacking ++ l ∷ []) k ≡ sum_by (λ h. times k h.pairs) new) (sym own) (lacking_own ∙ sym sum_own)
  ]

  freed-now : (i : ℕ) → IsTrue (taken i) → (i < length (all ++ counts ∷ [])) × (slice_index (lacking ++ l ∷ []) i ≡ 0)
  freed-now i t = let f = is.freed i t in let s = size in (omega arith, lacking_old i f.0 ∙ f.1)

  size-now : length (lacking ++ l ∷ []) ≡ length (all ++ counts ∷ [])
  size-now = let s = is.size in let a = length-append lacking (l ∷ []) in let b = size in omega arith

  few : count_by (λ k. nat_lt 0 k) lacking ≤ n
  few = let s = is.size in omega (arith, count_by-le-length (λ (k : ℕ). nat_lt 0 k) lacking)

  nonzero : count_by (λ k. nat_lt 0 k) (lacking ++ l ∷ []) ≡ count_by (λ k. nat_lt 0 k) lacking + (if nat_lt 0 l then 1 else 0)
  nonzero = sum_by_push (λ (k : ℕ). if nat_lt 0 k then 1 else 0) lacking l

  -- the number hangs on some queue
  pub added : 0 < l → now.pairs ≡ met.pairs → n + 1 ≤ now.room → IsHanging new (lacking ++ l ∷ []) now (all ++ counts ∷ []) done done taken
  added some same spare = record {
    queues = hung.queues ∙ is.queues;
    size = size-now;
    keys = keys-now;
    hangs = hangs-now;
    free = free-now;
    once = once-now;
    lacks = lacks-now;
    waits = λ i lt. ap (λ (ps : List (ℕ × ℕ)). times i ps) same ∙ waits-now i (below_or_own i lt);
    own = λ x c. let o = is.own x (subst (λ (ps : List (ℕ × ℕ)). Contains ps x) same c) in let s = size in (o.0, omega arith);
    freed = freed-now;
    room = let f = few in let z = nonzero in let o : ◌≡◌ {A = ℕ} (if nat_lt 0 l then 1 else 0) 1 = ap (λ (b : Bool). if b then 1 else 0) (lt-ltb 0 l some) in omega (arith, f, z, o, spare);
  }
    where
      waits-now : (i : ℕ) → (i < length all) ⊎ (i ≡ n) → times i met.pairs ≡ (if slice_index (lacking ++ l ∷ []) i == 0 && not (taken i) then 1 else 0)
      waits-now i (inl old) = is.waits i old ∙ ap (λ (k : ℕ). if k == 0 && not (taken i) then 1 else 0) (sym (lacking_old i old))
      waits-now i (inr own) = subst (λ (k : ℕ). times k met.pairs ≡ (if slice_index (lacking ++ l ∷ []) k == 0 && not (taken k) then 1 else 0)) (sym own)
          (none_met ∙ sym (ap (λ (b : Bool). if b && not (taken n) then 1 else 0) (ne_eqb (slice_index (lacking ++ l ∷ []) n) 0 (λ z. let o = lacking_own in omega arith))))

  -- it hangs on none: it is met at once
  pub added_met : l ≡ 0 → IsPermutation ((n, n) ∷ met.pairs) now.pairs → n ≤ now.room → IsHanging new (lacking ++ l ∷ []) now (all ++ counts ∷ []) done done taken
  added_met none joined spare = record {
    queues = hung.queues ∙ is.queues;
    size = size-now;
    keys = keys-now;
    hangs = hangs-now;
    free = free-now;
    once = once-now;
    lacks = lacks-now;
    waits = λ i lt. times-same i ((n, n) ∷ met.pairs) now.pairs joined ∙ waits-now i (below_or_own i lt);
    own = λ x c. owned x (contains-cons (n, n) met.pairs x (Contains-permutation now.pairs ((n, n) ∷ met.pairs) x (IsPermutation-sym ((n, n) ∷ met.pairs) now.pairs joined) c));
    freed = freed-now;
    room = let f = few in let z = nonzero in let o : ◌≡◌ {A = ℕ} (if nat_lt 0 l then 1 else 0) 0 = ap (λ (k : ℕ). if nat_lt 0 k then 1 else 0) none in omega (arith, f, z, o, spare);
  }
    where
      owned : (x : ℕ × ℕ) → ((n, n) ≡ x) ⊎ Contains met.pairs x → (x.0 ≡ x.1) × (x.1 < length (all ++ counts ∷ []))
      owned x (inl same) = subst (λ (y : ℕ × ℕ). (y.0 ≡ y.1) × (y.1 < length (all ++ counts ∷ []))) same (refl, let s = size in omega arith)
      owned x (inr old) = let o = is.own x old in let s = size in (o.0, omega arith)

      one_own : ◌≡◌ {A = ℕ} (if slice_index (lacking ++ l ∷ []) n == 0 && not (taken n) then 1 else 0) 1
      one_own = ap (λ (b : Bool). if b && not (taken n) then 1 else 0) (eq-eqb (slice_index (lacking ++ l ∷ []) n) 0 (lacking_own ∙ none)) ∙ ap (λ (b : Bool). if not b then 1 else 0) untaken

      waits-now : (i : ℕ) → (i < length all) ⊎ (i ≡ n) → times i ((n, n) ∷ met.pairs) ≡ (if slice_index (lacking ++ l ∷ []) i == 0 && not (taken i) then 1 else 0)
      waits-now i (inl old) = times-other i n n met.pairs (λ e. let e' : i ≡ n = e in omega arith) ∙ is.waits i old ∙ ap (λ (k : ℕ). if k == 0 && not (taken i) then 1 else 0) (sym (lacking_old i old))
      waits-now i (inr own) = subst (λ (k : ℕ). times k ((n, n) ∷ met.pairs) ≡ (if slice_index (lacking ++ l ∷ []) k == 0 && not (taken k) then 1 else 0)) (sym own)
          (let t = times-own n n met.pairs in let z = none_met in let o = one_own in omega (arith, t, z, o))

-- the same under other names
pub hung_as : (old new new' : List Hung) (number : ℕ) (counts done : List ℕ) (upto lacking lacking' : ℕ) → new' ≡ new → lacking' ≡ lacking → IsHung old new number counts done upto lacking → IsHung old new' number counts done upto lacking'
hung_as old new new' number counts done upto lacking lacking' a b is =
    subst (λ (hs : List Hung). IsHung old hs number counts done upto lacking') (sym a) (subst (λ (k : ℕ). IsHung old new number counts done upto k) (sym b) is)
