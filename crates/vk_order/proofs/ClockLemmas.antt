-- Clocks, and the joins that they are made of.
use Rattle.std.proofs.Common.{◌≡◌, ◌⊎◌, inl, inr, ⊎_elim, ℕ, ◌+◌, ◌<◌, ◌≤◌, List, [], ◌∷◌, length, Bool, true, false, ◌&&◌, ◌||◌, IsTrue, Option, Some, None, refl, ap, sym, ◌∙◌, subst, arith}
use Rattle.std.specs.Prelude.{nat_lt, Contains, if◌then◌else◌, ◌↔◌, max}
use Rattle.std.proofs.lemmas.Bool.{lt-ltb, le-ltb, ltb-true, ltb-false, and_parts, or_left, or_right, or_cases, eqb-true, eq-eqb}
use Rattle.vk_model.specs.Basics.{holds}
use Rattle.vk_model.specs.Sync.Node.{Node, same_node}
use Rattle.vk_model.specs.Sync.Edge.{edge}
use Rattle.vk_model.specs.Sync.Before.{before, IsNumbered}
use Rattle.vk_order.specs.declared.lines.Line.{Line}
use Rattle.vk_order.specs.declared.lines.Line.TheVariants.{Host as OfHost, Commands as OfCommands, Signals as OfSignals, Elements as OfElements, Sets as OfSets, Waits as OfWaits}
use Rattle.vk_order.specs.Lines.{line_of, same_bit, same_line, on_line, place}
use Rattle.vk_order.specs.Prefixes.{Leads}
use Rattle.vk_order.specs.Inner.Clocks.{Clock, IsClock, IsJoin, IsWhole, joined, itself, extended}
use Rattle.vk_model.proofs.Lists.Members.{none_in, contains-cons, contains-head, contains-tail}
use Rattle.vk_model.proofs.Lists.Truths.{no}
use Rattle.vk_model.proofs.Sync.Numbers.{number_below, unique}
use Rattle.vk_order.proofs.ByEdges.{old_before, by_last, by_edge}
use Rattle.vk_model.proofs.Sync.Paths.{forward, path_of_before}

-- ---- lines

bit_itself : (t : Bool) → same_bit t t ≡ true
bit_itself true = refl
bit_itself false = refl

bit_same : (t u : Bool) → same_bit t u ≡ true → t ≡ u
bit_same true true e = refl
bit_same true false e = no e
bit_same false true e = no e
bit_same false false e = refl

pub line_itself : (l : Line) → same_line l l ≡ true
line_itself OfHost = refl
line_itself (OfCommands q) = eq-eqb q q refl
line_itself (OfSignals q) = eq-eqb q q refl
line_itself (OfSets q) = eq-eqb q q refl
line_itself (OfElements q t h) = rw (eq-eqb q q refl, bit_itself t, bit_itself h) refl
line_itself (OfWaits q t h a) = rw (eq-eqb q q refl, bit_itself t, bit_itself h, bit_itself a) refl

pub line_same : (l m : Line) → same_line l m ≡ true → l ≡ m
line_same OfHost OfHost e = refl
line_same (OfCommands q) (OfCommands r) e = ap OfCommands (eqb-true q r e)
line_same (OfSignals q) (OfSignals r) e = ap OfSignals (eqb-true q r e)
line_same (OfSets q) (OfSets r) e = ap OfSets (eqb-true q r e)
line_same (OfElements q t h) (OfElements r u i) e =
    let one = and_parts _ _ e in
    let two = and_parts _ _ one.0 in
    let p : q ≡ r = eqb-true q r two.0 in
    let s = bit_same t u two.1 in
    let f = bit_same h i one.1 in
    cc
line_same (OfWaits q t h a) (OfWaits r u i b) e =
    let zero = and_parts _ _ e in
    let one = and_parts _ _ zero.0 in
    let two = and_parts _ _ one.0 in
    let p : q ≡ r = eqb-true q r two.0 in
    let s = bit_same t u two.1 in
    let f = bit_same h i one.1 in
    let g = bit_same a b zero.1 in
    cc
line_same _ _ e = no e

pub is_on : (l : Line) (n : Node) → line_of n ≡ Some l → on_line l n ≡ true
is_on l n e = rw e (line_itself l)

pub of_on : (l : Line) (n : Node) → on_line l n ≡ true → line_of n ≡ Some l
of_on l n e = go (line_of n) e
  where
    go : (o : Option Line) → holds o (same_line l) ≡ true → o ≡ Some l
    go None e = no e
    go (Some m) e = ap Some (sym (line_same l m e))

-- ---- places

module _ (n : Node) (ns : List Node) (new : n.number ≡ length ns) (l : Line) where
  pub place-older : (k : ℕ) → k ≤ length ns → place (n ∷ ns) l k ≡ place ns l k
  place-older k le = rw (le-ltb n.number k (omega arith)) refl

  pub place-more : (k : ℕ) → place ns l k ≤ place (n ∷ ns) l k
  place-more k = elim (nat_lt n.number k && on_line l n) as (λ t. place ns l k ≤ (if t then place ns l k + 1 else place ns l k)) [ true ↦ omega arith | false ↦ omega arith ]

  pub place-own : on_line l n ≡ true → place (n ∷ ns) l (length (n ∷ ns)) ≡ place ns l (length (n ∷ ns)) + 1
  place-own on = rw (lt-ltb n.number (length (n ∷ ns)) (omega arith), on) refl

pub place-grows : (ns : List Node) (l : Line) (j k : ℕ) → j ≤ k → place ns l j ≤ place ns l k
place-grows [] l j k le = omega arith
place-grows (n ∷ ns) l j k le = go (nat_lt n.number j) (nat_lt n.number k) (on_line l n) refl refl (place-grows ns l j k le)
  where
    go : (s t u : Bool) → nat_lt n.number j ≡ s → nat_lt n.number k ≡ t → place ns l j ≤ place ns l k
        → (if s && u then place ns l j + 1 else place ns l j) ≤ (if t && u then place ns l k + 1 else place ns l k)
    go true true true e f h = omega arith
    go true true false e f h = h
    go true false u e f h = absurd (let lt = ltb-true n.number j e in let ge = ltb-false n.number k f in omega arith)
    go false true true e f h = omega arith
    go false true false e f h = h
    go false false u e f h = h

-- of two nodes of a line the later one has the greater place
pub place-less : (ns : List Node) → IsNumbered ns → (l : Line) (n : Node) (k : ℕ) → Contains ns n → line_of n ≡ Some l → n.number < k → place ns l n.number < place ns l k
place-less [] numbers l n k c on lt = absurd (none_in n c)
place-less (m ∷ ns) numbers l n k c on lt = ⊎_elim
    (λ e. let here : m.number ≡ n.number = ap (λ (x : Node). x.number) e in
    let at = place-older m ns numbers.0 l n.number (let a = numbers.0 in omega arith) in
    let passes : on_line l m ≡ true = ap (on_line l) e ∙ is_on l n on in
    let next : place (m ∷ ns) l k ≡ place ns l k + 1 = rw (lt-ltb m.number k (omega arith), passes) refl in
    let more = place-grows ns l n.number k (omega arith) in omega arith)
    (λ there. let low = number_below ns numbers.1 n there in
    let at = place-older m ns numbers.0 l n.number (omega arith) in
    let less = place-less ns numbers.1 l n k there on lt in
    let more = place-more m ns numbers.0 l k in omega arith)
    (contains-cons m ns n c)

-- ---- one node more

module _ (n : Node) (ns : List Node) (numbers : IsNumbered (n ∷ ns)) where
  new : n.number ≡ length ns
  new = numbers.0

  low : (k : Node) → Contains ns k → k.number < length ns
  low k c = number_below ns numbers.1 k c

  not_below_itself : IsTrue (before (n ∷ ns) n n) → ⊥
  not_below_itself h = let lt = forward (n ∷ ns) n n (path_of_before (n ∷ ns) numbers n n (contains-head n ns) (contains-head n ns) h) in omega arith

  pub edges_join : (clock : Clock) → IsJoin ns (λ k. edge ns k n) clock → IsClock (n ∷ ns) n clock
  edges_join clock j = record { counts = counts; bounded = bounded }
    where
      same : (l : Line) → place (n ∷ ns) l n.number ≡ place ns l (length ns)
      same l = ap (λ (k : ℕ). place (n ∷ ns) l k) new ∙ place-older n ns new l (length ns) (omega arith)

      bounded : (l : Line) → clock l ≤ place (n ∷ ns) l n.number
      bounded l = rw (same l) (j.bounded l)

      counts : (l : Line) (m : Node) → Contains (n ∷ ns) m → line_of m ≡ Some l → IsTrue (before (n ∷ ns) m n) ↔ (place (n ∷ ns) l m.number < clock l)
      counts l m c on = ⊎_elim
          (λ e. subst (λ (x : Node). IsTrue (before (n ∷ ns) x n) ↔ (place (n ∷ ns) l x.number < clock l)) e
          ((λ h. absurd (not_below_itself h)), (λ lt. absurd (let le = bounded l in omega arith))))
          (λ there.
          let at = place-older n ns new l m.number (let lt = low m there in omega arith) in
          ((λ h. rw at ((j.counts l m there on).0 (by_last n ns numbers m there h))), (λ lt. by_edge n ns numbers m there ((j.counts l m there on).1 (rw at at lt)))))
          (contains-cons n ns m c)

  pub clock_stays : (m : Node) (clock : Clock) → Contains ns m → IsClock ns m clock → IsClock (n ∷ ns) m clock
  clock_stays m clock cm is = record { counts = counts; bounded = bounded }
    where
      at_m : (l : Line) → place (n ∷ ns) l m.number ≡ place ns l m.number
      at_m l = place-older n ns new l m.number (let lt = low m cm in omega arith)

      bounded : (l : Line) → clock l ≤ place (n ∷ ns) l m.number
      bounded l = rw (at_m l) (is.bounded l)

      counts : (l : Line) (x : Node) → Contains (n ∷ ns) x → line_of x ≡ Some l → IsTrue (before (n ∷ ns) x m) ↔ (place (n ∷ ns) l x.number < clock l)
      counts l x c on = ⊎_elim
          (λ e. subst (λ (y : Node). IsTrue (before (n ∷ ns) y m) ↔ (place (n ∷ ns) l y.number < clock l)) e (
            (λ h. absurd (let lt = forward (n ∷ ns) n m (path_of_before (n ∷ ns) numbers n m (contains-head n ns) (contains-tail n ns m cm) h) in let less = low m cm in let at = new in omega arith)),
            (λ lt. absurd (let le = bounded l in let less = low m cm in let at = new in let more = place-grows (n ∷ ns) l m.number n.number (omega arith) in omega arith)),
          ))
          (λ there.
          let at = place-older n ns new l x.number (let lt = low x there in omega arith) in
          ((λ h. rw at ((is.counts l x there on).0 (sym (old_before n ns numbers x m cm) ∙ h))), (λ lt. old_before n ns numbers x m cm ∙ (is.counts l x there on).1 (rw at at lt))))
          (contains-cons n ns x c)

-- ---- joins

-- a join over tests that agree is one
pub join_same : (ns : List Node) (f g : Node → Bool) (clock : Clock) → ((k : Node) → Contains ns k → f k ≡ g k) → IsJoin ns f clock → IsJoin ns g clock
join_same ns f g clock same j = record {
  counts = λ l m cm on. (
    (λ (k, there, is, way). (j.counts l m cm on).0 (k, there, same k there ∙ is, way)),
    (λ lt. let r = (j.counts l m cm on).1 lt in (r.0, r.1, sym (same r.0 r.1) ∙ r.2, r.3)),
  );
  bounded = j.bounded;
}

pub joins_meet : (ns : List Node) (f g : Node → Bool) (c d : Clock) → IsJoin ns f c → IsJoin ns g d → IsJoin ns (λ k. f k || g k) (joined c d)
joins_meet ns f g c d i j = record {
  counts = λ l m cm on. (
    (λ (k, there, is, way). ⊎_elim
        (λ e. let lt = (i.counts l m cm on).0 (k, there, e, way) in omega arith)
        (λ e. let lt = (j.counts l m cm on).0 (k, there, e, way) in omega arith)
        (or_cases (f k) (g k) is)),
    (λ lt. go l m cm on (nat_lt (place ns l m.number) (c l)) refl lt),
  );
  bounded = λ l. let a = i.bounded l in let b = j.bounded l in omega arith;
}
  where
    go : (l : Line) (m : Node) → Contains ns m → line_of m ≡ Some l → (t : Bool) → nat_lt (place ns l m.number) (c l) ≡ t → place ns l m.number < joined c d l → Leads ns (λ k. f k || g k) m
    go l m cm on true e lt = let r = (i.counts l m cm on).1 (ltb-true _ _ e) in (r.0, r.1, or_left (f r.0) (g r.0) r.2, r.3)
    go l m cm on false e lt = let r = (j.counts l m cm on).1 (let ge = ltb-false _ _ e in omega arith) in (r.0, r.1, or_right (f r.0) (g r.0) r.2, r.3)

module _ (ns : List Node) (test : Node → Bool) (n : Node) (join : Clock) (numbers : IsNumbered (n ∷ ns)) (j : IsJoin ns test join) where
  is_new : n.number ≡ length ns
  is_new = numbers.0

  small : (m : Node) → Contains ns m → m.number < length ns
  small m c = number_below ns numbers.1 m c

  keeps_leading : (m : Node) → Leads ns test m → Leads (n ∷ ns) test m
  keeps_leading m (k, there, t, inl e) = (k, contains-tail n ns k there, t, inl e)
  keeps_leading m (k, there, t, inr h) = (k, contains-tail n ns k there, t, inr (old_before n ns numbers m k there ∙ h))

  -- an older node leads by older ones, or by the new one
  leads_by : (m : Node) → Contains ns m → Leads (n ∷ ns) test m → Leads ns test m ⊎ (IsTrue (test n) × IsTrue (before (n ∷ ns) m n))
  leads_by m cm (k, ck, t, way) = ⊎_elim
      (λ e. inr (
        subst (λ (x : Node). IsTrue (test x)) (sym e) t,
        ⊎_elim
            (λ f. absurd (let lt = small m cm in let same : m.number ≡ n.number = ap (λ (x : Node). x.number) (f ∙ sym e) in let at = is_new in omega arith))
            (λ h. subst (λ (x : Node). IsTrue (before (n ∷ ns) m x)) (sym e) h) way,
      ))
      (λ there. inl (k, there, t, ⊎_elim (λ f. inl f) (λ h. inr (sym (old_before n ns numbers m k there) ∙ h)) way))
      (contains-cons n ns k ck)

  at_old : (l : Line) (m : Node) → Contains ns m → place (n ∷ ns) l m.number ≡ place ns l m.number
  at_old l m c = place-older n ns is_new l m.number (let lt = small m c in omega arith)

  at_new : (l : Line) → place (n ∷ ns) l n.number ≡ place ns l n.number
  at_new l = place-older n ns is_new l n.number (let at = is_new in omega arith)

  at_end : (l : Line) → place ns l n.number ≡ place ns l (length ns)
  at_end l = ap (λ (k : ℕ). place ns l k) is_new

  counts_kept : test n ≡ false → (l : Line) (m : Node) → Contains (n ∷ ns) m → line_of m ≡ Some l → Leads (n ∷ ns) test m ↔ (place (n ∷ ns) l m.number < join l)
  counts_kept fails l m c on = ⊎_elim
      (λ e. subst (λ (x : Node). Leads (n ∷ ns) test x ↔ (place (n ∷ ns) l x.number < join l)) e (
        (λ (k, ck, t, way). absurd (⊎_elim
            (λ f. no (sym fails ∙ subst (λ (x : Node). IsTrue (test x)) (sym f) t))
            (λ h. let lt = forward (n ∷ ns) n k (path_of_before (n ∷ ns) numbers n k (contains-head n ns) ck h) in let less = number_below (n ∷ ns) numbers k ck in let at = is_new in omega arith) way)),
        (λ lt. absurd (let le = j.bounded l in let a = at_new l in let b = at_end l in omega arith)),
      ))
      (λ there. let at = at_old l m there in (
        (λ h. rw at ((j.counts l m there on).0 (⊎_elim (λ r. r) (λ r. no (sym fails ∙ r.0)) (leads_by m there h)))),
        (λ lt. keeps_leading m ((j.counts l m there on).1 (rw at at lt))),
      ))
      (contains-cons n ns m c)

  pub join_stays : test n ≡ false → IsJoin (n ∷ ns) test join
  join_stays e = record {
    counts = counts_kept e;
    bounded = λ l. let le = j.bounded l in let more = place-more n ns is_new l (length ns) in let on = place-grows (n ∷ ns) l (length ns) (length (n ∷ ns)) (omega arith) in omega arith;
  }

module _ (ns : List Node) (test : Node → Bool) (n : Node) (clock join : Clock) (numbers : IsNumbered (n ∷ ns)) (whole : IsWhole (n ∷ ns) test) (is : IsClock (n ∷ ns) n clock) (j : IsJoin ns test join) where
  -- a node that counts itself counts no less
  no_less : (l : Line) → clock l ≤ itself ns n clock l
  no_less l = go (on_line l n) (is.bounded l)
    where
      go : (t : Bool) → clock l ≤ place (n ∷ ns) l n.number → clock l ≤ (if t then place ns l n.number + 1 else clock l)
      go true le = let at = at_new ns test n join numbers j l in omega arith
      go false le = omega arith

  at_itself : (l : Line) → line_of n ≡ Some l → itself ns n clock l ≡ place ns l n.number + 1
  at_itself l on = rw (is_on l n on) refl

  at_other : (l : Line) → on_line l n ≡ false → itself ns n clock l ≡ clock l
  at_other l off = rw off refl

  counts_grown : test n ≡ true → (l : Line) (m : Node) → Contains (n ∷ ns) m → line_of m ≡ Some l → Leads (n ∷ ns) test m ↔ (place (n ∷ ns) l m.number < joined join (itself ns n clock) l)
  counts_grown passes l m c on = ⊎_elim
      (λ e. let own = at_itself l (ap line_of e ∙ on) in subst (λ (x : Node). Leads (n ∷ ns) test x ↔ (place (n ∷ ns) l x.number < joined join (itself ns n clock) l)) e (
        (λ h. let a = at_new ns test n join numbers j l in omega arith),
        (λ lt. (n, contains-head n ns, passes, inl refl)),
      ))
      (λ there. (
        (λ h. ⊎_elim
            (λ r. let lt = (j.counts l m there on).0 r in let at = at_old ns test n join numbers j l m there in omega arith)
            (λ r. let lt = (is.counts l m c on).0 r.1 in let le = no_less l in omega arith)
            (leads_by ns test n join numbers j m there h)),
        (λ lt. back m c there l on (nat_lt (place (n ∷ ns) l m.number) (join l)) (on_line l n) refl refl lt),
      ))
      (contains-cons n ns m c)
    where
      back : (m : Node) → Contains (n ∷ ns) m → Contains ns m → (l : Line) → line_of m ≡ Some l → (s t : Bool) → nat_lt (place (n ∷ ns) l m.number) (join l) ≡ s → on_line l n ≡ t
          → place (n ∷ ns) l m.number < max (join l) (if on_line l n then place ns l n.number + 1 else clock l) → Leads (n ∷ ns) test m
      back m c there l on true t e f lt = keeps_leading ns test n join numbers j m ((j.counts l m there on).1 (let h = ltb-true _ _ e in let at = at_old ns test n join numbers j l m there in omega arith))
      back m c there l on false true e f lt = whole l m n c (contains-head n ns) on (of_on l n f) (let less = small ns test n join numbers j m there in let at = (is_new ns test n join numbers j) in omega arith) passes
      back m c there l on false false e f lt =
          let other = at_other l f in
          (n, contains-head n ns, passes, inr ((is.counts l m c on).1 (let ge = ltb-false _ _ e in omega arith)))

  own_bound : (l : Line) (t : Bool) → on_line l n ≡ t → itself ns n clock l ≤ place (n ∷ ns) l (length (n ∷ ns))
  own_bound l true e =
      let own = at_itself l (of_on l n e) in
      let here = place-own n ns (is_new ns test n join numbers j) l e in
      let more = place-grows ns l n.number (length (n ∷ ns)) (let at = (is_new ns test n join numbers j) in omega arith) in omega arith
  own_bound l false e =
      let own = at_other l e in
      let le = is.bounded l in
      let more = place-grows (n ∷ ns) l n.number (length (n ∷ ns)) (let at = (is_new ns test n join numbers j) in omega arith) in omega arith

  max_bound : (a b k : ℕ) → a ≤ k → b ≤ k → max a b ≤ k
  max_bound a b k p q = omega arith

  pub join_grows : IsJoin (n ∷ ns) test (extended ns test n clock join)
  join_grows = go (test n) refl
    where
      go : (t : Bool) → test n ≡ t → IsJoin (n ∷ ns) test (if t then joined join (itself ns n clock) else join)
      go true e = record {
        counts = counts_grown e;
        bounded = λ l. let le = j.bounded l in let more = place-more n ns (is_new ns test n join numbers j) l (length ns) in let on = place-grows (n ∷ ns) l (length ns) (length (n ∷ ns)) (omega arith) in
            let self = own_bound l (on_line l n) refl in max_bound (join l) (itself ns n clock l) (place (n ∷ ns) l (length (n ∷ ns))) (omega arith) self;
      }
      go false e = join_stays ns test n join numbers j e

-- ---- what may be joined over

pub lines_whole : (ns : List Node) (test : Node → Bool) (f : Line → Bool) → ((k : Node) (l : Line) → Contains ns k → line_of k ≡ Some l → test k ≡ f l) → IsWhole ns test
lines_whole ns test f tested l c d hc hd lc ld lt is = (c, hc, tested c l hc lc ∙ sym (tested d l hd ld) ∙ is, inl refl)

module _ (ns : List Node) (n : Node) (clock : Clock) (numbers : IsNumbered ns) (hn : Contains ns n)
    (ordered : (l : Line) (c : Node) → Contains ns c → line_of c ≡ Some l → line_of n ≡ Some l → c.number < n.number → IsTrue (before ns c n)) (is : IsClock ns n clock) where
  at_n : (k : Node) → Contains ns k → IsTrue (same_node n k) → k ≡ n
  at_n k c e = unique ns numbers k n c hn (sym (eqb-true n.number k.number e))

  by_own : (l : Line) (m : Node) → Contains ns m → line_of m ≡ Some l → line_of n ≡ Some l → (s t : Bool) → nat_lt m.number n.number ≡ s → nat_lt n.number m.number ≡ t → place ns l m.number < place ns l n.number + 1 → (m ≡ n) ⊎ IsTrue (before ns m n)
  by_own l m cm on own true t e f lt = inr (ordered l m cm on own (ltb-true _ _ e))
  by_own l m cm on own false true e f lt = absurd (let less = place-less ns numbers l n m.number hn own (ltb-true _ _ f) in omega arith)
  by_own l m cm on own false false e f lt = inl (unique ns numbers m n cm hn (let a = ltb-false _ _ e in let b = ltb-false _ _ f in omega arith))

  alone_at : (l : Line) (m : Node) → Contains ns m → line_of m ≡ Some l → (t : Bool) → on_line l n ≡ t → place ns l m.number < itself ns n clock l → Leads ns (same_node n) m
  alone_at l m cm on true e lt =
      let own : itself ns n clock l ≡ place ns l n.number + 1 = rw e refl in
      (n, hn, eq-eqb n.number n.number refl, by_own l m cm on (of_on l n e) (nat_lt m.number n.number) (nat_lt n.number m.number) refl refl (omega arith))
  alone_at l m cm on false e lt =
      let other : itself ns n clock l ≡ clock l = rw e refl in
      (n, hn, eq-eqb n.number n.number refl, inr ((is.counts l m cm on).1 (omega arith)))
