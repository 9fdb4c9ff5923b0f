-- What is free, by counts of finished commands.
use Rattle.std.proofs.Common.{◌≡◌, ◌⊎◌, inl, inr, ℕ, ◌+◌, ◌<◌, ◌≤◌, List, [], ◌∷◌, length, Bool, true, false, not, ◌&&◌, ◌||◌, nat_lt, refl, ap, sym, ◌∙◌, subst, arith, IsTrue}
use Rattle.std.specs.Prelude.{Contains, Option, Some, None, slice_index, if◌then◌else◌}
use Rattle.std.specs.List.{list_all}
use Rattle.std.proofs.lemmas.Bool.{cases_lt, lt-ltb, le-ltb, ltb-true}
use Rattle.std.proofs.lemmas.List.Sums.{get_or-le-sum_by}
use Rattle.vk_model.specs.Basics.{holds}
use Rattle.vk_model.specs.Sync.Node.{Node}
use Rattle.vk_model.specs.Sync.Before.{before, IsNumbered}
use Rattle.vk_model.proofs.Lists.Members.{contains-cons, contains-head, contains-tail, all_passes, each_of}
use Rattle.vk_model.proofs.Lists.Truths.{implied, implies, bool_same}
use Rattle.vk_model.proofs.Sync.Numbers.{number_below, not_earlier}
use Rattle.vk_model.proofs.Sync.Growth.{before-older}
use Rattle.vk_order.specs.declared.lines.Line.{Line}
use Rattle.vk_order.specs.declared.lines.Line.TheVariants.{Commands as OfCommands}
use Rattle.vk_order.specs.Lines.{line_of, place, on_line, same_line}
use Rattle.vk_order.proofs.PlaceLemmas.{place-older, place-grows, place-top, line_same}
use Rattle.vk_events.specs.Happens.{is_free_of, CountsBefore, AreFronts}
use Rattle.vk_events.specs.Inner.Hooks.{Hung, times}
use Rattle.vk_events.specs.Inner.Hanging.{IsHanging, count_of}
use Rattle.vk_events.proofs.HangingLemmas.{nothing}
use Rattle.vk_events.proofs.HungLemmas.{sum_none}

-- ---- places

-- the place of the next node on a line
pub place-next : (n : Node) (ns : List Node) → IsNumbered (n ∷ ns) → (l : Line) (b : Bool) → on_line l n ≡ b → place (n ∷ ns) l (length (n ∷ ns)) ≡ (if b then place ns l (length ns) + 1 else place ns l (length ns))
place-next n ns numbers l b on =
    let first : nat_lt n.number (length (n ∷ ns)) ≡ true = lt-ltb n.number (length (n ∷ ns)) (let at = numbers.0 in omega arith) in
    let top = place-top ns numbers.1 l (length (n ∷ ns)) (omega arith) in
    go b on first top
  where
    go : (b : Bool) → on_line l n ≡ b → nat_lt n.number (length (n ∷ ns)) ≡ true → place ns l (length (n ∷ ns)) ≡ place ns l (length ns) → place (n ∷ ns) l (length (n ∷ ns)) ≡ (if b then place ns l (length ns) + 1 else place ns l (length ns))
    go true on first top = rw (first, on, top) refl
    go false on first top = rw (first, on, top) refl

of_on : (l : Line) (n : Node) → on_line l n ≡ true → line_of n ≡ Some l
of_on l n e = go (line_of n) e
  where
    go : (o : Option Line) → holds o (same_line l) ≡ true → o ≡ Some l
    go None e = absurd cc
    go (Some m) e = ap (λ (k : Line). Some k) (sym (line_same l m e))

-- each place below the count is one of a node
pub place_found : (ns : List Node) → IsNumbered ns → (l : Line) (r : ℕ) → r < place ns l (length ns) → (m : Node) × Contains ns m × (line_of m ≡ Some l) × (place ns l m.number ≡ r)
place_found [] numbers l r lt = absurd (omega arith)
place_found (n ∷ ns) numbers l r lt = go (on_line l n) refl (cases_lt r (place ns l (length ns))) (λ low. older (place_found ns numbers.1 l r low))
  where
    Found : Type 0
    Found = (m : Node) × Contains (n ∷ ns) m × (line_of m ≡ Some l) × (place (n ∷ ns) l m.number ≡ r)

    older : ((m : Node) × Contains ns m × (line_of m ≡ Some l) × (place ns l m.number ≡ r)) → Found
    older f = (f.0, contains-tail n ns f.0 f.1, f.2, place-older n ns numbers.0 l f.0.number (let b = number_below ns numbers.1 f.0 f.1 in omega arith) ∙ f.3)

    go : (b : Bool) → on_line l n ≡ b → (r < place ns l (length ns)) ⊎ (place ns l (length ns) ≤ r) → (r < place ns l (length ns) → Found) → Found
    go b on (inl low) before = before low
    go true on (inr high) before =
        let next = place-next n ns numbers l true on in
        let same = place-older n ns numbers.0 l n.number (let at = numbers.0 in omega arith) in
        let own : place ns l n.number ≡ place ns l (length ns) = ap (λ (k : ℕ). place ns l k) numbers.0 in
        (n, contains-head n ns, of_on l n on, omega (arith, next, same, own))
    go false on (inr high) before = let next = place-next n ns numbers l false on in absurd (omega (arith, next))

-- ---- what is free

module _ (ns : List Node) (numbers : IsNumbered ns) (finished : Node → Bool) (fronts : List ℕ) (is : AreFronts ns finished fronts) (n : Node) (at : Contains ns n) (counts : List ℕ) (counted : CountsBefore ns n counts) where
  -- a free node lacks no command
  pub free_within : is_free_of ns finished n ≡ true → (q : ℕ) → q < 4 → slice_index counts q ≤ slice_index fronts q
  free_within free q on = elim (cases_lt (slice_index fronts q) (slice_index counts q)) [
    | inr le ↦ le
    | inl lt ↦ (
        let bound = counted.there q on in
        let low = number_below ns numbers n at in
        let grows = place-grows ns (OfCommands q) n.number (length ns) (omega arith) in
        let f = place_found ns numbers (OfCommands q) (slice_index fronts q) (omega arith) in
        let unfinished = is.next f.0 q on f.1 f.2 f.3 in
        let first : before ns f.0 n ≡ true = counted.first f.0 q on f.1 f.2 ∙ ap (λ (k : ℕ). nat_lt k (slice_index counts q)) f.3 ∙ lt-ltb (slice_index fronts q) (slice_index counts q) lt in
        let done : finished f.0 ≡ true = implied (before ns f.0 n) (finished f.0) first (all_passes (λ m. not (before ns m n) || finished m) ns f.0 free f.1) in
        absurd (let z : false ≡ true = sym unfinished ∙ done in cc))
  ]

  -- and one that lacks none is free
  pub within_free : ((q : ℕ) → q < 4 → slice_index counts q ≤ slice_index fronts q) → is_free_of ns finished n ≡ true
  within_free within = each_of (λ m. not (before ns m n) || finished m) ns (λ m c. implies (before ns m n) (finished m) (λ first. go m c first (finished m) refl))
    where
      go : (m : Node) → Contains ns m → before ns m n ≡ true → (b : Bool) → finished m ≡ b → finished m ≡ true
      go m c first true e = e
      go m c first false e =
          let k = is.commands m c e in
          let low = ltb-true (place ns (OfCommands k.0) m.number) (slice_index counts k.0) (sym (counted.first m k.0 k.1 c k.2) ∙ first) in
          let le = within k.0 k.1 in
          is.first m k.0 k.1 c k.2 (omega arith)

-- ---- what hangs on no queue

module _ (hooks : List Hung) (lacking : List ℕ) (met : Hung) (counts : List (List ℕ)) (low : ℕ → ℕ) (taken : ℕ → Bool) (is : IsHanging hooks lacking met counts low low taken) (i : ℕ) (here : i < length counts) where
  pub none_lacks : slice_index lacking i ≡ 0 → (q : ℕ) → q < 4 → count_of counts i q ≤ low q
  none_lacks none q on = elim (cases_lt (low q) (count_of counts i q)) [
    | inr le ↦ le
    | inl lt ↦ (
        let one = is.hangs q i on here lt in
        let some = get_or-le-sum_by (λ (h : Hung). times i h.pairs) hooks q nothing (let four = is.queues in omega arith) in
        let sum = is.lacks i here in
        absurd (omega (arith, one, some, sum)))
  ]

  pub lacks_none : ((q : ℕ) → q < 4 → count_of counts i q ≤ low q) → slice_index lacking i ≡ 0
  lacks_none within = is.lacks i here ∙ sum_none (λ (h : Hung). times i h.pairs) nothing hooks (λ q lt. let on : q < 4 = (let four = is.queues in omega arith) in is.free q i on (within q on))

-- ---- one node more

-- a test of all where another agrees
pub all_same : {X : Type 0} (f g : X → Bool) (xs : List X) → ((x : X) → Contains xs x → f x ≡ g x) → list_all f xs ≡ list_all g xs
all_same f g xs same = bool_same (list_all f xs) (list_all g xs)
    (λ a. each_of g xs (λ x c. sym (same x c) ∙ all_passes f xs x a c))
    (λ a. each_of f xs (λ x c. same x c ∙ all_passes g xs x a c))

module _ (k : Node) (ns : List Node) (numbers : IsNumbered (k ∷ ns)) (n : Node) (at : Contains ns n) where
  low : n.number < length ns
  low = number_below ns numbers.1 n at

  none_back : before (k ∷ ns) k n ≡ false
  unfolding before
  none_back = rw (not_earlier k ns numbers.0 n low) refl

  pub free_stays : (was now : Node → Bool) → ((m : Node) → Contains ns m → now m ≡ was m) → is_free_of (k ∷ ns) now n ≡ is_free_of ns was n
  free_stays was now same =
      ap (λ (b : Bool). (not b || now k) && list_all (λ m. not (before (k ∷ ns) m n) || now m) ns) none_back
      ∙ all_same (λ m. not (before (k ∷ ns) m n) || now m) (λ m. not (before ns m n) || was m) ns
      (λ m c. ap (λ (b : Bool). not b || now m) (before-older k ns numbers.0 m n low) ∙ ap (λ (b : Bool). not (before ns m n) || b) (same m c))

  pub counts_stay : (counts : List ℕ) → CountsBefore ns n counts → CountsBefore (k ∷ ns) n counts
  counts_stay counts is = record {
    first = λ m q on c line. go m q on line (contains-cons k ns m c);
    there = λ q on. let le = is.there q on in let same = place-older k ns numbers.0 (OfCommands q) n.number (let l = low in omega arith) in omega (arith, le, same);
  }
    where
      go : (m : Node) (q : ℕ) → q < 4 → line_of m ≡ Some (OfCommands q) → (k ≡ m) ⊎ Contains ns m → before (k ∷ ns) m n ≡ nat_lt (place (k ∷ ns) (OfCommands q) m.number) (slice_index counts q)
      go m q on line (inl same) = subst (λ (j : Node). before (k ∷ ns) j n ≡ nat_lt (place (k ∷ ns) (OfCommands q) j.number) (slice_index counts q)) same
          (let le = is.there q on in
          let l = low in
          let own = place-older k ns numbers.0 (OfCommands q) k.number (let e = numbers.0 in omega arith) in
          let grows = place-grows ns (OfCommands q) n.number k.number (let e = numbers.0 in omega arith) in
          none_back ∙ sym (le-ltb (place (k ∷ ns) (OfCommands q) k.number) (slice_index counts q) (omega (arith, le, own, grows))))
      go m q on line (inr old) =
          before-older k ns numbers.0 m n low ∙ is.first m q on old line
          ∙ ap (λ (j : ℕ). nat_lt j (slice_index counts q)) (sym (place-older k ns numbers.0 (OfCommands q) m.number (let b = number_below ns numbers.1 m old in omega arith)))

-- ---- fronts rise

pub fronts_rise : (ns more : List Node) → IsNumbered ns → (was now : Node → Bool) (old new : List ℕ) → AreFronts ns was old → AreFronts more now new
    → ((m : Node) → Contains ns m → Contains more m × (IsTrue (was m) → IsTrue (now m)) × ((l : Line) → place more l m.number ≡ place ns l m.number))
    → (q : ℕ) → q < 4 → slice_index old q ≤ slice_index new q
fronts_rise ns more numbers was now old new a b kept q on = elim (cases_lt (slice_index new q) (slice_index old q)) [
  | inr le ↦ le
  | inl lt ↦ (
      let top = a.there q on in
      let f = place_found ns numbers (OfCommands q) (slice_index new q) (omega arith) in
      let k = kept f.0 f.1 in
      let done = k.1 (a.first f.0 q on f.1 f.2 (let e = f.3 in omega arith)) in
      let unfinished = b.next f.0 q on k.0 f.2 (k.2 (OfCommands q) ∙ f.3) in
      absurd (let z : false ≡ true = sym unfinished ∙ done in cc))
]
