-- The widest gap of a block, over its ranges in rising order.
use Rattle.std.proofs.Common.{◌≡◌, ℕ, ◌+◌, ◌-◌, ◌<◌, ◌≤◌, List, [], ◌∷◌, ◌++◌, get_or, false, not, max, refl, ap, sym, subst, ◌∙◌, arith, inl, inr, ◌⊎◌}
use Rattle.std.specs.Prelude.{All, IsTrue, reverse, nat_le}
use Rattle.std.specs.List.{list_any}
use Rattle.std.proofs.lemmas.List.{reverse-append}
use Rattle.std.proofs.lemmas.List.Elements.{All-nil, All-cons, All-head, All-tail, All-append, All-weaker, All-contains}
use Rattle.std.proofs.lemmas.List.Sorted.{IsPermutation-sym, IsPermutation-reverse, All-permutation}
use Rattle.std.proofs.lemmas.Bool.{and_parts, and_from, and_left, and_right, le-leb, leb-true, le-ltb, lt-ltb, cases_lt, cases_eq, not-true, not_from_false, both_ways}
use Rattle.vk_model.specs.Memory.Suballocation.{Taken, ranges_meet, is_free, IsLargestFree}
use Rattle.vk_model.specs.Memory.Room.{Linear, all_taken, last_start}
use Rattle.vk_model.specs.Memory.LinearBlocks.{Rises, Falls, IsLinearBlock}
use Rattle.vk_model.proofs.Lists.Members.{none_passes_any}
use Rattle.vk_model.proofs.Memory.Taken.{none_all}
use Rattle.vma_linear.specs.Inner.Widest.{widest_up, widest_down}
use Rattle.vma_linear.proofs.Places.{all_left, all_right, rises_all}

-- ---- in order

-- a range of bytes lies before another or after it
abbrev IsBeside : ℕ → ℕ → Taken → Type 0
IsBeside start n t = (t.start + t.size ≤ start) ⊎ (start + n ≤ t.start)

record IsWidest (low : ℕ) (ts : List Taken) (high w : ℕ) : Type 0 where
  start : ℕ
  above : low ≤ start
  under : start + w ≤ high
  free : All (IsBeside start w) ts
  most : (o n : ℕ) → low ≤ o → o + n ≤ high → All (IsBeside o n) ts → n ≤ w

widest_is : (low : ℕ) (ts : List Taken) (high : ℕ) → Rises low ts high → IsWidest low ts high (widest_up low ts high)
widest_is low [] high r = record {
  start = low;
  above = omega arith;
  under = omega (arith, r);
  free = All-nil (IsBeside low (high - low));
  most = λ o n above under free. omega arith;
}
widest_is low (t ∷ ts) high r = go (widest_is (t.start + t.size) ts high r.1)
  where
    end_under : (a : ℕ) (us : List Taken) → Rises a us high → a ≤ high
    end_under a [] q = q
    end_under a (u ∷ us) q = omega (arith, q.0, end_under (u.start + u.size) us q.1)

    go : IsWidest (t.start + t.size) ts high (widest_up (t.start + t.size) ts high) → IsWidest low (t ∷ ts) high (widest_up low (t ∷ ts) high)
    go rest = elim (cases_lt (t.start - low) (widest_up (t.start + t.size) ts high)) [
      | inl less ↦
          let same : max (t.start - low) (widest_up (t.start + t.size) ts high) ≡ widest_up (t.start + t.size) ts high = omega arith in
          let from = rest.above in
          subst (IsWidest low (t ∷ ts) high) (sym same) (record {
            start = rest.start;
            above = omega (arith, r.0);
            under = rest.under;
            free = All-cons (IsBeside rest.start (widest_up (t.start + t.size) ts high)) t ts (inl from) rest.free;
            most = λ o n above under free. elim (All-head (IsBeside o n) t ts free) [
              | inl after ↦ rest.most o n after under (All-tail (IsBeside o n) t ts free)
              | inr before ↦ omega arith
            ];
          })
      | inr more ↦
          let same : max (t.start - low) (widest_up (t.start + t.size) ts high) ≡ t.start - low = omega arith in
          let first = r.0 in
          subst (IsWidest low (t ∷ ts) high) (sym same) (record {
            start = low;
            above = omega arith;
            under = omega (arith, first, end_under (t.start + t.size) ts r.1);
            free = All-cons (IsBeside low (t.start - low)) t ts (inr (omega arith))
                (All-weaker (λ v. t.start + t.size ≤ v.start) (IsBeside low (t.start - low)) (λ v h. inr (omega arith)) ts (rises_all (t.start + t.size) ts high r.1));
            most = λ o n above under free. elim (All-head (IsBeside o n) t ts free) [
              | inl after ↦ omega (arith, rest.most o n after under (All-tail (IsBeside o n) t ts free))
              | inr before ↦ omega arith
            ];
          })
    ]

-- ---- the other way

pub widest_append : (low : ℕ) (ts : List Taken) (t : Taken) (high : ℕ) → widest_up low (ts ++ t ∷ []) high ≡ max (high - (t.start + t.size)) (widest_up low ts t.start)
widest_append low [] t high = omega arith
widest_append low (u ∷ ts) t high = let rest = widest_append (u.start + u.size) ts t high in omega arith

reverse_first : (t : Taken) (ts : List Taken) → reverse (t ∷ ts) ≡ reverse ts ++ t ∷ []
reverse_first t ts = reverse-append (t ∷ []) ts

pub widest_turned : (low : ℕ) (ts : List Taken) (high : ℕ) → widest_down low ts high ≡ widest_up low (reverse ts) high
widest_turned low [] high = refl
widest_turned low (t ∷ ts) high =
    ap (λ w. max (high - (t.start + t.size)) w) (widest_turned low ts t.start)
    ∙ sym (ap (λ us. widest_up low us high) (reverse_first t ts) ∙ widest_append low (reverse ts) t high)

rises_append : (low : ℕ) (xs ys : List Taken) (middle high : ℕ) → Rises low xs middle → Rises middle ys high → Rises low (xs ++ ys) high
rises_append low [] ys middle high r s = lowered ys s
  where
    lowered : (us : List Taken) → Rises middle us high → Rises low us high
    lowered [] q = omega arith
    lowered (u ∷ us) q = (omega (arith, q.0), q.1)
rises_append low (x ∷ xs) ys middle high r s = (r.0, rises_append (x.start + x.size) xs ys middle high r.1 s)

falls_turned : (bound high : ℕ) (ts : List Taken) (low : ℕ) → Falls high ts low → bound ≤ last_start high ts → Rises bound (reverse ts) high
falls_turned bound high [] low f le = le
falls_turned bound high (t ∷ ts) low f le =
    subst (λ us. Rises bound us high) (sym (reverse_first t ts))
    (rises_append bound (reverse ts) (t ∷ []) t.start high (falls_turned bound t.start ts low f.1 le) (omega arith, f.0))

-- ---- of a block

module _ (b : Linear) (h : IsLinearBlock b) where
  abbrev in_order : List Taken
  in_order = (b.wrapped ++ b.lower) ++ reverse b.upper

  order_rises : Rises 0 in_order b.size
  order_rises = rises_append 0 (b.wrapped ++ b.lower) (reverse b.upper) (last_start b.size b.upper) b.size h.rises (falls_turned (last_start b.size b.upper) b.size b.upper 0 h.falls (omega arith))

  from_order : (P : Taken → Type 0) → All P in_order → All P (all_taken b)
  from_order P all =
      let lows = all_left P (b.wrapped ++ b.lower) (reverse b.upper) all in
      let ups = all_right P (b.wrapped ++ b.lower) (reverse b.upper) all in
      All-append P (b.lower ++ b.wrapped) b.upper (All-append P b.lower b.wrapped (all_right P b.wrapped b.lower lows) (all_left P b.wrapped b.lower lows))
      (All-permutation P (reverse b.upper) b.upper (IsPermutation-sym b.upper (reverse b.upper) (IsPermutation-reverse b.upper)) ups)

  to_order : (P : Taken → Type 0) → All P (all_taken b) → All P in_order
  to_order P all =
      let lows = all_left P (b.lower ++ b.wrapped) b.upper all in
      let ups = all_right P (b.lower ++ b.wrapped) b.upper all in
      All-append P (b.wrapped ++ b.lower) (reverse b.upper) (All-append P b.wrapped b.lower (all_right P b.lower b.wrapped lows) (all_left P b.lower b.wrapped lows))
      (All-permutation P b.upper (reverse b.upper) (IsPermutation-reverse b.upper) ups)

  beside_free : (o n : ℕ) (t : Taken) → IsBeside o n t → ranges_meet t.start t.size o n ≡ false
  beside_free o n t beside = elim beside [
    | inl after ↦ and_right _ _ (le-ltb o (t.start + t.size) after)
    | inr before ↦ and_left _ _ (and_right _ _ (le-ltb t.start (o + n) before))
  ]

  free_beside : (o n : ℕ) (t : Taken) → 0 < n → 0 < t.size → ranges_meet t.start t.size o n ≡ false → IsBeside o n t
  free_beside o n t some more none = elim (cases_lt t.start (o + n)) [
    | inl low ↦ elim (cases_lt o (t.start + t.size)) [
      | inl high ↦ absurd (both_ways _ none (and_from _ _ (and_from _ _ (and_from _ _ (lt-ltb 0 t.size more) (lt-ltb 0 n some)) (lt-ltb t.start (o + n) low)) (lt-ltb o (t.start + t.size) high)))
      | inr after ↦ inl after
    ]
    | inr before ↦ inr before
  ]

  pub largest : IsLargestFree b.size (all_taken b) (widest_up 0 in_order b.size)
  largest =
      let w = widest_is 0 in_order b.size order_rises in
      let beside = from_order (IsBeside w.start (widest_up 0 in_order b.size)) w.free in
      record {
        start = w.start;
        free = and_from _ _ (le-leb (w.start + widest_up 0 in_order b.size) b.size w.under)
            (not_from_false _ (none_passes_any (λ t. ranges_meet t.start t.size w.start (widest_up 0 in_order b.size)) (all_taken b)
            (λ t in_it. beside_free w.start (widest_up 0 in_order b.size) t (All-contains (IsBeside w.start (widest_up 0 in_order b.size)) (all_taken b) t beside in_it))));
        most = λ o n free. most_is o n free;
      }
    where
      most_is : (o n : ℕ) → IsTrue (is_free b.size (all_taken b) o n) → n ≤ widest_up 0 in_order b.size
      most_is o n free = elim (cases_eq n 0) [
        | inl none ↦ omega arith
        | inr some ↦
            let w = widest_is 0 in_order b.size order_rises in
            let both = and_parts (nat_le (o + n) b.size) (not (list_any (λ t. ranges_meet t.start t.size o n) (all_taken b))) free in
            let apart = none_all (λ t. ranges_meet t.start t.size o n) (all_taken b) (not-true _ both.1) in
            let beside : All (IsBeside o n) (all_taken b) = λ k d there. free_beside o n (get_or (all_taken b) k d) (omega (arith, some)) (h.sized k d there) (apart k d there) in
            w.most o n (omega arith) (leb-true (o + n) b.size both.0) (to_order (IsBeside o n) beside)
      ]
