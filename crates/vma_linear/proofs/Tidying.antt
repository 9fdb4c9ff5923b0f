-- The slots of a list stay what they are when one is added, and when those that were given back are dropped.
use Rattle.std.proofs.Common.{◌≡◌, ℕ, zero, suc, ◌+◌, ◌-◌, ◌<◌, List, [], ◌∷◌, ◌++◌, map, length, get_or, Bool, true, false, refl, ap, sym, subst, ◌∙◌, arith, cond, inl, inr}
use Rattle.std.specs.Prelude.{All}
use Rattle.std.specs.List.{filter}
use Rattle.std.proofs.lemmas.List.{get_or_append_left, get_or_push, length_push}
use Rattle.std.proofs.lemmas.List.Elements.{All-head, All-tail, filter_passes}
use Rattle.std.proofs.lemmas.List.Kept.{AllPairs-filter}
use Rattle.std.proofs.lemmas.Bool.{cases_lt, cases_eq}
use Rattle.vk_model.specs.Memory.Suballocation.{Taken}
use Rattle.vma_linear.specs.declared.slots.Slot.{Slot}
use Rattle.vma_linear.specs.declared.slots.Direction.{Direction}
use Rattle.vma_linear.specs.Inner.Slots.{range_of, ranges_of, comes_before, IsOrdered, AreSlots}
use Rattle.vma_linear.proofs.SlotLists.{ranges-push, live_first, dead_first}
use Rattle.vma_linear.proofs.Searching.{before_trans}

abbrev is_live : Slot → Bool
is_live s = s.live

-- ---- those that are live alone

filter_twice : (xs : List Slot) → filter is_live (filter is_live xs) ≡ filter is_live xs
filter_twice [] = refl
filter_twice (x ∷ xs) = go x.live refl (filter_twice xs)
  where
    go : (b : Bool) → x.live ≡ b → filter is_live (filter is_live xs) ≡ filter is_live xs → filter is_live (cond b (x ∷ filter is_live xs) (filter is_live xs)) ≡ cond b (x ∷ filter is_live xs) (filter is_live xs)
    go true e rest = ap (λ b. cond b (x ∷ filter is_live (filter is_live xs)) (filter is_live (filter is_live xs))) e ∙ ap (λ ts. x ∷ ts) rest
    go false e rest = rest

pub ranges_of_live : (xs ys : List Slot) → ys ≡ filter is_live xs → ranges_of ys ≡ ranges_of xs
ranges_of_live xs ys e = ap ranges_of e ∙ ap (map range_of) (filter_twice xs)

pub live_slots : (w : Direction) (xs ys : List Slot) (live : ℕ) → IsOrdered w xs → ys ≡ filter is_live xs → live ≡ length (ranges_of xs) → AreSlots w ys 0 live
live_slots w xs ys live ordered e count =
    let each = filter_passes is_live xs in
    let all : AreSlots w (filter is_live xs) 0 live = record {
      ordered = AllPairs-filter (λ s t. comes_before w s.start t.start ≡ true) is_live xs ordered;
      front = λ k d low. absurd (omega arith);
      within = λ some. some;
      first = λ d some. each 0 d some;
      last = λ d some. each (length (filter is_live xs) - 1) d (omega arith);
      count = count ∙ sym (ap length (ranges_of_live xs (filter is_live xs) refl));
      start = λ none. refl;
    } in
    subst (λ zs. AreSlots w zs 0 live) (sym e) all

-- ---- one more

-- what holds of the ranges holds of each slot that is live
pub slot_in_ranges : (P : Taken → Type 0) (xs : List Slot) (k : ℕ) (d : Slot) → All P (ranges_of xs) → k < length xs → (get_or xs k d).live ≡ true → P (range_of (get_or xs k d))
slot_in_ranges P [] k d all there live = absurd (omega arith)
slot_in_ranges P (x ∷ xs) zero d all there live = All-head P (range_of x) (ranges_of xs) (subst (All P) (live_first x xs live) all)
slot_in_ranges P (x ∷ xs) (suc k) d all there live = go x.live refl (λ rest. slot_in_ranges P xs k d rest (omega arith) live)
  where
    go : (b : Bool) → x.live ≡ b → (All P (ranges_of xs) → P (range_of (get_or xs k d))) → P (range_of (get_or xs k d))
    go true e here = here (All-tail P (range_of x) (ranges_of xs) (subst (All P) (live_first x xs e) all))
    go false e here = here (subst (All P) (dead_first x xs e) all)

module _ (w : Direction) (xs : List Slot) (head live : ℕ) (s : Slot) (are : AreSlots w xs head live) (fresh : s.live ≡ true)
    (after : All (λ t. comes_before w t.start s.start ≡ true) (ranges_of xs)) where
  each_before : (k : ℕ) (d : Slot) → k < length xs → comes_before w (get_or xs k d).start s.start ≡ true
  each_before k d there =
      let end = length xs - 1 in
      let inside : end < length xs = omega arith in
      let last_before : comes_before w (get_or xs end d).start s.start ≡ true = slot_in_ranges (λ t. comes_before w t.start s.start ≡ true) xs end d after inside (are.last d (omega arith)) in
      elim (cases_lt k end) [
        | inl less ↦ before_trans w (get_or xs k d).start (get_or xs end d).start s.start (are.ordered k end d less inside) last_before
        | inr more ↦ let same : k ≡ end = omega arith in rw same last_before
      ]

  head_within : (k : ℕ) → k < head → k < length xs
  head_within k low = elim (cases_eq (length xs) 0) [
    | inl none ↦ absurd (omega (arith, are.start none))
    | inr some ↦ omega (arith, are.within (omega (arith, some)))
  ]

  more_ordered : IsOrdered w (xs ++ s ∷ [])
  more_ordered = λ i j d less there.
      let left : i < length xs = omega (arith, length_push xs s) in
      elim (cases_lt j (length xs)) [
        | inl in_xs ↦ rw (get_or_append_left xs (s ∷ []) d i left, get_or_append_left xs (s ∷ []) d j in_xs) (are.ordered i j d less in_xs)
        | inr at ↦
            let here : length xs ≡ j = omega (arith, length_push xs s) in
            rw (get_or_append_left xs (s ∷ []) d i left, get_or_push xs s d j here) (each_before i d left)
      ]

  more_within : head < length (xs ++ s ∷ [])
  more_within = elim (cases_eq (length xs) 0) [
    | inl none ↦ omega (arith, are.start none, length_push xs s)
    | inr some ↦ omega (arith, are.within (omega (arith, some)), length_push xs s)
  ]

  more_first : (d : Slot) → (get_or (xs ++ s ∷ []) head d).live ≡ true
  more_first d = elim (cases_eq (length xs) 0) [
    | inl none ↦
        let zero_head : head ≡ 0 = are.start none in
        let at : length xs ≡ head = omega arith in
        rw (get_or_push xs s d head at) fresh
    | inr some ↦
        let within : head < length xs = are.within (omega (arith, some)) in
        rw (get_or_append_left xs (s ∷ []) d head within) (are.first d (omega (arith, some)))
  ]

  pub one_more : AreSlots w (xs ++ s ∷ []) head (live + 1)
  one_more = record {
    ordered = more_ordered;
    front = λ k d low. let there = head_within k low in rw (get_or_append_left xs (s ∷ []) d k there) (are.front k d low);
    within = λ some. more_within;
    first = λ d some. more_first d;
    last = λ d some.
        let at : length xs ≡ length (xs ++ s ∷ []) - 1 = omega (arith, length_push xs s) in
        rw (get_or_push xs s d (length (xs ++ s ∷ []) - 1) at) fresh;
    count = omega (arith, are.count, ap length (ranges-push xs s fresh), length_push (ranges_of xs) (range_of s));
    start = λ none. absurd (omega (arith, length_push xs s));
  }
