-- A search by halves among slots in order.
use Rattle.std.proofs.Common.{◌≡◌, ℕ, ◌+◌, ◌<◌, ◌≤◌, List, length, get_or, take, set, true, false, ap, sym, ◌∙◌, arith, inl, inr, subst, min}
use Rattle.std.proofs.lemmas.List.{get_or_default, length-take, get_or-take}
use Rattle.std.proofs.lemmas.Bool.{ltb-true, lt-ltb, cases_lt, cases_order, both_ways, false_from_ne_true}
use Rattle.vma_linear.specs.declared.slots.Slot.{Slot}
use Rattle.vma_linear.specs.declared.slots.Direction.{Direction}
use Rattle.vma_linear.specs.declared.slots.Direction.TheVariants.{Up, Down}
use Rattle.vma_linear.specs.Inner.Slots.{comes_before, IsOrdered, IsPlaceOf}
use Rattle.vma_linear.proofs.SlotLists.{IsFreeAt, IsAloneAt, GivesBack, given_back}

pub before_trans : (w : Direction) (a b c : ℕ) → comes_before w a b ≡ true → comes_before w b c ≡ true → comes_before w a c ≡ true
before_trans Up a b c e f = lt-ltb a c (omega (arith, ltb-true a b e, ltb-true b c f))
before_trans Down a b c e f = lt-ltb c a (omega (arith, ltb-true b a e, ltb-true c b f))

pub before_differs : (w : Direction) (a b : ℕ) → comes_before w a b ≡ true → a ≡ b → ⊥
before_differs Up a b e = λ same. absurd (let h = ltb-true a b e in omega arith)
before_differs Down a b e = λ same. absurd (let h = ltb-true b a e in omega arith)

-- the slots up to one that comes before
pub low_more : (w : Direction) (xs : List Slot) (m start : ℕ) (e : Slot) → IsOrdered w xs → m < length xs → comes_before w (get_or xs m e).start start ≡ true → (k : ℕ) (d : Slot) → k < m + 1 → comes_before w (get_or xs k d).start start ≡ true
low_more w xs m start e ordered there before k d low =
    let here : comes_before w (get_or xs m d).start start ≡ true = ap (λ (s : Slot). comes_before w s.start start) (get_or_default xs m d e there) ∙ before in
    elim (cases_lt k m) [
      | inl less ↦ before_trans w (get_or xs k d).start (get_or xs m d).start start (ordered k m d less there) here
      | inr more ↦ let same : k ≡ m = omega arith in rw same here
    ]

-- the slots from one that doesn't
pub high_less : (w : Direction) (xs : List Slot) (m start : ℕ) (e : Slot) → IsOrdered w xs → m < length xs → comes_before w (get_or xs m e).start start ≡ false → (k : ℕ) (d : Slot) → m ≤ k → k < length xs → comes_before w (get_or xs k d).start start ≡ false
high_less w xs m start e ordered there after k d high within =
    let here : comes_before w (get_or xs m d).start start ≡ false = ap (λ (s : Slot). comes_before w s.start start) (get_or_default xs m d e there) ∙ after in
    elim (cases_lt m k) [
      | inl less ↦ false_from_ne_true (comes_before w (get_or xs k d).start start)
          (λ before. both_ways (comes_before w (get_or xs m d).start start) here (before_trans w (get_or xs m d).start (get_or xs k d).start start (ordered m k d less within) before))
      | inr more ↦ let same : k ≡ m = omega arith in rw same here
    ]

-- where all slots come before, none starts here
pub free_past : (w : Direction) (xs : List Slot) (start place : ℕ) → IsPlaceOf w xs start place → place ≡ length xs → IsFreeAt start xs
free_past w xs start place at past = λ k d there live same. before_differs w (get_or xs k d).start start (at.before k d (omega arith)) same

-- where the slot at the place isn't live or doesn't start here, none does
pub free_elsewhere : (w : Direction) (xs : List Slot) (start place : ℕ) (e : Slot) → IsOrdered w xs → IsPlaceOf w xs start place → place < length xs → ((get_or xs place e).live ≡ true → (get_or xs place e).start ≡ start → ⊥) → IsFreeAt start xs
free_elsewhere w xs start place e ordered at there not_here = λ k d within live same. elim (cases_order k place) [
  | inl here ↦ let read : get_or xs k d ≡ get_or xs place e = ap (λ i. get_or xs i d) here ∙ get_or_default xs place d e there in
      not_here (sym (ap (λ (s : Slot). s.live) read) ∙ live) (sym (ap (λ (s : Slot). s.start) read) ∙ same)
  | inr apart ↦ elim apart [
    | inl less ↦ before_differs w (get_or xs k d).start start (at.before k d less) same
    | inr more ↦ both_ways (comes_before w (get_or xs place d).start start) (at.after place d (omega arith) there)
        (ap (λ n. comes_before w (get_or xs place d).start n) (sym same) ∙ ordered place k d more within)
  ]
]

-- a slot that starts here is alone in that
pub alone_at : (w : Direction) (xs : List Slot) (i start : ℕ) (e : Slot) → IsOrdered w xs → i < length xs → (get_or xs i e).start ≡ start → IsAloneAt i start xs
alone_at w xs i start e ordered there here = λ k d within apart same.
    let at : (get_or xs i d).start ≡ start = ap (λ (s : Slot). s.start) (get_or_default xs i d e there) ∙ here in
    elim (cases_order k i) [
      | inl is ↦ apart is
      | inr other ↦ elim other [
        | inl less ↦ before_differs w (get_or xs k d).start (get_or xs i d).start (ordered k i d less there) (same ∙ sym at)
        | inr more ↦ before_differs w (get_or xs i d).start (get_or xs k d).start (ordered i k d more within) (at ∙ sym same)
      ]
    ]

-- what is left after the slot that starts here was given back
pub gives_back : (w : Direction) (xs ys : List Slot) (i start : ℕ) (e gone : Slot) → ys ≡ xs → IsOrdered w xs → i < length ys → (get_or ys i e).start ≡ start → (get_or ys i e).live ≡ true → gone.live ≡ false → GivesBack xs (set xs i gone) start
gives_back w xs ys i start e gone same ordered within here live dead =
    let there : i < length xs = rw same at within in
    let at : (get_or xs i e).start ≡ start = rw same at here in
    given_back i start xs e gone there at (rw same at live) dead (alone_at w xs i start e ordered there at)

pub ordered_take : (w : Direction) (xs ys : List Slot) (n : ℕ) → IsOrdered w xs → ys ≡ take n xs → IsOrdered w ys
ordered_take w xs ys n ordered e = subst (IsOrdered w) (sym e) (λ i j d less there.
    let inside : j < min n (length xs) = omega (arith, length-take n xs) in
    rw (get_or-take n xs i d (omega arith), get_or-take n xs j d (omega arith)) (ordered i j d less (omega arith)))
