-- The lowest and the highest number that passes a test which says that it is a multiple in a gap.
use Rattle.std.proofs.Common.{◌≡◌, ℕ, zero, suc, ◌+◌, ◌-◌, ◌*◌, ◌/◌, ◌%◌, ◌<◌, ◌≤◌, List, [], ◌∷◌, ◌++◌, Bool, true, false, refl, ap, sym, subst, ◌∙◌, arith, cond, inl, inr}
use Rattle.std.specs.Prelude.{Some, None, reverse, nat_le, ◌&&◌, if◌then◌else◌}
use Rattle.std.specs.List.{find, range_with_len}
use Rattle.std.proofs.lemmas.List.{reverse-append}
use Rattle.std.proofs.lemmas.Bool.{leb-true, leb-false, and_parts, and_cases, false_from_ne_true, cases_lt}
use Rattle.vk_model.specs.Basics.{below, round_up}
use Rattle.vk_model.specs.Memory.Suballocation.{IsRequest}
use Rattle.vma_linear.specs.Inner.Gaps.{lowest_in, highest_in}

-- ---- finding

range_more : (a n : ℕ) → range_with_len a (suc n) ≡ range_with_len a n ++ (a + n) ∷ []
range_more a zero = let e : a ≡ a + 0 = omega arith in ap (λ k. k ∷ []) e
range_more a (suc n) =
    let e : a + 1 + n ≡ a + suc n = omega arith in
    ap (λ ks. a ∷ ks) (range_more (a + 1) n ∙ ap (λ k. range_with_len (a + 1) n ++ k ∷ []) e)

find_skips : (p : ℕ → Bool) (x : ℕ) (xs : List ℕ) → p x ≡ false → find p (x ∷ xs) ≡ find p xs
find_skips p x xs e = ap (λ b. cond b (Some x) (find p xs)) e

find_takes : (p : ℕ → Bool) (x : ℕ) (xs : List ℕ) → p x ≡ true → find p (x ∷ xs) ≡ Some x
find_takes p x xs e = ap (λ b. cond b (Some x) (find p xs)) e

first_from : (p : ℕ → Bool) (a n x : ℕ) → a ≤ x → x < a + n → p x ≡ true → ((y : ℕ) → a ≤ y → y < x → p y ≡ false) → find p (range_with_len a n) ≡ Some x
first_from p a zero x low high passes before = absurd (omega arith)
first_from p a (suc n) x low high passes before = elim (cases_lt a x) [
  | inl less ↦
      find_skips p a (range_with_len (a + 1) n) (before a (omega arith) less)
      ∙ first_from p (a + 1) n x (omega arith) (omega arith) passes (λ y above under. before y (omega arith) under)
  | inr more ↦
      let same : a ≡ x = omega arith in
      find_takes p a (range_with_len (a + 1) n) (ap p same ∙ passes) ∙ ap Some same
]

none_from : (p : ℕ → Bool) (a n : ℕ) → ((y : ℕ) → a ≤ y → y < a + n → p y ≡ false) → find p (range_with_len a n) ≡ None
none_from p a zero fails = refl
none_from p a (suc n) fails =
    find_skips p a (range_with_len (a + 1) n) (fails a (omega arith) (omega arith))
    ∙ none_from p (a + 1) n (λ y above under. fails y (omega arith) (omega arith))

reverse_more : (n : ℕ) → reverse (below (suc n)) ≡ n ∷ reverse (below n)
reverse_more n =
    let e : 0 + n ≡ n = omega arith in
    ap reverse (range_more 0 n ∙ ap (λ k. below n ++ k ∷ []) e) ∙ reverse-append (below n) (n ∷ [])

last_below : (p : ℕ → Bool) (n x : ℕ) → x < n → p x ≡ true → ((y : ℕ) → x < y → y < n → p y ≡ false) → find p (reverse (below n)) ≡ Some x
last_below p zero x there passes after = absurd (omega arith)
last_below p (suc n) x there passes after = ap (find p) (reverse_more n) ∙ elim (cases_lt x n) [
  | inl less ↦ find_skips p n (reverse (below n)) (after n less (omega arith)) ∙ last_below p n x less passes (λ y above under. after y above (omega arith))
  | inr more ↦ let same : n ≡ x = omega arith in find_takes p n (reverse (below n)) (ap p same ∙ passes) ∙ ap Some same
]

none_below : (p : ℕ → Bool) (n : ℕ) → ((y : ℕ) → y < n → p y ≡ false) → find p (reverse (below n)) ≡ None
none_below p zero fails = refl
none_below p (suc n) fails =
    ap (find p) (reverse_more n) ∙ find_skips p n (reverse (below n)) (fails n (omega arith)) ∙ none_below p n (λ y under. fails y (omega arith))

-- ---- multiples

pub record IsRounded (n align m : ℕ) : Type 0 where
  multiple : m % align ≡ 0
  above : n ≤ m
  least : (y : ℕ) → n ≤ y → y % align ≡ 0 → m ≤ y

rounded : (n size align : ℕ) → IsRequest size align → IsRounded n align (round_up n align)
rounded n size align r = elim r.aligned [
  | inl e ↦ subst (λ a. IsRounded n a (round_up n a)) (sym e) (record { multiple = omega arith; above = omega arith; least = λ y le z. omega arith })
  | inr other ↦ elim other [
    | inl e ↦ subst (λ a. IsRounded n a (round_up n a)) (sym e) (record { multiple = omega arith; above = omega arith; least = λ y le z. omega arith })
    | inr e ↦ subst (λ a. IsRounded n a (round_up n a)) (sym e) (record { multiple = omega arith; above = omega arith; least = λ y le z. omega arith })
  ]
]

record IsCut (n align m : ℕ) : Type 0 where
  multiple : m % align ≡ 0
  below_it : m ≤ n
  most : (y : ℕ) → y ≤ n → y % align ≡ 0 → y ≤ m

cut : (n size align : ℕ) → IsRequest size align → IsCut n align (n / align * align)
cut n size align r = elim r.aligned [
  | inl e ↦ subst (λ a. IsCut n a (n / a * a)) (sym e) (record { multiple = omega arith; below_it = omega arith; most = λ y le z. omega arith })
  | inr other ↦ elim other [
    | inl e ↦ subst (λ a. IsCut n a (n / a * a)) (sym e) (record { multiple = omega arith; below_it = omega arith; most = λ y le z. omega arith })
    | inr e ↦ subst (λ a. IsCut n a (n / a * a)) (sym e) (record { multiple = omega arith; below_it = omega arith; most = λ y le z. omega arith })
  ]
]

-- ---- in a gap

pub record InGap (from to n align y : ℕ) : Type 0 where
  pub multiple : y % align ≡ 0
  pub above : from ≤ y
  pub under : y + n ≤ to

module _ (p : ℕ → Bool) (from to n align high : ℕ) (request : IsRequest n align) (inside : to ≤ high)
    (gap : (y : ℕ) → p y ≡ true → InGap from to n align y) (fit : (y : ℕ) → InGap from to n align y → p y ≡ true) where
  fails : (y : ℕ) → (InGap from to n align y → ⊥) → p y ≡ false
  fails y never = false_from_ne_true (p y) (λ e. never (gap y e))

  pub lowest_is : find p (below (suc high)) ≡ lowest_in from to n align
  lowest_is = go (nat_le (round_up from align + n) to) refl
    where
      go : (b : Bool) → nat_le (round_up from align + n) to ≡ b → find p (below (suc high)) ≡ (if b then Some (round_up from align) else None)
      go true e =
          let s = rounded from n align request in
          let ends = leb-true (round_up from align + n) to e in
          first_from p 0 (suc high) (round_up from align) (omega arith) (omega arith)
          (fit (round_up from align) (record { multiple = s.multiple; above = s.above; under = ends }))
          (λ y low less. fails y (λ g. absurd (omega (arith, s.least y g.above g.multiple))))
      go false e =
          let s = rounded from n align request in
          let past = leb-false (round_up from align + n) to e in
          none_from p 0 (suc high) (λ y low less. fails y (λ g. absurd (omega (arith, s.least y g.above g.multiple, g.under))))

  pub highest_is : find p (reverse (below (suc high))) ≡ highest_in from to n align
  highest_is = go (nat_le n to && nat_le from ((to - n) / align * align)) refl
    where
      go : (b : Bool) → (nat_le n to && nat_le from ((to - n) / align * align)) ≡ b → find p (reverse (below (suc high))) ≡ (if b then Some ((to - n) / align * align) else None)
      go true e =
          let s = cut (to - n) n align request in
          let both = and_parts (nat_le n to) (nat_le from ((to - n) / align * align)) e in
          let fits = leb-true n to both.0 in
          let above = leb-true from ((to - n) / align * align) both.1 in
          let under = s.below_it in
          last_below p (suc high) ((to - n) / align * align) (omega arith)
          (fit ((to - n) / align * align) (record { multiple = s.multiple; above = above; under = omega arith }))
          (λ y more less. fails y (λ g. let ends = g.under in absurd (omega (arith, s.most y (omega arith) g.multiple))))
      go false e =
          let s = cut (to - n) n align request in
          none_below p (suc high) (λ y less. fails y (λ g.
          let ends = g.under in
          let above = g.above in
          let most = s.most y (omega arith) g.multiple in
          elim (and_cases (nat_le n to) (nat_le from ((to - n) / align * align)) e) [
            | inl short ↦ let small = leb-false n to short in absurd (omega arith)
            | inr low ↦ let past = leb-false from ((to - n) / align * align) low in absurd (omega arith)
          ]))
