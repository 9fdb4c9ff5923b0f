-- The numbers that are walked over have each live allocation, in the order of the numbers.
use Rattle.std.proofs.Common.{◌≡◌, ℕ, zero, suc, ◌+◌, ◌<◌, ◌≤◌, List, [], ◌∷◌, ◌++◌, length, get_or, set, filter, take, Option, Some, None, refl, sym, ap, subst, ◌∙◌, arith, inl, inr}
use Rattle.std.specs.Prelude.{Bool, true, false, Contains, IsSome, is_some, slice_index_or, ◌⊎◌, if◌then◌else◌}
use Rattle.std.proofs.lemmas.Bool.{cases_eq}
use Rattle.std.proofs.lemmas.List.{append-nil, append_assoc, length-append, length-set}
use Rattle.vk_model.specs.Memory.MoveTargets.{Resident}
use Rattle.vma_pools.specs.declared.allocations.Allocation.{Allocation}
use Rattle.vma_pools.specs.Listing.{resident_at, residents_from}
use Rattle.vma_pools.specs.Inner.Numbers.{Rise, AreNumbers, residents_at}
use Rattle.vma_pools.proofs.NumberLemmas.{at-more, at-other}

-- ---- numbers that rise

rise-upto : (low : ℕ) (ns : List ℕ) (high : ℕ) → Rise low ns high → low ≤ high
rise-upto low [] high rise = rise
rise-upto low (n ∷ ns) high rise = let l = rise-upto (n + 1) ns high rise.1 in omega (arith, l, rise.0)

rise-lower : (less low : ℕ) (ns : List ℕ) (high : ℕ) → less ≤ low → Rise low ns high → Rise less ns high
rise-lower less low [] high le rise = omega (arith, le, rise)
rise-lower less low (n ∷ ns) high le rise = (omega (arith, le, rise.0), rise.1)

rise-more : (low : ℕ) (ns : List ℕ) (high more : ℕ) → high < more → Rise low ns high → Rise low (ns ++ high ∷ []) more
rise-more low [] high more lt rise = (rise, omega (arith, lt))
rise-more low (n ∷ ns) high more lt rise = (rise.0, rise-more (n + 1) ns high more lt rise.1)

rise-filter : (p : ℕ → Bool) (low : ℕ) (ns : List ℕ) (high : ℕ) → Rise low ns high → Rise low (filter p ns) high
rise-filter p low [] high rise = rise
rise-filter p low (n ∷ ns) high rise = go (p n) (rise-filter p (n + 1) ns high rise.1)
  where
    go : (v : Bool) → Rise (n + 1) (filter p ns) high → Rise low (if v then n ∷ filter p ns else filter p ns) high
    go true more = (rise.0, more)
    go false more = rise-lower low (n + 1) (filter p ns) high (let l = rise.0 in omega (arith, l)) more

rise-above : (low : ℕ) (ns : List ℕ) (high i : ℕ) → Rise low ns high → Contains ns i → low ≤ i
rise-above low [] high i rise has = let l = has.1 in absurd (omega (arith, l))
rise-above low (n ∷ ns) high i rise (zero, lt, e) = let l = rise.0 in omega (arith, l, e)
rise-above low (n ∷ ns) high i rise (suc k, lt, e) = let l = rise.0 in let m = rise-above (n + 1) ns high i rise.1 (k, omega (arith, lt), e) in omega (arith, l, m)

-- ---- what is among them

is-first : (n : ℕ) (ns : List ℕ) (i : ℕ) → Contains (n ∷ ns) i → (n ≡ i) ⊎ Contains ns i
is-first n ns i (zero, lt, e) = inl e
is-first n ns i (suc k, lt, e) = inr (k, omega (arith, lt), e)

is-later : (n : ℕ) (ns : List ℕ) (i : ℕ) → Contains ns i → Contains (n ∷ ns) i
is-later n ns i has = (suc has.0, (let l = has.1 in omega (arith, l)), has.2)

among-more : (ns : List ℕ) (m i : ℕ) → Contains ns i → Contains (ns ++ m ∷ []) i
among-more [] m i has = let l = has.1 in absurd (omega (arith, l))
among-more (n ∷ ns) m i has = elim (is-first n ns i has) [
  | inl here ↦ (zero, omega arith, here)
  | inr there ↦ is-later n (ns ++ m ∷ []) i (among-more ns m i there)
]

among-last : (ns : List ℕ) (m : ℕ) → Contains (ns ++ m ∷ []) m
among-last [] m = (zero, omega arith, refl)
among-last (n ∷ ns) m = is-later n (ns ++ m ∷ []) m (among-last ns m)

among-filter : (p : ℕ → Bool) (ns : List ℕ) (i : ℕ) → p i ≡ true → Contains ns i → Contains (filter p ns) i
among-filter p [] i is has = has
among-filter p (n ∷ ns) i is has = go (p n) refl (is-first n ns i has) (λ there. among-filter p ns i is there)
  where
    go : (v : Bool) → p n ≡ v → (n ≡ i) ⊎ Contains ns i → (Contains ns i → Contains (filter p ns) i) → Contains (if v then n ∷ filter p ns else filter p ns) i
    go true e (inl here) more = (zero, omega arith, here)
    go true e (inr there) more = is-later n (filter p ns) i (more there)
    go false e (inl here) more = absurd (let f = sym is ∙ ap p (sym here) ∙ e in cc)
    go false e (inr there) more = more there

-- ---- they stay so

pub numbers-more : (ns : List ℕ) (xs : List (Option Allocation)) (a : Allocation) → AreNumbers ns xs → AreNumbers (ns ++ length xs ∷ []) (xs ++ Some a ∷ [])
numbers-more ns xs a h = record {
  rise = rise-more 0 ns (length xs) (length (xs ++ Some a ∷ [])) (let l = length-append xs (Some a ∷ []) in omega (arith, l)) h.rise;
  each = λ i some. go i (slice_index_or (xs ++ Some a ∷ []) i None) refl some;
}
  where
    go : (i : ℕ) (o : Option Allocation) → slice_index_or (xs ++ Some a ∷ []) i None ≡ o → IsSome o → Contains (ns ++ length xs ∷ []) i
    go i None e some = absurd (let f = some in cc)
    go i (Some b) e some = elim (at-more xs (Some a) i b e) [
      | inl old ↦ among-more ns (length xs) i (h.each i (subst IsSome (sym old) refl))
      | inr new ↦ subst (λ (k : ℕ). Contains (ns ++ length xs ∷ []) k) (sym new.0) (among-last ns (length xs))
    ]

-- one of the allocations is another one, or none
pub numbers-set : (ns : List ℕ) (xs : List (Option Allocation)) (i : ℕ) (a : Allocation) (b : Option Allocation) → slice_index_or xs i None ≡ Some a → AreNumbers ns xs → AreNumbers ns (set xs i b)
numbers-set ns xs i a b live h = record {
  rise = subst (λ (n : ℕ). Rise 0 ns n) (sym (length-set xs i b)) h.rise;
  each = λ j some. elim (cases_eq j i) [
    | inl is ↦ subst (λ (k : ℕ). Contains ns k) (sym is) (h.each i (subst IsSome (sym live) refl))
    | inr other ↦ h.each j (subst IsSome (at-other xs i j b other) some)
  ];
}

-- those of what has ended were left out
pub numbers-left : (ns : List ℕ) (xs : List (Option Allocation)) → AreNumbers ns xs → AreNumbers (filter (λ n. is_some (slice_index_or xs n None)) ns) xs
numbers-left ns xs h = record {
  rise = rise-filter (λ n. is_some (slice_index_or xs n None)) 0 ns (length xs) h.rise;
  each = λ i some. among-filter (λ n. is_some (slice_index_or xs n None)) ns i (is-true (slice_index_or xs i None) some) (h.each i some);
}
  where
    is-true : (o : Option Allocation) → IsSome o → is_some o ≡ true
    is-true None some = some
    is-true (Some a) some = refl

-- ---- what is listed

pub residents-next : (pool : ℕ) (xs : List (Option Allocation)) (ns : List ℕ) (k : ℕ) → k < length ns
    → residents_at pool xs (take (suc k) ns) ≡ residents_at pool xs (take k ns) ++ resident_at pool (get_or ns k 0) (slice_index_or xs (get_or ns k 0) None)
residents-next pool xs [] k lt = absurd (omega (arith, lt))
residents-next pool xs (n ∷ ns) zero lt = append-nil (resident_at pool n (slice_index_or xs n None))
residents-next pool xs (n ∷ ns) (suc k) lt =
    ap (λ (l : List Resident). resident_at pool n (slice_index_or xs n None) ++ l) (residents-next pool xs ns k (omega (arith, lt)))
    ∙ sym (append_assoc (resident_at pool n (slice_index_or xs n None)) (residents_at pool xs (take k ns)) (resident_at pool (get_or ns k 0) (slice_index_or xs (get_or ns k 0) None)))

module _ (pool : ℕ) (all : List (Option Allocation)) where
  -- the rest of the allocations, of which the first has this number
  abbrev IsRest : ℕ → List (Option Allocation) → Type 0
  IsRest k xs = (i : ℕ) → slice_index_or xs i None ≡ slice_index_or all (k + i) None

  abbrev HasEach : ℕ → List (Option Allocation) → List ℕ → Type 0
  HasEach k xs ns = (i : ℕ) → IsSome (slice_index_or xs i None) → Contains ns (k + i)

  next-rest : (k : ℕ) (x : Option Allocation) (xs : List (Option Allocation)) → IsRest k (x ∷ xs) → IsRest (k + 1) xs
  next-rest k x xs rest i = let e : k + suc i ≡ k + 1 + i = omega arith in rest (suc i) ∙ ap (λ (n : ℕ). slice_index_or all n None) e

  next-each : (k : ℕ) (x : Option Allocation) (xs : List (Option Allocation)) (ns : List ℕ) → HasEach k (x ∷ xs) ns → HasEach (k + 1) xs ns
  next-each k x xs ns each i some = let e : k + suc i ≡ k + 1 + i = omega arith in subst (λ (n : ℕ). Contains ns n) e (each (suc i) some)

  -- the first is passed over, since it is none
  passed : (k : ℕ) (x : Option Allocation) → (IsSome x → ⊥) → resident_at pool k x ≡ []
  passed k None not = refl
  passed k (Some a) not = absurd (not refl)

  pub all-listed : (k : ℕ) (xs : List (Option Allocation)) (ns : List ℕ) → IsRest k xs → Rise k ns (k + length xs) → HasEach k xs ns → residents_at pool all ns ≡ residents_from pool k xs
  all-listed k [] [] rest rise each = refl
  all-listed k [] (n ∷ ns) rest rise each = let l = rise-upto (n + 1) ns (k + 0) rise.1 in let m = rise.0 in absurd (omega (arith, l, m))
  all-listed k (x ∷ xs) [] rest rise each =
      let e : k + length (x ∷ xs) ≡ k + 1 + length xs = omega arith in
      all-listed (k + 1) xs [] (next-rest k x xs rest) (omega arith) (next-each k x xs [] each)
      ∙ ap (λ (l : List Resident). l ++ residents_from pool (k + 1) xs) (sym (passed k x (λ some. let has = each zero some in let l = has.1 in absurd (omega (arith, l)))))
  all-listed k (x ∷ xs) (n ∷ ns) rest rise each =
      let e : k + length (x ∷ xs) ≡ k + 1 + length xs = omega arith in
      elim (cases_eq n k) [
        | inl is ↦ (
            let here : slice_index_or all n None ≡ x = ap (λ (m : ℕ). slice_index_or all m None) (let f : n ≡ k + 0 = omega (arith, is) in f) ∙ sym (rest zero) in
            let more = all-listed (k + 1) xs ns (next-rest k x xs rest) (subst (λ (h : ℕ). Rise (k + 1) ns h) e (subst (λ (m : ℕ). Rise (m + 1) ns (k + length (x ∷ xs))) is rise.1))
            (λ i some. later is i (is-first n ns (k + 1 + i) (next-each k x xs (n ∷ ns) each i some))) in
            ap (λ (l : List Resident). resident_at pool n (slice_index_or all n None) ++ l) more
            ∙ ap (λ (o : Option Allocation). resident_at pool n o ++ residents_from pool (k + 1) xs) here
            ∙ ap (λ (m : ℕ). resident_at pool m x ++ residents_from pool (k + 1) xs) is)
        | inr other ↦ (
            let above : k + 1 ≤ n = (let l = rise.0 in omega (arith, l, other)) in
            all-listed (k + 1) xs (n ∷ ns) (next-rest k x xs rest) (above, subst (λ (h : ℕ). Rise (n + 1) ns h) e rise.1) (next-each k x xs (n ∷ ns) each)
            ∙ ap (λ (l : List Resident). l ++ residents_from pool (k + 1) xs) (sym (passed k x (λ some.
            let l = rise-above (k + 1) (n ∷ ns) (k + length (x ∷ xs)) (k + 0) (above, rise.1) (each zero some) in absurd (omega (arith, l))))))
      ]
    where
      later : n ≡ k → (i : ℕ) → (n ≡ k + 1 + i) ⊎ Contains ns (k + 1 + i) → Contains ns (k + 1 + i)
      later is i (inl here) = absurd (omega (arith, is, here))
      later is i (inr there) = there
