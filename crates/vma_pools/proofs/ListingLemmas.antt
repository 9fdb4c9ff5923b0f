-- Allocations of a pool in the order of their places.
use Rattle.std.proofs.Common.{◌≡◌, ℕ, zero, suc, ◌+◌, ◌-◌, ◌<◌, List, [], ◌∷◌, ◌++◌, length, get_or, map, reverse, take, Option, None, refl, sym, ap, subst, ◌∙◌, arith, inl, inr}
use Rattle.std.specs.Prelude.{AllPairs, IsPermutation, slice_index_or}
use Rattle.std.specs.List.Sorted.{IsSortedByKey, IsStableByKey}
use Rattle.std.specs.Ordering.{nat_cmp}
use Rattle.std.proofs.lemmas.Bool.{cases_eq}
use Rattle.std.proofs.lemmas.List.{get_or-reverse, length-map, length-reverse, map-append}
use Rattle.std.proofs.lemmas.List.Sorted.{IsNonDecreasingBy-from_sort, IsPermutation-map, IsPermutation-reverse, IsPermutation-trans, ties_still_rise}
use Rattle.vk_model.specs.Memory.MoveTargets.{BlockStart, Resident}
use Rattle.vk_model.specs.Memory.Pools.{IsHigher}
use Rattle.vk_model.proofs.Memory.AllPairs.{pairs_permuted}
use Rattle.vma_pools.specs.declared.listing.Listed.{Listed}
use Rattle.vma_pools.specs.declared.allocations.Allocation.{Allocation}
use Rattle.vma_pools.specs.State.{PoolsState, ArePools}
use Rattle.vma_pools.specs.Listing.{AreByPlace, resident_at, residents_of}
use Rattle.vma_pools.specs.Inner.Listed.{AreInOrder, IsNotAbove, resident}
use Rattle.vma_pools.specs.Inner.Numbers.{residents_at}
use Rattle.vma_pools.proofs.WalkLemmas.{get_or-map-in}
use Rattle.vma_pools.proofs.KeptNumbers.{residents-next}
use Rattle.vma_pools.proofs.ResidentLemmas.{IsElsewhere, residents-apart}

-- ---- the two sorts

abbrev pub start_in : Listed → ℕ
start_in l = l.place.start

abbrev pub block_in : Listed → ℕ
block_in l = l.place.block

pub in-order : (xs ys : List Listed) → IsSortedByKey start_in nat_cmp xs → IsSortedByKey block_in nat_cmp ys → IsStableByKey block_in nat_cmp xs ys → AreInOrder ys
in-order xs ys starts blocks stable k d lt = elim (cases_eq (block_in (get_or ys k d)) (block_in (get_or ys (k + 1) d))) [
  | inl same ↦ inr (same, ties_still_rise start_in block_in xs ys starts stable k d lt same)
  | inr other ↦ (let l = IsNonDecreasingBy-from_sort block_in ys blocks k (k + 1) d (omega arith) lt in inl (omega (arith, l, other)))
]

-- ---- from the lowest up

not-above-trans : (a b c : Listed) → IsNotAbove a b → IsNotAbove b c → IsNotAbove a c
not-above-trans a b c (inl x) (inl y) = inl (omega (arith, x, y))
not-above-trans a b c (inl x) (inr y) = inl (omega (arith, x, y.0))
not-above-trans a b c (inr x) (inl y) = inl (omega (arith, x.0, y))
not-above-trans a b c (inr x) (inr y) = inr (x.0 ∙ y.0, omega (arith, x.1, y.1))

order-far : (ys : List Listed) → AreInOrder ys → (d : Listed) (i n : ℕ) → i + suc n < length ys → IsNotAbove (get_or ys i d) (get_or ys (i + suc n) d)
order-far ys order d i zero lt = order i d (omega (arith, lt))
order-far ys order d i (suc n) lt =
    let e : i + suc n + 1 ≡ i + suc (suc n) = omega arith in
    not-above-trans (get_or ys i d) (get_or ys (i + suc n) d) (get_or ys (i + suc (suc n)) d) (order-far ys order d i n (omega (arith, lt)))
    (subst (λ (m : ℕ). IsNotAbove (get_or ys (i + suc n) d) (get_or ys m d)) e (order (i + suc n) d (omega (arith, lt))))

abbrev IsApart : Listed → Listed → Type 0
IsApart a b = IsElsewhere (resident a) (resident b)

abbrev IsAbove : Listed → Listed → Type 0
IsAbove a b = IsHigher (resident a).from (resident b).from

strictly : (a b : Listed) → IsNotAbove a b → IsApart a b → IsAbove b a
strictly a b (inl less) apart = inl less
strictly a b (inr same) apart = elim (cases_eq a.place.start b.place.start) [
  | inl start ↦ absurd (apart (start-is (resident a).from (resident b).from same.0 start))
  | inr other ↦ inr (sym same.0, omega (arith, same.1, other))
]
  where
    start-is : (x y : BlockStart) → x.block ≡ y.block → x.start ≡ y.start → x ≡ y
    start-is x y e f = ap (λ (n : ℕ). record { block = n; start = x.start }) e ∙ ap (λ (n : ℕ). record { block = y.block; start = n }) f

-- ---- from the highest down

pairs-mapped : {A C : Type 0} (R : C → C → Type 0) (f : A → C) (xs : List A) → AllPairs (λ x y. R (f x) (f y)) xs → AllPairs R (map f xs)
pairs-mapped R f [] pairs i j d less lt = absurd (omega (arith, lt))
pairs-mapped R f (x ∷ xs) pairs i j d less lt =
    let l = length-map (x ∷ xs) f in let there : j < length (x ∷ xs) = omega (arith, lt, l) in let here : i < length (x ∷ xs) = omega (arith, less, there) in
    subst (λ u. R u (get_or (map f (x ∷ xs)) j d)) (sym (get_or-map-in f (x ∷ xs) i x d here)) (subst (λ v. R (f (get_or (x ∷ xs) i x)) v) (sym (get_or-map-in f (x ∷ xs) j x d there)) (pairs i j x less there))

pairs-unmapped : {A C : Type 0} (R : C → C → Type 0) (f : A → C) (xs : List A) → AllPairs R (map f xs) → AllPairs (λ x y. R (f x) (f y)) xs
pairs-unmapped R f xs pairs i j d less lt =
    let l = length-map xs f in
    subst (λ x. R x (f (get_or xs j d))) (get_or-map-in f xs i d (f d) (omega (arith, less, lt))) (subst (λ y. R (get_or (map f xs) i (f d)) y) (get_or-map-in f xs j d (f d) lt) (pairs i j (f d) less (omega (arith, lt, l))))

module _ (ys : List Listed) (order : AreInOrder ys) (apart : AllPairs IsApart ys) where
  -- a later one is below an earlier one, where the list is turned round
  turned : (i j : ℕ) (d : Listed) → i < j → j < length ys → IsAbove (get_or (reverse ys) i d) (get_or (reverse ys) j d)
  turned i j d less lt =
      let n = length ys - 1 - j in let m = length ys - 1 - i in
      let far : n + suc (m - n - 1) ≡ m = omega (arith, less, lt) in
      let low : m < length ys = omega (arith, less, lt) in
      let up : IsNotAbove (get_or ys n d) (get_or ys m d) = subst (λ (k : ℕ). IsNotAbove (get_or ys n d) (get_or ys k d)) far (order-far ys order d n (m - n - 1) (omega (arith, far, low))) in
      subst (λ (x : Listed). IsAbove x (get_or (reverse ys) j d)) (sym (get_or-reverse ys i d (omega (arith, less, lt))))
      (subst (λ (x : Listed). IsAbove (get_or ys m d) x) (sym (get_or-reverse ys j d lt))
      (strictly (get_or ys n d) (get_or ys m d) up (apart n m d (omega (arith, less, lt)) low)))

  falling : AllPairs (λ a b. IsHigher a.from b.from) (map resident (reverse ys))
  falling = pairs-mapped (λ a b. IsHigher a.from b.from) resident (reverse ys) (λ i j d less lt. turned i j d less (subst (λ (n : ℕ). j < n) (length-reverse ys) lt))

pub listed-by-place : (s : PoolsState) → ArePools s → (pool : ℕ) (xs ys : List Listed) (numbers : List ℕ) → map resident xs ≡ residents_of s pool → IsPermutation xs ys → AreInOrder ys → numbers ≡ map (λ l. l.number) (reverse ys) → AreByPlace s pool numbers
listed-by-place s h pool xs ys numbers are same order is =
    record {
      listed = map resident (reverse ys);
      by_place = record {
        same = subst (λ (rs : List Resident). IsPermutation rs (map resident (reverse ys))) are (IsPermutation-map resident xs (reverse ys) (IsPermutation-trans xs ys (reverse ys) same (IsPermutation-reverse ys)));
        falling = falling ys order (pairs_permuted IsApart (λ a b apart e. apart (sym e)) xs ys same (pairs-unmapped IsElsewhere resident xs (subst (λ (rs : List Resident). AllPairs IsElsewhere rs) (sym are) (residents-apart s h pool))));
      };
      are = is ∙ same-numbers (reverse ys);
    }
  where
    same-numbers : (zs : List Listed) → map (λ l. l.number) zs ≡ map (λ a. a.id) (map resident zs)
    same-numbers [] = refl
    same-numbers (z ∷ zs) = ap (λ (l : List ℕ). z.number ∷ l) (same-numbers zs)

-- ---- one after another

pub listed-more : (pool k : ℕ) (xs : List (Option Allocation)) (ns : List ℕ) (found more new : List Listed) (o : Option Allocation) → k < length ns → map resident found ≡ residents_at pool xs (take k ns)
    → o ≡ slice_index_or xs (get_or ns k 0) None → resident_at pool (get_or ns k 0) o ≡ map resident more → new ≡ found ++ more → map resident new ≡ residents_at pool xs (take (k + 1) ns)
listed-more pool k xs ns found more new o lt was entry here is =
    ap (λ (l : List Listed). map resident l) is ∙ map-append resident found more ∙ ap (λ (l : List Resident). l ++ map resident more) was
    ∙ ap (λ (l : List Resident). residents_at pool xs (take k ns) ++ l) (sym here ∙ ap (λ (p : Option Allocation). resident_at pool (get_or ns k 0) p) entry)
    ∙ sym (residents-next pool xs ns k lt) ∙ ap (λ (n : ℕ). residents_at pool xs (take n ns)) (let e : suc k ≡ k + 1 = omega arith in e)
