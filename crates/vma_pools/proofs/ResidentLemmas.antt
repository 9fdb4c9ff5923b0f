-- The allocations of a pool as its resources: each is where it lies, and no two are at one place.
use Rattle.std.proofs.Common.{◌≡◌, ℕ, zero, suc, ◌+◌, ◌<◌, List, [], ◌∷◌, ◌++◌, get_or, Bool, true, false, ◌==◌, Option, Some, None, refl, sym, ap, subst, ◌∙◌, arith}
use Rattle.std.specs.Prelude.{All, AllPairs, if◌then◌else◌, slice_index_or}
use Rattle.std.proofs.lemmas.Bool.{eqb-true}
use Rattle.std.proofs.lemmas.List.Elements.{All-nil, All-cons}
use Rattle.vk_model.specs.Memory.MoveTargets.{BlockStart, Resident}
use Rattle.vma_pools.specs.declared.pool.PoolPlace.{PoolPlace}
use Rattle.vma_pools.specs.declared.allocations.Allocation.{Allocation}
use Rattle.vma_pools.specs.declared.allocations.Home.{Home}
use Rattle.vma_pools.specs.declared.allocations.Home.TheVariants as home
use Rattle.vma_pools.specs.State.{PoolsState, shared_place, start_of, request_in, IsHeld, ArePools}
use Rattle.vma_pools.specs.Listing.{resident_in, residents_from, residents_of}

-- ---- each is where its allocation lies, and the numbers rise

-- one is the allocation at an index of a list
pub record IsListedAt (pool k : ℕ) (xs : List (Option Allocation)) (r : Resident) : Type 0 where
  pub index : ℕ
  pub numbered : r.id ≡ k + index
  pub allocation : Allocation
  pub there : slice_index_or xs index None ≡ Some allocation
  pub place : PoolPlace
  pub lies : allocation.home ≡ home.Shared pool place
  pub from : r.from ≡ start_of place

abbrev Rises : Resident → Resident → Type 0
Rises a b = a.id < b.id

abbrev AreListed : ℕ → ℕ → List (Option Allocation) → List Resident → Type 0
AreListed pool k xs rs = All (IsListedAt pool k xs) rs × AllPairs Rises rs

pairs-cons : {A : Type 0} (R : A → A → Type 0) (x : A) (xs : List A) → All (R x) xs → AllPairs R xs → AllPairs R (x ∷ xs)
pairs-cons R x xs all pairs zero zero d less lt = absurd (omega (arith, less))
pairs-cons R x xs all pairs zero (suc j) d less lt = all j d (omega (arith, lt))
pairs-cons R x xs all pairs (suc i) zero d less lt = absurd (omega (arith, less))
pairs-cons R x xs all pairs (suc i) (suc j) d less lt = pairs i j d (omega (arith, less)) (omega (arith, lt))

-- those behind the first stay so
later : (pool k : ℕ) (x : Option Allocation) (xs : List (Option Allocation)) (r : Resident) → IsListedAt pool (k + 1) xs r → IsListedAt pool k (x ∷ xs) r
later pool k x xs r h = let n = h.numbered in record { index = suc h.index; numbered = omega (arith, n); allocation = h.allocation; there = h.there; place = h.place; lies = h.lies; from = h.from }

are-later : (pool k : ℕ) (x : Option Allocation) (xs : List (Option Allocation)) (rs : List Resident) → AreListed pool (k + 1) xs rs → AreListed pool k (x ∷ xs) rs
are-later pool k x xs rs h = (λ j d lt. later pool k x xs (get_or rs j d) (h.0 j d lt), h.1)

first-listed : (pool k : ℕ) (a : Allocation) (xs : List (Option Allocation)) (rs : List Resident) → AreListed pool (k + 1) xs rs → (l : Home) → a.home ≡ l → AreListed pool k (Some a ∷ xs) (resident_in pool k l a.asked ++ rs)
first-listed pool k a xs rs h (home.Own m) lies = are-later pool k (Some a) xs rs h
first-listed pool k a xs rs h (home.Shared p place) lies = go (p == pool) refl
  where
    one : Resident
    one = record { id = k; from = start_of place; request = request_in a.asked }

    go : (v : Bool) → (p == pool) ≡ v → AreListed pool k (Some a ∷ xs) ((if v then record { id = k; from = start_of place; request = request_in a.asked } ∷ [] else []) ++ rs)
    go false e = are-later pool k (Some a) xs rs h
    go true e =
        let r : Resident = record { id = k; from = start_of place; request = request_in a.asked } in
        let l = are-later pool k (Some a) xs rs h in (
          All-cons (IsListedAt pool k (Some a ∷ xs)) r rs (record { index = 0; numbered = omega arith; allocation = a; there = refl; place = place; lies = lies ∙ ap (λ (n : ℕ). home.Shared n place) (eqb-true p pool e); from = refl }) l.0,
          pairs-cons Rises r rs (λ j d lt. let n = (h.0 j d lt).numbered in omega (arith, n)) h.1,
        )

are-listed : (pool k : ℕ) (xs : List (Option Allocation)) → AreListed pool k xs (residents_from pool k xs)
are-listed pool k [] = (All-nil (IsListedAt pool k []), λ i j d less lt. absurd (omega (arith, lt)))
are-listed pool k (None ∷ xs) = are-later pool k None xs (residents_from pool (k + 1) xs) (are-listed pool (k + 1) xs)
are-listed pool k (Some a ∷ xs) = first-listed pool k a xs (residents_from pool (k + 1) xs) (are-listed pool (k + 1) xs) a.home refl

-- ---- no two are at one place

abbrev pub IsElsewhere : Resident → Resident → Type 0
IsElsewhere a b = a.from ≡ b.from → ⊥

pub residents-apart : (s : PoolsState) → ArePools s → (pool : ℕ) → AllPairs IsElsewhere (residents_of s pool)
residents-apart s h pool i j d less lt same =
    let all = are-listed pool 0 s.allocations in let rs = residents_of s pool in
    let a = all.0 i d (omega (arith, less, lt)) in let b = all.0 j d lt in let rises = all.1 i j d less lt in
    let at : a.place ≡ b.place = place-is a.place b.place (sym a.from ∙ same ∙ b.from) in
    let x : IsHeld s a.index false pool a.place a.allocation.asked = record { allocation = a.allocation; live = a.there; there = ap shared_place a.lies; asks = refl } in
    let y : IsHeld s b.index false pool b.place b.allocation.asked = record { allocation = b.allocation; live = b.there; there = ap shared_place b.lies; asks = refl } in
    let one = h.one a.index b.index false false pool a.place a.allocation.asked b.allocation.asked x (subst (λ (p : PoolPlace). IsHeld s b.index false pool p b.allocation.asked) (sym at) y) in
    let m = a.numbered in let n = b.numbered in omega (arith, m, n, one.0, rises)
  where
    place-is : (x y : PoolPlace) → start_of x ≡ start_of y → x ≡ y
    place-is x y e = ap (λ (t : BlockStart). record { block = t.block; start = t.start }) e
