-- Allocations of a pool that are left to be looked at, from the highest place down.
use Rattle.std.proofs.Common.{◌≡◌, ℕ, suc, ◌+◌, List, [], ◌∷◌, Bool, true, false, ◌==◌, Option, Some, None, refl, sym, ap, subst, ◌∙◌, arith, inl, inr}
use Rattle.std.specs.Prelude.{AllPairs, Contains, ⊤, if◌then◌else◌, slice_index_or}
use Rattle.std.proofs.lemmas.Bool.{eqb-true}
use Rattle.std.proofs.lemmas.List.Elements.{All-contains, Contains-append_cases}
use Rattle.std.proofs.lemmas.List.Sorted.{Contains-permutation, IsPermutation-sym}
use Rattle.vk_model.specs.Memory.MoveTargets.{BlockStart, Resident}
use Rattle.vk_model.specs.Memory.Pools.{IsByPlace, IsHigher}
use Rattle.vk_model.proofs.Lists.Members.{none_in, only_one, contains-head, contains-tail}
use Rattle.vk_model.proofs.Memory.AllPairs.{pairs_first, pairs_rest}
use Rattle.vma_pools.specs.declared.pool.PoolPlace.{PoolPlace}
use Rattle.vma_pools.specs.declared.allocations.Allocation.{Allocation}
use Rattle.vma_pools.specs.declared.allocations.Home.{Home}
use Rattle.vma_pools.specs.declared.allocations.Home.TheVariants as home
use Rattle.vma_pools.specs.State.{PoolsState, IsHeld, allocation_at, held_place, reserved_place, request_in, shared_place, start_of}
use Rattle.vma_pools.specs.Listing.{resident_at, resident_in, residents_from, residents_of}
use Rattle.vma_pools.proofs.StateLemmas.{some-is}
use Rattle.vma_defrag.specs.Plans.{ArePlanned}

-- a resource of a pool is the allocation of its number, which lies there
pub record IsListed (s : PoolsState) (pool : ℕ) (r : Resident) : Type 0 where
  pub allocation : Allocation
  pub live : allocation_at s r.id ≡ Some allocation
  pub place : PoolPlace
  pub lies : allocation.home ≡ home.Shared pool place
  pub from : start_of place ≡ r.from
  pub request : request_in allocation.asked ≡ r.request

-- and no place is reserved for it
pub record IsLeft (s : PoolsState) (pool : ℕ) (r : Resident) : Type 0 where
  pub listed : IsListed s pool r
  pub free : listed.allocation.target ≡ None

-- such resources, each another allocation
abbrev pub AreLeft : PoolsState → ℕ → List Resident → Type 0
AreLeft s pool [] = ⊤
AreLeft s pool (r ∷ rs) = IsLeft s pool r × ((q : Resident) → Contains rs q → q.id ≡ r.id → ⊥) × AreLeft s pool rs

-- ---- each resource of a pool is listed

record IsListedAt (pool k : ℕ) (xs : List (Option Allocation)) (r : Resident) : Type 0 where
  pub index : ℕ
  pub numbered : r.id ≡ k + index
  pub allocation : Allocation
  pub there : slice_index_or xs index None ≡ Some allocation
  pub place : PoolPlace
  pub lies : allocation.home ≡ home.Shared pool place
  pub from : start_of place ≡ r.from
  pub request : request_in allocation.asked ≡ r.request

module _ (pool k : ℕ) (xs : List (Option Allocation)) (r : Resident) where
  first-at : (a : Allocation) (l : Home) → a.home ≡ l → Contains (resident_in pool k l a.asked) r → IsListedAt pool k (Some a ∷ xs) r
  first-at a (home.Own m) lies at = absurd (none_in r at)
  first-at a (home.Shared p place) lies at = go (p == pool) refl at
    where
      go : (v : Bool) → (p == pool) ≡ v → Contains (if v then record { id = k; from = start_of place; request = request_in a.asked } ∷ [] else []) r → IsListedAt pool k (Some a ∷ xs) r
      go false e at = absurd (none_in r at)
      go true e at =
          let is = only_one (record { id = k; from = start_of place; request = request_in a.asked }) r at in
          record {
            index = 0;
            numbered = (let n = ap (λ (q : Resident). q.id) is in omega (arith, n));
            allocation = a;
            there = refl;
            place = place;
            lies = lies ∙ ap (λ (n : ℕ). home.Shared n place) (eqb-true p pool e);
            from = ap (λ (q : Resident). q.from) is;
            request = ap (λ (q : Resident). q.request) is;
          }

  one-at : (x : Option Allocation) → Contains (resident_at pool k x) r → IsListedAt pool k (x ∷ xs) r
  one-at None at = absurd (none_in r at)
  one-at (Some a) at = first-at a a.home refl at

  later-at : (x : Option Allocation) → IsListedAt pool (k + 1) xs r → IsListedAt pool k (x ∷ xs) r
  later-at x h = record {
    index = suc h.index;
    numbered = (let n = h.numbered in omega (arith, n));
    allocation = h.allocation;
    there = h.there;
    place = h.place;
    lies = h.lies;
    from = h.from;
    request = h.request;
  }

listed-at : (pool k : ℕ) (xs : List (Option Allocation)) (r : Resident) → Contains (residents_from pool k xs) r → IsListedAt pool k xs r
listed-at pool k [] r at = absurd (none_in r at)
listed-at pool k (x ∷ xs) r at =
    elim (Contains-append_cases (resident_at pool k x) (residents_from pool (k + 1) xs) r at) [
      | inl here ↦ one-at pool k xs r x here
      | inr later ↦ later-at pool k xs r x (listed-at pool (k + 1) xs r later)
    ]

pub is-listed : (s : PoolsState) (pool : ℕ) (r : Resident) → Contains (residents_of s pool) r → IsListed s pool r
is-listed s pool r at =
    let h = listed-at pool 0 s.allocations r at in
    let n : r.id ≡ h.index = (let e = h.numbered in omega (arith, e)) in
    record {
      allocation = h.allocation;
      live = ap (λ (i : ℕ). allocation_at s i) n ∙ h.there;
      place = h.place;
      lies = h.lies;
      from = h.from;
      request = h.request;
    }

-- ---- at the beginning all are left

is-free : (s : PoolsState) (pool : ℕ) → ArePlanned s pool [] → (r : Resident) (h : IsListed s pool r) → h.allocation.target ≡ None
is-free s pool none r h = go h.allocation.target refl
  where
    go : (o : Option PoolPlace) → h.allocation.target ≡ o → h.allocation.target ≡ None
    go None e = e
    go (Some t) e =
        let there : held_place true h.allocation ≡ Some (pool, t) = ap (λ (l : Home). reserved_place l h.allocation.target) h.lies ∙ ap (λ (o : Option PoolPlace). reserved_place (home.Shared pool h.place) o) e in
        let held : IsHeld s r.id true pool t h.allocation.asked = record { allocation = h.allocation; live = h.live; there = there; asks = refl } in
        absurd (let any = none.only r.id t h.allocation.asked held in omega (arith, any.2))

pub pair-is : (p q : ℕ) (x y : PoolPlace) → home.Shared p x ≡ home.Shared q y → (p ≡ q) × (x ≡ y)
pair-is p q x y e =
    let f : (p, x) ≡ (q, y) = some-is (p, x) (q, y) (ap shared_place e) in (ap (λ (u : ℕ × PoolPlace). u.0) f, ap (λ (u : ℕ × PoolPlace). u.1) f)

-- an allocation lies at one place
pub same-place : (s : PoolsState) (pool : ℕ) (r q : Resident) → IsListed s pool r → IsListed s pool q → q.id ≡ r.id → q.from ≡ r.from
same-place s pool r q h k same =
    let a : k.allocation ≡ h.allocation = some-is k.allocation h.allocation (sym k.live ∙ ap (λ (i : ℕ). allocation_at s i) same ∙ h.live) in
    let places = pair-is pool pool k.place h.place (sym k.lies ∙ ap (λ (b : Allocation). b.home) a ∙ h.lies) in
    sym k.from ∙ ap start_of places.1 ∙ h.from

not-higher : (s t : BlockStart) → t ≡ s → IsHigher s t → ⊥
not-higher s t e h = go (subst (λ (u : BlockStart). IsHigher s u) e h)
  where
    go : IsHigher s s → ⊥
    go (inl l) = omega (arith, l)
    go (inr l) = omega (arith, l.1)

falling-left : (s : PoolsState) (pool : ℕ) (rs : List Resident) → AllPairs (λ a b. IsHigher a.from b.from) rs → ((r : Resident) → Contains rs r → IsLeft s pool r) → AreLeft s pool rs
falling-left s pool [] falling each = tt
falling-left s pool (r ∷ rs) falling each =
    let one = each r (contains-head r rs) in (
      one,
      λ q at same. not-higher r.from q.from (same-place s pool r q one.listed (each q (contains-tail r rs q at)).listed same)
          (All-contains (λ b. IsHigher r.from b.from) rs q (pairs_first (λ a b. IsHigher a.from b.from) r rs falling) at),
      falling-left s pool rs (pairs_rest (λ a b. IsHigher a.from b.from) r rs falling) (λ q at. each q (contains-tail r rs q at)),
    )

pub all-left : (s : PoolsState) (pool : ℕ) (listed : List Resident) → ArePlanned s pool [] → IsByPlace (residents_of s pool) listed → AreLeft s pool listed
all-left s pool listed none by_place =
    falling-left s pool listed by_place.falling (λ r at.
    let h = is-listed s pool r (Contains-permutation listed (residents_of s pool) r (IsPermutation-sym (residents_of s pool) listed by_place.same) at) in
    record { listed = h; free = is-free s pool none r h })

-- ---- they stay so where another allocation changes

stays-left : (s t : PoolsState) (pool : ℕ) (r : Resident) → allocation_at t r.id ≡ allocation_at s r.id → IsLeft s pool r → IsLeft t pool r
stays-left s t pool r same h = let l = h.listed in record {
  listed = record { allocation = l.allocation; live = same ∙ l.live; place = l.place; lies = l.lies; from = l.from; request = l.request };
  free = h.free;
}

pub stay-left : (s t : PoolsState) (pool : ℕ) (rs : List Resident) → ((r : Resident) → Contains rs r → allocation_at t r.id ≡ allocation_at s r.id) → AreLeft s pool rs → AreLeft t pool rs
stay-left s t pool [] same h = tt
stay-left s t pool (r ∷ rs) same h = (stays-left s t pool r (same r (contains-head r rs)) h.0, h.1, stay-left s t pool rs (λ q at. same q (contains-tail r rs q at)) h.2)
