-- The resources of a pool, by their ids.
use Rattle.std.proofs.Common.{◌≡◌, ℕ, zero, suc, ◌+◌, List, [], ◌∷◌, ◌++◌, map, Bool, Option, Some, None, refl, sym, ap, subst, ◌∙◌, arith, inl, inr, ◌⊎◌}
use Rattle.std.specs.Prelude.{if◌then◌else◌, slice_index_or}
use Rattle.std.specs.Option.{option_and_then}
use Rattle.std.proofs.lemmas.Bool.{cases_eq, ne_eqb, eq-eqb}
use Rattle.vk_memory.specs.MemoryState.{MemoryState}
use Rattle.vk_model.specs.Memory.MoveTargets.{Resident, Moved}
use Rattle.vma_pools.specs.declared.pool.PoolPlace.{PoolPlace}
use Rattle.vma_pools.specs.declared.allocations.Allocation.{Allocation}
use Rattle.vma_pools.specs.declared.allocations.Home.{Home}
use Rattle.vma_pools.specs.declared.allocations.Home.TheVariants as home
use Rattle.vma_pools.specs.State.{allocation_at, start_of, request_in}
use Rattle.vma_pools.specs.Listing as pools
use Rattle.vma_pools.specs.Listing.{residents_from, residents_of}
use Rattle.vma_pools.proofs.StateLemmas.{some-is}
use Rattle.vk_backing.specs.Backed.{Backed, allocation_of, allocation_by, dedicated_of, IsBacked, IsWhole}
use Rattle.vk_backing.specs.Allotted.{resident_at, resident_of}
use Rattle.vk_backing.proofs.Keyed.{picked, picked_in, picked_out}
use Rattle.vk_backing.proofs.Spots.{home_pool}

abbrev pub key : Resident → ℕ
key a = a.id

next : (i j : ℕ) → i + suc j ≡ i + 1 + j
next i j = omega arith

add-none : (i : ℕ) → i + 0 ≡ i
add-none i = omega arith

module _ (b : Backed) (m : MemoryState) (h : IsBacked b m) (whole : IsWhole b) where
  -- ---- whose an allocation is

  who : (n : ℕ) (o : Option Allocation) → allocation_at b.pools n ≡ o → ℕ
  who n None e = 0
  who n (Some x) e = (whole n x e).0

  pub name : ℕ → ℕ
  name n = who n (allocation_at b.pools n) refl

  abbrev pub LiesOn : ℕ → Allocation → Type 0
  LiesOn p x = (place : PoolPlace) × (x.home ≡ home.Shared p place)

  in_pool : (n : ℕ) (x : Allocation) (p : ℕ) → LiesOn p x → allocation_at b.pools n ≡ Some x → (i : ℕ) → (allocation_of b i ≡ Some n) ⊎ (dedicated_of b i ≡ Some n) → allocation_of b i ≡ Some n
  in_pool n x p lies live i (inl shares) = shares
  in_pool n x p lies live i (inr alone) =
      let d = h.dedicated i n alone in
      let same = some-is d.allocation x (sym d.live ∙ live) in
      let e = sym d.lies ∙ ap (λ (y : Allocation). y.home) same ∙ lies.1 in absurd (clash d.number p lies.0 e)
    where
      clash : (k p : ℕ) (place : PoolPlace) → home.Own k ≡ home.Shared p place → ⊥
      clash k p place e = absurd cc

  who_is : (n : ℕ) (o : Option Allocation) (e : allocation_at b.pools n ≡ o) (x : Allocation) (p : ℕ) → o ≡ Some x → LiesOn p x → allocation_of b (who n o e) ≡ Some n
  unfolding who
  who_is n None e x p is lies = absurd cc
  who_is n (Some y) e x p is lies =
      let w = whole n y e in let same = some-is y x is in
      in_pool n y p (lies.0, ap (λ (z : Allocation). z.home) same ∙ lies.1) e w.0 w.1

  pub name_has : (n : ℕ) (x : Allocation) (p : ℕ) → allocation_at b.pools n ≡ Some x → LiesOn p x → allocation_of b (name n) ≡ Some n
  unfolding name
  name_has n x p live lies = who_is n (allocation_at b.pools n) refl x p live lies

  pub name_is : (i n : ℕ) (x : Allocation) (p : ℕ) → allocation_at b.pools n ≡ Some x → LiesOn p x → allocation_of b i ≡ Some n → name n ≡ i
  name_is i n x p live lies has = h.one (name n) i n (name_has n x p live lies) has

  -- ---- residents by ids

  abbrev pub renamed : Resident → Resident
  renamed a = record a { id = name a.id }

  abbrev pub renamed_move : Moved → Moved
  renamed_move m = record m { id = name m.id }

  module _ (p : ℕ) where
    lies-or : (x : Allocation) → LiesOn p x ⊎ ((i : ℕ) → pools.resident_in p i x.home x.asked ≡ [])
    lies-or x = go x.home refl
      where
        go : (l : Home) → x.home ≡ l → LiesOn p x ⊎ ((i : ℕ) → pools.resident_in p i x.home x.asked ≡ [])
        go (home.Own n) e = inr (λ i. ap (λ (l : Home). pools.resident_in p i l x.asked) e)
        go (home.Shared q place) e = elim (cases_eq q p) [
          | inl is ↦ inl (place, e ∙ ap (λ (j : ℕ). home.Shared j place) is)
          | inr other ↦ inr (λ i. ap (λ (l : Home). pools.resident_in p i l x.asked) e ∙ ap (λ (v : Bool). if v then record { id = i; from = start_of place; request = request_in x.asked } ∷ [] else []) (ne_eqb q p other))
        ]

    pub resident_there : (i : ℕ) (x : Allocation) (lies : LiesOn p x) → pools.resident_in p i x.home x.asked ≡ record { id = i; from = start_of lies.0; request = request_in x.asked } ∷ []
    resident_there i x lies =
        ap (λ (l : Home). pools.resident_in p i l x.asked) lies.1
        ∙ ap (λ (v : Bool). if v then record { id = i; from = start_of lies.0; request = request_in x.asked } ∷ [] else []) (eq-eqb p p refl)

    -- no allocation of the pool is of this id
    none_of : (r i : ℕ) (xs : List (Option Allocation)) → ((j : ℕ) (x : Allocation) → slice_index_or xs j None ≡ Some x → LiesOn p x → name (i + j) ≡ r → ⊥) → picked key r (map renamed (residents_from p i xs)) ≡ []
    none_of r i [] none = refl
    none_of r i (None ∷ xs) none = none_of r (i + 1) xs (λ j x at lies is. none (suc j) x at lies (ap name (next i j) ∙ is))
    none_of r i (Some x ∷ xs) none = elim (lies-or x) [
      | inl there ↦
          ap (λ (l : List Resident). picked key r (map renamed (l ++ residents_from p (i + 1) xs))) (resident_there i x there)
          ∙ picked_out key r (renamed (record { id = i; from = start_of there.0; request = request_in x.asked })) (map renamed (residents_from p (i + 1) xs)) (λ is. none 0 x refl there (ap name (add-none i) ∙ is))
          ∙ none_of r (i + 1) xs (λ j y at lies is. none (suc j) y at lies (ap name (next i j) ∙ is))
      | inr away ↦
          ap (λ (l : List Resident). picked key r (map renamed (l ++ residents_from p (i + 1) xs))) (away i)
          ∙ none_of r (i + 1) xs (λ j y at lies is. none (suc j) y at lies (ap name (next i j) ∙ is))
    ]

    -- the one of this id
    one_of : (r i : ℕ) (xs : List (Option Allocation)) (k : ℕ) (x : Allocation) → slice_index_or xs k None ≡ Some x → (lies : LiesOn p x) → name (i + k) ≡ r → ((j : ℕ) (y : Allocation) → slice_index_or xs j None ≡ Some y → LiesOn p y → name (i + j) ≡ r → j ≡ k)
        → picked key r (map renamed (residents_from p i xs)) ≡ record { id = r; from = start_of lies.0; request = request_in x.asked } ∷ []
    one_of r i [] k x at lies is only = absurd cc
    one_of r i (o ∷ xs) zero x at lies is only =
        let here : name i ≡ r = ap name (sym (add-none i)) ∙ is in
        ap (λ (a : Option Allocation). picked key r (map renamed (pools.resident_at p i a ++ residents_from p (i + 1) xs))) at
        ∙ ap (λ (l : List Resident). picked key r (map renamed (l ++ residents_from p (i + 1) xs))) (resident_there i x lies)
        ∙ picked_in key r (renamed (record { id = i; from = start_of lies.0; request = request_in x.asked })) (map renamed (residents_from p (i + 1) xs)) here
        ∙ ap (λ (l : List Resident). record { id = name i; from = start_of lies.0; request = request_in x.asked } ∷ l) (none_of r (i + 1) xs (λ j y there on same. let e = only (suc j) y there on (ap name (next i j) ∙ same) in absurd (omega (arith, e))))
        ∙ ap (λ (j : ℕ). record { id = j; from = start_of lies.0; request = request_in x.asked } ∷ []) here
    one_of r i (o ∷ xs) (suc k) x at lies is only =
        skip o refl
        ∙ one_of r (i + 1) xs k x at lies (ap name (sym (next i k)) ∙ is) (λ j y there on same. let e = only (suc j) y there on (ap name (next i j) ∙ same) in omega (arith, e))
      where
        skip : (a : Option Allocation) → o ≡ a → picked key r (map renamed (pools.resident_at p i o ++ residents_from p (i + 1) xs)) ≡ picked key r (map renamed (residents_from p (i + 1) xs))
        skip None e = ap (λ (a : Option Allocation). picked key r (map renamed (pools.resident_at p i a ++ residents_from p (i + 1) xs))) e
        skip (Some y) e = elim (lies-or y) [
          | inl there ↦
              ap (λ (a : Option Allocation). picked key r (map renamed (pools.resident_at p i a ++ residents_from p (i + 1) xs))) e
              ∙ ap (λ (l : List Resident). picked key r (map renamed (l ++ residents_from p (i + 1) xs))) (resident_there i y there)
              ∙ picked_out key r (renamed (record { id = i; from = start_of there.0; request = request_in y.asked })) (map renamed (residents_from p (i + 1) xs))
              (λ same. let e = only 0 y e there (ap name (add-none i) ∙ same) in absurd (omega (arith, e)))
          | inr away ↦
              ap (λ (a : Option Allocation). picked key r (map renamed (pools.resident_at p i a ++ residents_from p (i + 1) xs))) e
              ∙ ap (λ (l : List Resident). picked key r (map renamed (l ++ residents_from p (i + 1) xs))) (away i)
        ]

    -- what lies in the pool for an id
    pub picked_residents : (r : ℕ) → picked key r (map renamed (residents_of b.pools p)) ≡ resident_of p r (allocation_by b r)
    picked_residents r = go (allocation_of b r) refl
      where
        mine : (n : ℕ) (x : Allocation) → allocation_at b.pools n ≡ Some x → LiesOn p x → name n ≡ r → allocation_of b r ≡ Some n
        mine n x live lies is = subst (λ (i : ℕ). allocation_of b i ≡ Some n) is (name_has n x p live lies)

        zero-plus : (j : ℕ) → 0 + j ≡ j
        zero-plus j = omega arith

        go : (o : Option ℕ) → allocation_of b r ≡ o → picked key r (map renamed (residents_of b.pools p)) ≡ resident_of p r (allocation_by b r)
        go None e =
            none_of r 0 b.pools.allocations (λ j x at lies is. clash j (sym e ∙ mine j x at lies (ap name (sym (zero-plus j)) ∙ is)))
            ∙ sym (ap (λ (o : Option ℕ). resident_of p r (option_and_then (allocation_at b.pools) o)) e)
          where
            clash : (j : ℕ) → None ≡ Some j → ⊥
            clash j e = absurd cc
        go (Some n) e =
            let s = h.shared r n e in
            let found : allocation_by b r ≡ Some s.allocation = ap (λ (o : Option ℕ). option_and_then (allocation_at b.pools) o) e ∙ s.live in
            elim (cases_eq s.pool p) [
              | inl is ↦
                  let lies : LiesOn p s.allocation = (s.place, s.lies ∙ ap (λ (q : ℕ). home.Shared q s.place) is) in
                  one_of r 0 b.pools.allocations n s.allocation s.live lies (ap name (zero-plus n) ∙ name_is r n s.allocation p s.live lies e)
                  (λ j y at on same. let f = mine j y at on (ap name (sym (zero-plus j)) ∙ same) in some-is j n (sym f ∙ e))
                  ∙ sym (ap (λ (o : Option Allocation). resident_of p r o) found ∙ ap (λ (l : Home). resident_at p r s.allocation.asked l) lies.1
                  ∙ ap (λ (v : Bool). if v then record { id = r; from = start_of s.place; request = request_in s.allocation.asked } ∷ [] else []) (eq-eqb p p refl))
              | inr other ↦
                  none_of r 0 b.pools.allocations (λ j y at on same.
                  let f = some-is j n (sym (mine j y at on (ap name (sym (zero-plus j)) ∙ same)) ∙ e) in
                  let g = some-is y s.allocation (sym at ∙ ap (λ (k : ℕ). allocation_at b.pools k) f ∙ s.live) in
                  other (home_pool s.pool p s.place on.0 (sym s.lies ∙ ap (λ (z : Allocation). z.home) (sym g) ∙ on.1)))
                  ∙ sym (ap (λ (o : Option Allocation). resident_of p r o) found ∙ ap (λ (l : Home). resident_at p r s.allocation.asked l) s.lies
                  ∙ ap (λ (v : Bool). if v then record { id = r; from = start_of s.place; request = request_in s.allocation.asked } ∷ [] else []) (ne_eqb s.pool p other))
            ]
