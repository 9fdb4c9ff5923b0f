-- A resource gets an allocation in a memory object of its own, and such an allocation ends.
use Rattle.std.proofs.Common.{◌≡◌, ℕ, List, [], ◌∷◌, ◌++◌, set, length, Option, Some, None, refl, sym, ap, subst, ◌∙◌, inl, inr, ◌⊎◌}
use Rattle.std.specs.Prelude.{slice_index_or}
use Rattle.vk_memory.specs.MemoryState.{MemoryState, with_object}
use Rattle.vk_model.specs.declared.resource.Spot.{Spot}
use Rattle.vma_pools.specs.declared.allocations.Allocation.{Allocation}
use Rattle.vma_pools.specs.declared.allocations.Asked.{Asked}
use Rattle.vma_pools.specs.declared.allocations.Home.{Home}
use Rattle.vma_pools.specs.declared.allocations.Home.TheVariants as home
use Rattle.vma_pools.specs.State.{PoolsState, allocation_at, new_allocation, with_more, IfLive, IsEnded, IsSpotOf, Owner, Alone, BlockOf, Has, released}
use Rattle.vma_pools.proofs.NumberLemmas.{at-more, at-old, at-new, at-below, at-set, at-other}
use Rattle.vma_pools.proofs.StateLemmas.{some-is}
use Rattle.vma_pools.proofs.CallLemmas.{live-holds}
use Rattle.vk_backing.specs.declared.backing.Own.{Own}
use Rattle.vk_backing.specs.Backed.{Backed, own_in, object_of, dedicated_of, allocation_of, IsBacked, IsDedicated, IsOwner}
use Rattle.vk_backing.proofs.Owned.{object_is, dedicated_is}
use Rattle.vk_backing.proofs.Turned.{Stays, stays}

-- ---- one more

module _ (b : Backed) (m : MemoryState) (asked : Asked) where
  abbrev one : Allocation
  one = new_allocation (home.Own (length m.objects)) asked

  abbrev pub next : ℕ
  next = length b.pools.allocations

  abbrev pub more : List (Option Allocation)
  more = b.pools.allocations ++ Some one ∷ []

  pub more_kept : (a : ℕ) (x : Allocation) → allocation_at b.pools a ≡ Some x → slice_index_or more a None ≡ Some x
  more_kept a x at = at-old b.pools.allocations (Some one) a x at

  own_number : (n k : ℕ) → home.Own n ≡ home.Own k → n ≡ k
  own_number n k e = cc

  pub more_had : (x : Owner) (n : ℕ) → Has (with_more b.pools one) x n → Has b.pools x n ⊎ ((n ≡ length m.objects) × IsOwner (Some next) x)
  more_had (Alone i) n has = elim (at-more b.pools.allocations (Some one) i has.0 has.1) [
    | inl old ↦ inl (has.0, old, has.2)
    | inr new ↦ inr (own_number n (length m.objects) (sym has.2 ∙ ap (λ (a : Allocation). a.home) (sym (some-is one has.0 new.1))), ap (λ (k : ℕ). Some k) (sym new.0))
  ]
  more_had (BlockOf p j) n has = inl has

  pub more_new : (a : ℕ) → Some next ≡ Some a → IsDedicated (slice_index_or more a None) (Some (length m.objects))
  more_new a e = record {
    allocation = one;
    live = ap (λ (k : ℕ). slice_index_or more k None) (sym (some-is next a e)) ∙ at-new b.pools.allocations (Some one);
    free = refl;
    number = length m.objects;
    lies = refl;
    owns = refl;
  }

  pub more_was : (a : ℕ) (x : Allocation) → slice_index_or more a None ≡ Some x → ((y : Allocation) × (allocation_at b.pools a ≡ Some y)) ⊎ (Some next ≡ Some a)
  more_was a x at = elim (at-more b.pools.allocations (Some one) a x at) [ inl old ↦ inl (x, old) | inr new ↦ inr (ap (λ (k : ℕ). Some k) (sym new.0)) ]

  -- it lies there
  pub more_lies : (spot : Spot) → IfLive (with_more b.pools one) next (λ a. IsSpotOf (with_more b.pools one) a.home a.asked spot) → spot.memory ≡ length m.objects
  more_lies spot lies = ap (λ (s : Spot). s.memory) (live-holds (with_more b.pools one) next (λ a. IsSpotOf (with_more b.pools one) a.home a.asked spot) lies one (at-new b.pools.allocations (Some one)))

-- ---- one less

module _ (b : Backed) (m : MemoryState) (h : IsBacked b m) (id a : ℕ) (o : Own) (its : own_in b.owned id ≡ Some o) (has : o.allocation ≡ Some a) where
  pub its_dedicated : dedicated_of b id ≡ Some a
  its_dedicated = dedicated_is b.owned id (Some o) its ∙ has

  pub its_object : object_of b id ≡ Some o.object
  its_object = object_is b.owned id (Some o) its

  abbrev d : IsDedicated (allocation_at b.pools a) (object_of b id)
  d = h.dedicated id a its_dedicated

  number_is : d.number ≡ o.object
  number_is = some-is d.number o.object (sym d.owns ∙ its_object)

  pub its_lies : d.allocation.home ≡ home.Own o.object
  its_lies = d.lies ∙ ap (λ (n : ℕ). home.Own n) number_is

  abbrev pub less : List (Option Allocation)
  less = set b.pools.allocations a None

  less_other : (j : ℕ) → (j ≡ a → ⊥) → slice_index_or less j None ≡ allocation_at b.pools j
  less_other j other = at-other b.pools.allocations a j None other

  less_none : slice_index_or less a None ≡ None
  less_none = at-set b.pools.allocations a None (at-below b.pools.allocations a d.allocation d.live)

  less_away : (j : ℕ) (x : Allocation) → slice_index_or less j None ≡ Some x → j ≡ a → ⊥
  less_away j x at is = let e = sym less_none ∙ ap (λ (k : ℕ). slice_index_or less k None) (sym is) ∙ at in cc

  less_stays : (j : ℕ) → (j ≡ a → ⊥) → Stays (allocation_at b.pools j) (slice_index_or less j None)
  less_stays j other = stays (allocation_at b.pools j) (slice_index_or less j None) (λ x at. less_other j other ∙ at)

  -- none in a pool has ended
  pub shared_stays : (j k : ℕ) → allocation_of b j ≡ Some k → Stays (allocation_at b.pools k) (slice_index_or less k None)
  shared_stays j k shares = less_stays k (λ is.
      let s = h.shared j k shares in
      let same = some-is s.allocation d.allocation (sym s.live ∙ ap (λ (l : ℕ). allocation_at b.pools l) is ∙ d.live) in
      let e = sym s.lies ∙ ap (λ (x : Allocation). x.home) same ∙ d.lies in cc)

  -- nor one of another id
  pub alone_stays : (i k : ℕ) → (i ≡ id → ⊥) → dedicated_of b i ≡ Some k → Stays (allocation_at b.pools k) (slice_index_or less k None)
  alone_stays i k other alone = less_stays k (λ is.
      let s = h.dedicated i k alone in
      let same = some-is s.allocation d.allocation (sym s.live ∙ ap (λ (l : ℕ). allocation_at b.pools l) is ∙ d.live) in
      let e : s.number ≡ d.number = own_number s.number d.number (sym s.lies ∙ ap (λ (x : Allocation). x.home) same ∙ d.lies) in
      other (h.own i id d.number (s.owns ∙ ap (λ (n : ℕ). Some n) e) d.owns))
    where
      own_number : (n k : ℕ) → home.Own n ≡ home.Own k → n ≡ k
      own_number n k e = cc

  pub less_had : (x : Owner) (k : ℕ) → Has (record b.pools { allocations = less }) x k → Has b.pools x k
  less_had (Alone j) k had = (had.0, sym (less_other j (less_away j had.0 had.1)) ∙ had.1, had.2)
  less_had (BlockOf p j) k had = had

  pub less_was : (j : ℕ) (x : Allocation) → slice_index_or less j None ≡ Some x → (y : Allocation) × (allocation_at b.pools j ≡ Some y) × (dedicated_of b id ≡ Some j → ⊥)
  less_was j x at = let away = less_away j x at in (x, sym (less_other j away) ∙ at, λ alone. away (some-is j a (sym alone ∙ its_dedicated)))

  module _ (new : PoolsState) (gone : Option ℕ) (ended : IfLive b.pools a (λ x. IsEnded b.pools new a x.home gone)) where
    its_end : (gone ≡ Some o.object) × (new ≡ record b.pools { allocations = less })
    its_end = subst (λ (l : Home). IsEnded b.pools new a l gone) its_lies (live-holds b.pools a (λ x. IsEnded b.pools new a x.home gone) ended d.allocation d.live)

    pub its_gone : gone ≡ Some o.object
    its_gone = its_end.0

    pub its_state : new ≡ record b.pools { allocations = less }
    its_state = its_end.1

    pub its_memory : released m gone ≡ with_object m o.object None
    its_memory = ap (λ (g : Option ℕ). released m g) its_gone
