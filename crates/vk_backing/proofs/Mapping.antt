-- How often an allocation is mapped changes nothing else.
use Rattle.std.proofs.Common.{◌≡◌, ℕ, zero, suc, ◌-◌, ◌<◌, arith, Result, Ok, Err, OnOk, OnErr, IsOk, List, set, Option, Some, None, refl, sym, ap, subst, ◌∙◌, inl, inr}
use Rattle.std.specs.Prelude.{◌↔◌}
use Rattle.std.specs.Option.{option_or}
use Rattle.std.proofs.lemmas.Bool.{cases_eq}
use Rattle.std.proofs.lemmas.List.{set-get_or}
use Rattle.vk_memory.specs.MemoryState.{MemoryState}
use Rattle.vk_model.specs.declared.resource.Spot.{Spot}
use Rattle.vk_model.specs.Memory.Allocations.{Allocated}
use Rattle.vma_pools.specs.declared.allocations.Allocation.{Allocation}
use Rattle.vma_pools.specs.State.{PoolsState, allocation_at, with_allocation, IfLive, ArePools, Backs, Owner, Alone, BlockOf, Has}
use Rattle.vma_pools.proofs.NumberLemmas.{at-below, at-set, at-other}
use Rattle.vma_pools.proofs.StateLemmas.{some-is}
use Rattle.vk_memory.specs.declared.memories.MapState.{MapState}
use Rattle.vma_pools.proofs.EndedLemmas.{live-is}
use Rattle.vma_pools.proofs.CallLemmas.{live-and, live-holds}
use Rattle.vk_backing.specs.Backed.{Backed, dedicated_of, allocation_of, mapping_of, info_by, LiesIn, IsBacked, IsWhole}
use Rattle.vk_backing.specs.Allotted.{allotted, Fulfils}
use Rattle.vk_backing.specs.Steps.{Counts, Maps}
use Rattle.vk_backing.proofs.Turned.{Stays, dedicated_stays, turned_shared, turned_pools, turned_keeps}

-- whatever is mapped with an id is live
pub mapping_live : (b : Backed) (m : MemoryState) → IsBacked b m → (id a : ℕ) → mapping_of b id ≡ Some a → (x : Allocation) × (allocation_at b.pools a ≡ Some x)
mapping_live b m h id a is = go (dedicated_of b id) refl is
  where
    go : (o : Option ℕ) → dedicated_of b id ≡ o → option_or o (allocation_of b id) ≡ Some a → (x : Allocation) × (allocation_at b.pools a ≡ Some x)
    go None e has = let s = h.shared id a has in (s.allocation, s.live)
    go (Some k) e has = let d = h.dedicated id a (e ∙ has) in (d.allocation, d.live)

module _ (b : Backed) (m : MemoryState) (h : IsBacked b m) (a : ℕ) (x : Allocation) (live : allocation_at b.pools a ≡ Some x) (n : ℕ) where
  abbrev pub counted : PoolsState
  counted = with_allocation b.pools a (record x { maps = n })

  abbrev pub mapped : Backed
  mapped = record b { pools = counted }

  counted_here : allocation_at counted a ≡ Some (record x { maps = n })
  counted_here = at-set b.pools.allocations a (Some (record x { maps = n })) (at-below b.pools.allocations a x live)

  counted_other : (j : ℕ) → (j ≡ a → ⊥) → allocation_at counted j ≡ allocation_at b.pools j
  counted_other j other = at-other b.pools.allocations a j (Some (record x { maps = n })) other

  counted_stays : (j : ℕ) → Stays (allocation_at b.pools j) (allocation_at counted j)
  counted_stays j y at = elim (cases_eq j a) [
    | inl is ↦ (let same : x ≡ y = some-is x y (sym live ∙ ap (λ (k : ℕ). allocation_at b.pools k) (sym is) ∙ at) in
        (record x { maps = n }, ap (λ (k : ℕ). allocation_at counted k) is ∙ counted_here, ap (λ (z : Allocation). z.home) same, ap (λ (z : Allocation). z.asked) same, ap (λ (z : Allocation). z.target) same))
    | inr other ↦ (y, counted_other j other ∙ at, refl, refl, refl)
  ]

  -- each was an allocation before, and lay there
  counted_was : (j : ℕ) (y : Allocation) → allocation_at counted j ≡ Some y → (z : Allocation) × (allocation_at b.pools j ≡ Some z) × (z.home ≡ y.home)
  counted_was j y at = elim (cases_eq j a) [
    | inl is ↦ (x, ap (λ (k : ℕ). allocation_at b.pools k) is ∙ live, ap (λ (z : Allocation). z.home) (some-is (record x { maps = n }) y (sym counted_here ∙ ap (λ (k : ℕ). allocation_at counted k) (sym is) ∙ at)))
    | inr other ↦ (y, sym (counted_other j other) ∙ at, refl)
  ]

  counted_had : (z : Owner) (k : ℕ) → Has counted z k → Has b.pools z k
  counted_had (Alone j) k has = let w = counted_was j has.0 has.1 in (w.0, w.1, w.2 ∙ has.2)
  counted_had (BlockOf p j) k has = has

  pub mapped_backed : ArePools counted → Backs counted m → IsBacked mapped m
  mapped_backed always backs = record {
    pools = always;
    backs = backs;
    matched = h.matched;
    sized = h.sized;
    live = h.live;
    own = h.own;
    apart = λ i k z has its. h.apart i k z has (counted_had z k its);
    dedicated = λ i j has. dedicated_stays (allocation_at b.pools j) (allocation_at counted j) _ _ (counted_stays j) refl (h.dedicated i j has);
    either = h.either;
    named = h.named;
    one_pool = h.one_pool;
    shared = λ i j has. turned_shared b m h b.owned counted.allocations (λ i j e. counted_stays j) i j has;
    one = h.one;
  }

  pub mapped_whole : IsWhole b → IsWhole mapped
  mapped_whole whole j y at = let w = counted_was j y at in whole j w.0 w.1

  pub mapped_keeps : (i q : ℕ) (s : Spot) → LiesIn b i q s → LiesIn mapped i q s
  mapped_keeps i q s l = turned_keeps b m h b.owned counted.allocations (λ i j e. counted_stays j) i q s l

  pub mapped_allotted : (d : Allocated) → Fulfils (allotted b m) d → Fulfils (allotted mapped m) d
  mapped_allotted d is = record {
    sizes = is.sizes;
    used = is.used;
    count = is.count;
    objects = is.objects;
    pools = λ i. turned_pools b m h b.owned counted.allocations (λ i j e. counted_stays j) i _ _ (is.pools i);
  }

-- ---- what a call that counts leaves

-- a count that stays changes nothing
pub same_count : (s : PoolsState) (a : ℕ) (x : Allocation) → allocation_at s a ≡ Some x → (n : ℕ) → n ≡ x.maps → s ≡ with_allocation s a (record x { maps = n })
same_count s a x live n is =
    ap (λ (l : List (Option Allocation)). record s { allocations = l }) (sym (set-get_or s.allocations a None) ∙ ap (λ (o : Option Allocation). set s.allocations a o) live)
    ∙ ap (λ (k : ℕ). with_allocation s a (record x { maps = k })) (sym is)

module _ (b : Backed) (m : MemoryState) (h : IsBacked b m) (id a : ℕ) (is : mapping_of b id ≡ Some a) (change : ℕ → ℕ) (new : PoolsState) (counts : IfLive b.pools a (λ x. new ≡ with_allocation b.pools a (record x { maps = change x.maps }))) where
  abbrev its : (x : Allocation) × (allocation_at b.pools a ≡ Some x)
  its = mapping_live b m h id a is

  state : new ≡ counted b m h a its.0 its.1 (change its.0.maps)
  state = live-holds b.pools a (λ x. new ≡ with_allocation b.pools a (record x { maps = change x.maps })) counts its.0 its.1

  pub counted_maps : Maps b (record b { pools = new }) id change
  counted_maps = record {
    counts = subst (λ (o : Option ℕ). Counts o change b (record b { pools = new })) (sym is) (live-and b.pools a its.0 (λ x. record b { pools = new } ≡ record b { pools = with_allocation b.pools a (record x { maps = change x.maps }) }) its.1 (ap (λ (s : PoolsState). record b { pools = s }) state));
    owned = refl;
    numbers = refl;
    allocations = refl;
    keeps = λ i q s l. subst (λ (x : PoolsState). LiesIn (record b { pools = x }) i q s) (sym state) (mapped_keeps b m h a its.0 its.1 (change its.0.maps) i q s l);
    infos = λ i. ap (λ (x : PoolsState). info_by (record b { pools = x }) i) state;
  }

  pub counted_backed : ArePools new → Backs new m → IsBacked (record b { pools = new }) m
  counted_backed always backs =
      subst (λ (s : PoolsState). IsBacked (record b { pools = s }) m) (sym state)
      (mapped_backed b m h a its.0 its.1 (change its.0.maps) (subst ArePools state always) (subst (λ (s : PoolsState). Backs s m) state backs))

  pub counted_whole : IsWhole b → IsWhole (record b { pools = new })
  counted_whole whole = subst (λ (s : PoolsState). IsWhole (record b { pools = s })) (sym state) (mapped_whole b m h a its.0 its.1 (change its.0.maps) whole)

  pub counted_allotted : (d : Allocated) → Fulfils (allotted b m) d → Fulfils (allotted (record b { pools = new }) m) d
  counted_allotted d are = subst (λ (s : PoolsState). Fulfils (allotted (record b { pools = s }) m) d) (sym state) (mapped_allotted b m h a its.0 its.1 (change its.0.maps) d are)

-- a mapping that is refused is none, and stays so
pub counted_down : (s new : PoolsState) (a : ℕ) (r : Result (Unit {0}) MapState) → OnOk r (IfLive s a (λ x. new ≡ with_allocation s a (record x { maps = x.maps - 1 }))) → IfLive s a (λ x. IsOk r ↔ (0 < x.maps)) → OnErr r (new ≡ s)
    → IfLive s a (λ x. new ≡ with_allocation s a (record x { maps = x.maps - 1 }))
counted_down s new a (Ok u) ok state err = ok
counted_down s new a (Err e) ok state err =
    let l = live-is s a (λ x. IsOk {T = Unit {0}} (Err e) ↔ (0 < x.maps)) state in
    live-and s a l.0 (λ x. new ≡ with_allocation s a (record x { maps = x.maps - 1 })) l.1 (err ∙ same_count s a l.0 l.1 (l.0.maps - 1) (none l.0.maps l.2.1))
  where
    none : (n : ℕ) → (0 < n → IsOk {T = Unit {0}} (Err e)) → n - 1 ≡ n
    none zero refused = refl
    none (suc n) refused = absurd (let f = refused (omega arith) in cc)
